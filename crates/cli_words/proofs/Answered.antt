-- The answer to the words, by what `clap` read of them.
use Rattle.std.proofs.Common.{◌≡◌, ◌∙◌, Bool, true, false, List, Option, Some, None, Result, Ok, Err, IfOk, IsErrAnd, refl, sym, ap}
use Rattle.cli_words.specs.Grammar.{is_taken, read_of}
use Rattle.cli_words.specs.Words.{Word, asked, command_by, command_of}
use Rattle.cli_words.specs.Written.{is_written}
use Rattle.cli_words.specs.declared.asked.Asked.{Asked}
use Rattle.cli_words.specs.declared.command.Command.{Command}
use Rattle.cli_words.specs.declared.command.WordsError.{WordsError}
use Rattle.cli_words.proofs.Agree.{asked_is_heard, asked_is_written, written_is_asked}
use Rattle.cli_words.proofs.Forms.{taken_by, read_by}

pub not_true : (b : Bool) → (b ≡ true → ⊥) → b ≡ false
not_true true h = absurd (h refl)
not_true false h = refl

none_or : {A : Type 0} (o : Option A) → ((x : A) → o ≡ Some x → ⊥) → o ≡ None
none_or None h = refl
none_or (Some x) h = absurd (h x refl)

no_command : (ws : List Word) → asked ws ≡ None → command_of ws ≡ None
no_command ws e = rw e refl

-- words that `clap` does not take
pub untaken : (ws : List Word) → is_taken ws ≡ false → command_of ws ≡ None
untaken ws e = no_command ws (none_or (asked ws) (λ form h. let bad : false ≡ true = sym e ∙ taken_by ws form (asked_is_heard form ws h) in cc))

-- words that are no subcommand
pub unread : (ws : List Word) → read_of ws ≡ None → command_of ws ≡ None
unread ws e = no_command ws
    (none_or (asked ws) (λ form h. let bad : ◌≡◌ {A = Option (Asked Word)} None (Some form) = sym e ∙ read_by ws form (asked_is_heard form ws h) in
    cc))

-- words that are read as a form that is written out in another way
pub unwritten : (ws : List Word) (form : Asked Word) → read_of ws ≡ Some form → is_written form ws ≡ false → command_of ws ≡ None
unwritten ws form r e = no_command ws (none_or (asked ws) (λ other h.
    let same : Some form ≡ Some other = sym r ∙ read_by ws other (asked_is_heard other ws h) in
    let is : other ≡ form = cc in
    let bad : false ≡ true = sym e ∙ ap (λ (f : Asked Word). is_written f ws) (sym is) ∙ asked_is_written other ws h in cc))

-- words that are a form written out
pub written : (ws : List Word) (form : Asked Word) → is_written form ws ≡ true → command_of ws ≡ command_by form
written ws form e = rw (written_is_asked form ws e) refl

-- `?` passes an error up as it is
pub passed : {T S E : Type 0} (r : Result T E) (e u : E) → IsErrAnd r (λ y. y ≡ e) → r ≡ Err u → ◌≡◌ {A = Result S E} (Err e) (Err u)
passed (Ok x) e u h g = cc
passed (Err y) e u h g = cc

-- an answer that the form gives is the answer to the words
pub ok_by : (ws : List Word) (form : Asked Word) (r : Result Command WordsError) → is_written form ws ≡ true → IfOk r (λ c. command_by form ≡ Some c)
    → IfOk r (λ c. command_of ws ≡ Some c)
ok_by ws form (Ok c) w h = written ws form w ∙ h
ok_by ws form (Err e) w h = tt
