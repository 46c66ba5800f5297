-- The sentences of puns (own; the OCaml manual, "Function parameters" and "Records").
use Rattle.std.specs.Prelude.{ℕ, ◌-◌, ◌==◌, List, [], ◌∷◌, Option, Some, None, codes, slice_get, if◌then◌else◌}
use Rattle.std.specs.Str.{bytes_eq}
use Rattle.report.specs.Pieces.{Word, join}
use Rattle.rotor_base.specs.declared.place.Place.{Place}
use Rattle.messages.specs.declared.kinds.Kind.TheVariants as kind
use Rattle.messages.specs.declared.parts.Message.{Message}
use Rattle.ml_lexer.specs.Lexed.{Lexeme}
use Rattle.refusal_words.specs.declared.puns.Mark.{Mark}
use Rattle.refusal_words.specs.declared.puns.Mark.TheVariants.{Tilde, Question}
use Rattle.refusal_words.specs.declared.puns.Pun.{Pun}
use Rattle.refusal_words.specs.declared.puns.Pun.TheVariants.{Label, Argument, Field}
use Rattle.refusal_words.specs.Cut.{Cut}
use Rattle.refusal_words.specs.Parts.{around, placed}
use Rattle.refusal_words.specs.Stretches.{is_label, place_spot, word_at, word_before}

abbrev pub mark_of : ℕ → Mark
mark_of b = if b == 63 then Question else Tilde

abbrev pub mark_text : Mark → Word
mark_text Tilde = codes "~"
mark_text Question = codes "?"

abbrev pub label_pun : List ℕ → Pun
label_pun [] = Label Tilde
label_pun (b ∷ bs) = Label (mark_of b)

-- of a word in parentheses behind this word
abbrev pub argument_pun : List ℕ → Pun
argument_pun before =
    if bytes_eq before (codes "~") then Argument Tilde else (if bytes_eq before (codes "?") then Argument Question else Field)

-- a label, a word behind a mark and a parenthesis, or a field
abbrev pub token_pun : List Lexeme → Lexeme → ℕ → Pun
token_pun xs x number =
    if is_label x.class then label_pun x.bytes
    else (if bytes_eq (word_before xs number 1) (codes "(") then argument_pun (word_before xs number 2) else Field)

abbrev pub found_pun : Cut → Option Lexeme → ℕ → Pun
found_pun cut (Some x) number = token_pun cut.lexemes x number
found_pun cut None number = Field

abbrev pub cut_pun : Cut → ℕ → Pun
cut_pun cut number = found_pun cut (slice_get cut.lexemes (number - 1)) number

abbrev pub pun_among : Option Cut → ℕ → Pun
pun_among (Some cut) number = cut_pun cut number
pun_among None number = Field

-- at a place
abbrev pub pun_at : List Cut → Place → Pun
pun_at cuts p = pun_among (slice_get cuts p.file) p.token

abbrev pub pun_sentence : Pun → Word
pun_sentence (Label mark) = codes "` is a label and a value here at once"
pun_sentence (Argument mark) = codes "` is a label and a value here at once"
pun_sentence Field = codes "` is a field and a value here at once"

-- the word twice with its mark and a text between, in place of once behind the mark and an opening
abbrev pub written_for : Word → Word → Word → Word → Word
written_for word mark between opening =
    join (codes "write `" ∷ mark ∷ word ∷ between ∷ word ∷ codes "` in place of `" ∷ mark ∷ opening ∷ word ∷ codes "` first, then rename" ∷ [])

abbrev pub pun_help : Pun → Word → Word
pun_help (Label mark) word = written_for word (mark_text mark) (codes ":") []
pun_help (Argument mark) word = written_for word (mark_text mark) (codes ":(") (codes "(")
pun_help Field word = written_for word [] (codes " = ") []

abbrev pub pun_refused : List Cut → Place → Message
pun_refused cuts at =
    placed kind.Pun (around (codes "`") (word_at cuts at) (pun_sentence (pun_at cuts at))) (place_spot cuts at) []
    (Some (pun_help (pun_at cuts at) (word_at cuts at)))
