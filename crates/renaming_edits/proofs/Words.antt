-- The edits of the words of a source make it with its lexemes respelled.
use Rattle.std.proofs.Common.{◌≡◌, ℕ, suc, ◌-◌, ◌&&◌, ◌||◌, ◌==◌, List, [], ◌∷◌, All, Bool, true, false, true≢false, not, cond, map, length, take}
use Rattle.std.proofs.Common.{drop, refl, ap, sym, ◌∙◌, subst, arith}
use Rattle.std.specs.Prelude.{IfOk, Result, Ok, Err}
use Rattle.std.specs.BTreeSet.{BTreeSet, contains}
use Rattle.std.specs.Int.{is_in_range}
use Rattle.std.specs.List.{list_all}
use Rattle.std.proofs.lemmas.List.{take_all}
use Rattle.std.proofs.lemmas.List.Elements.{All-cons, All-nil}
use Rattle.rotor_base.specs.declared.place.Place.{Place}
use Rattle.rotor_base.specs.declared.token.Class.{Class}
use Rattle.rotor_base.specs.declared.token.Class.TheVariants as class
use Rattle.rotor_base.specs.Name.{is_identifier_byte, is_reserved_word, starts_as_value_name}
use Rattle.rotor_base.specs.Place.{place_cmp}
use Rattle.ml_lexer.specs.Bytes.{is_word_start}
use Rattle.ml_lexer.specs.Lexed.{Lexeme, Lexed}
use Rattle.ml_lexer.specs.Laws.{AreInOrder as InOrder, IsWhole}
use Rattle.ml_lexer.specs.Pieces.{piece_at}
use Rattle.ml_lexer.specs.declared.piece.Piece.TheVariants as piece
use Rattle.ml_lexer.specs.Respelled.{respelled}
use Rattle.ml_lexer.proofs.OneCutting.{one_lexed}
use Rattle.ml_lexer.proofs.Order.{lexemes_are_in_order, lexemes_are_whole}
use Rattle.lexeme_laws.specs.Table.{is_word, is_lower as is_lower_word}
use Rattle.lexeme_laws.proofs.Taken.{lexemes_begin}
use Rattle.edits.specs.Lexemes.{GiveWords, nothing, kept, changed}
use Rattle.edits.specs.Replaced.{AreInOrder, replaced}
use Rattle.edits.proofs.Lexemes.{replaced_is_respelled}
use Rattle.binding_model.specs.Scopes.{here}
use Rattle.rename_parts.specs.Hits.{hit_words, is_lower}
use Rattle.text_places.specs.declared.counting.Counting.{Counting}
use Rattle.source_edits.specs.declared.ranges.Span.{Span}
use Rattle.source_edits.specs.declared.text_edit.TextEdit.{TextEdit}
use Rattle.source_edits.specs.Edited.{IsEdited}
use Rattle.source_edits.specs.Renamed.{IsWord, edit_of}
use Rattle.renaming_edits.specs.Spans.{word_spans}

-- ---- the words of the edits

give_by : (new : List ℕ) (b : Bool) (x : Lexeme) (xs : List Lexeme) (words : List (List ℕ)) (spans : List Span)
    → GiveWords xs words (map (edit_of new) spans)
    → GiveWords (x ∷ xs) (cond b new x.bytes ∷ words) (map (edit_of new) (cond b (record { start = x.start; end = x.end } ∷ spans) spans))
give_by new true x xs words spans g = changed g
give_by new false x xs words spans g = kept refl g

give_words : (set : BTreeSet Place) (file : ℕ) (new : List ℕ) (n : ℕ) (xs : List Lexeme)
    → GiveWords xs (hit_words set file new n xs) (map (edit_of new) (word_spans set file n xs))
give_words set file new n [] = nothing
give_words set file new n (x ∷ xs) =
    give_by new (is_lower x.class && contains place_cmp set (here file n)) x xs (hit_words set file new (suc n) xs) (word_spans set file (suc n) xs)
    (give_words set file new (suc n) xs)

pub spans_in_order : (src : List ℕ) (xs : List Lexeme) (set : BTreeSet Place) (file : ℕ) (new : List ℕ) → Lexed src xs
    → AreInOrder 0 (length src) (map (edit_of new) (word_spans set file 1 xs))
spans_in_order src xs set file new cut =
    (replaced_is_respelled src xs (hit_words set file new 1 xs) (map (edit_of new) (word_spans set file 1 xs)) cut (give_words set file new 1 xs)).0

pub spans_respelled : (src : List ℕ) (xs : List Lexeme) (set : BTreeSet Place) (file : ℕ) (new : List ℕ) → Lexed src xs
    → replaced src (map (edit_of new) (word_spans set file 1 xs)) ≡ respelled src xs (hit_words set file new 1 xs)
spans_respelled src xs set file new cut =
    (replaced_is_respelled src xs (hit_words set file new 1 xs) (map (edit_of new) (word_spans set file 1 xs)) cut (give_words set file new 1 xs)).1

-- ---- a lower-case lexeme is a word

first : (a b : Bool) → (a && b) ≡ true → a ≡ true
first true b h = refl
first false b h = absurd cc

second : (a b : Bool) → (a && b) ≡ true → b ≡ true
second true b h = h
second false b h = absurd cc

-- a letter or `_` is an identifier character
starts_on : (d l s u q : Bool) → ((l || s) || u) ≡ true → ((((d || l) || s) || u) || q) ≡ true
starts_on true l s u q h = refl
starts_on false true s u q h = refl
starts_on false false true u q h = refl
starts_on false false false true q h = refl
starts_on false false false false q h = absurd cc

word_bytes : (bs : List ℕ) → is_word bs ≡ true → list_all is_identifier_byte bs ≡ true
word_bytes [] h = refl
word_bytes (b ∷ bs) h =
    let start : is_identifier_byte b ≡ true
    = starts_on (is_in_range 48 57 b) (is_in_range 65 90 b) (is_in_range 97 122 b) (b == 95) (b == 39)
    (first (is_word_start b) (list_all is_identifier_byte bs) h) in
    ap (λ t. t && list_all is_identifier_byte bs) start ∙ second (is_word_start b) (list_all is_identifier_byte bs) h

lower_bytes : (bs : List ℕ) → is_lower_word bs ≡ true → list_all is_identifier_byte bs ≡ true
lower_bytes bs h =
    word_bytes bs (first (is_word bs) (starts_as_value_name bs)
    (first (is_word bs && starts_as_value_name bs) (not (is_reserved_word bs)) h))

class_word : (kind : Class) (bs : List ℕ) → piece_at bs ≡ piece.Lexeme kind (length bs) → is_lower kind ≡ true → list_all is_identifier_byte bs ≡ true
class_word class.Lower bs whole e =
    lower_bytes bs (ap is_lower_word (sym (take_all (length bs) bs (omega arith))) ∙ (lexemes_begin bs class.Lower (length bs) whole).1)
class_word _ bs whole e = absurd (true≢false (sym e))

word_at : (src : List ℕ) (x : Lexeme) → IsWhole x → x.bytes ≡ take (x.end - x.start) (drop x.start src) → is_lower x.class ≡ true
    → IsWord src (record { start = x.start; end = x.end })
word_at src x whole is e = ap (list_all is_identifier_byte) (sym is) ∙ class_word x.class x.bytes whole e

words_by : (src : List ℕ) (b : Bool) (x : Lexeme) (spans : List Span) → (b ≡ true → IsWord src (record { start = x.start; end = x.end }))
    → All (IsWord src) spans → All (IsWord src) (cond b (record { start = x.start; end = x.end } ∷ spans) spans)
words_by src true x spans word all = All-cons (IsWord src) (record { start = x.start; end = x.end }) spans (word refl) all
words_by src false x spans word all = all

words_from : (src : List ℕ) (low : ℕ) (set : BTreeSet Place) (file n : ℕ) (xs : List Lexeme) → InOrder src low xs → All IsWhole xs
    → All (IsWord src) (word_spans set file n xs)
words_from src low set file n [] h whole = All-nil (IsWord src)
words_from src low set file n (x ∷ xs) h whole =
    words_by src (is_lower x.class && contains place_cmp set (here file n)) x (word_spans set file (suc n) xs)
    (λ b. word_at src x (whole 0 x (omega arith)) h.3 (first (is_lower x.class) (contains place_cmp set (here file n)) b))
    (words_from src x.end set file (suc n) xs h.4 (λ k d lt. whole (suc k) d (omega arith)))

pub spans_are_words : (src : List ℕ) (xs : List Lexeme) (set : BTreeSet Place) (file : ℕ) → Lexed src xs → All (IsWord src) (word_spans set file 1 xs)
spans_are_words src xs set file cut = words_from src 0 set file 1 xs (lexemes_are_in_order src xs cut) (lexemes_are_whole src xs cut)

-- ---- the whole

pub if_ok_as : {A E : Type 0} (r : Result A E) (P Q : A → Type 0) → ((a : A) → P a → Q a) → IfOk r P → IfOk r Q
if_ok_as (Ok a) P Q f h = f a h
if_ok_as (Err e) P Q f h = h

pub edits_respell : (c : Counting) (src : List ℕ) (ts : List Lexeme) (set : BTreeSet Place) (file : ℕ) (new : List ℕ) (list : List TextEdit)
    → Lexed src ts → IsEdited c src list (replaced src (map (edit_of new) (word_spans set file 1 ts)))
    → (xs : List Lexeme) → Lexed src xs → IsEdited c src list (respelled src xs (hit_words set file new 1 xs))
edits_respell c src ts set file new list cut edited xs other =
    let same : ts ≡ xs = one_lexed cut other in
    let there : replaced src (map (edit_of new) (word_spans set file 1 ts)) ≡ respelled src xs (hit_words set file new 1 xs)
    = spans_respelled src ts set file new cut ∙ ap (λ l. respelled src l (hit_words set file new 1 l)) same in
    subst (IsEdited c src list) there edited

-- if no word is changed, the source stays
pub none_changed : (src : List ℕ) (xs : List Lexeme) (set : BTreeSet Place) (file : ℕ) (new : List ℕ) → Lexed src xs
    → ((n : ℕ) → contains place_cmp set (here file n) ≡ false) → respelled src xs (hit_words set file new 1 xs) ≡ src
none_changed src xs set file new cut none =
    sym (spans_respelled src xs set file new cut) ∙ ap (λ (spans : List Span). replaced src (map (edit_of new) spans)) (no_spans 1 xs)
  where
    skip : (a b : Bool) (s : Span) (spans : List Span) → b ≡ false → cond (a && b) (s ∷ spans) spans ≡ spans
    skip true true s spans e = absurd (true≢false e)
    skip true false s spans e = refl
    skip false b s spans e = refl

    no_spans : (n : ℕ) (ys : List Lexeme) → word_spans set file n ys ≡ []
    no_spans n [] = refl
    no_spans n (y ∷ ys) =
        skip (is_lower y.class) (contains place_cmp set (here file n)) (record { start = y.start; end = y.end }) (word_spans set file (suc n) ys)
        (none n)
        ∙ no_spans (suc n) ys
