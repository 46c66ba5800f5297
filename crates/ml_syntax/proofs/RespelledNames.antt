-- A name of a place may become any value name.
use Rattle.std.proofs.Common.{◌≡◌, ℕ, zero, suc, ◌<◌, inl, inr, List, [], ◌∷◌, ◌++◌, map, Bool, true, false, not, ◌==◌, ◌&&◌, ◌||◌, Option, Some}
use Rattle.std.proofs.Common.{None, All, length, slice_index_or, codes, refl, ap, sym, subst, ◌∙◌, arith, append_assoc, length-append}
use Rattle.std.specs.Prelude.{slice_index}
use Rattle.std.specs.List.{list_all}
use Rattle.std.specs.Str.{byte, bytes_eq}
use Rattle.std.proofs.lemmas.Slice.Eq.{bytes_eq-Decides}
use Rattle.rotor_base.specs.declared.token.Class.{Class}
use Rattle.rotor_base.specs.declared.token.Class.TheVariants as class
use Rattle.ml_lexer.specs.declared.piece.Piece.{Piece}
use Rattle.ml_lexer.specs.declared.piece.Piece.TheVariants as piece
use Rattle.ml_lexer.specs.Pieces.{piece_at, lexeme_at, sign_at, mark_length, begins_operator, begins_label}
use Rattle.ml_lexer.specs.Quotes.{opens_quoted}
use Rattle.ml_lexer.specs.Lexed.{Lexeme}
use Rattle.ml_lexer.specs.Laws.{IsWhole}
use Rattle.ml_lexer.specs.Respelled.{IsBehindBrace, BarFollows, MayBecomeBetween, AllMayBecomeBehind}
use Rattle.ml_lexer.proofs.Order.{EachWhole, each_whole}
use Rattle.ml_lexer.proofs.Between.{names_keep_lexemes}
use Rattle.ml_trees.specs.declared.fixed.Fixed.{Fixed}
use Rattle.ml_trees.specs.declared.fixed.Fixed.TheVariants as key
use Rattle.ml_trees.specs.Tok.{Tok, placed, word, fixed_of, fixed_among, fixed_at, tok_or, tok, spellings}
use Rattle.ml_trees.specs.Words.{words}
use Rattle.value_sites.specs.Places.{Site, sites}
use Rattle.value_sites.specs.Sound.{IsLexeme, AreNumbered}
use Rattle.ml_syntax.specs.Standing.{begins_bar, is_safe, EndsInBrace, StandsAt, AreNumberedBy}
use Rattle.value_sites.specs.Respelled.{Spelling, spelled, spell_tok}
use Rattle.ml_syntax.specs.RespelledFile.{lexeme_toks, new_words, LexemesAreNumbered, ChangesNames, SitesMayBecome, RespelledNamesAreRead}
use Rattle.ml_syntax.proofs.Numbers.{sites_are_numbered}
use Rattle.ml_syntax.proofs.RespelledFile.{respelled_tokens}
use Rattle.value_sites.proofs.Spelling.{respelling_keeps_the_tree}

abbrev class_and_text : Lexeme → Class × List ℕ
class_and_text x = (x.class, x.bytes)

all_lexemes : (xs : List Lexeme) → EachWhole xs → All IsLexeme (map class_and_text xs)
all_lexemes [] each k d less = absurd (omega (arith, less))
all_lexemes (x ∷ xs) each zero d less = each.0
all_lexemes (x ∷ xs) each (suc k) d less = all_lexemes xs each.1 k d (omega (arith, less))

pub lexemes_are_numbered : LexemesAreNumbered
lexemes_are_numbered bytes xs cut = (map class_and_text xs, refl, all_lexemes xs (each_whole cut))

-- ---- a word that begins with `|`

abbrev is_bar_key : Fixed → Bool
is_bar_key key.Bar = true
is_bar_key key.RightArray = true
is_bar_key _ = false

key_begins : (x : Fixed) (at : ℕ) → is_bar_key x ≡ true → begins_bar (fixed_at at x) ≡ true
key_begins key.Bar at e = refl
key_begins key.RightArray at e = refl
key_begins _ at e = cc

abbrev Entry : Type 0
Entry = List ℕ × Fixed

-- a spelling that begins with `|` is that of a word that does
abbrev is_right : Entry → Bool
is_right x = not (slice_index x.0 0 == 124) || is_bar_key x.1

and_both : (a b : Bool) → (a && b) ≡ true → (a ≡ true) × (b ≡ true)
and_both true b e = (refl, e)
and_both false b e = cc

among_bar : (xs : List Entry) (bytes : List ℕ) (m : Fixed) → list_all is_right xs ≡ true → slice_index bytes 0 ≡ 124
    → fixed_among (λ x. x.0) (λ x. x.1) bytes xs ≡ Some m → is_bar_key m ≡ true
among_bar [] bytes m all bar e = cc
among_bar (x ∷ xs) bytes m all bar e = by_first (bytes_eq x.0 bytes) refl (λ k. among_bar xs bytes m parts.1 bar k) where
  parts : (is_right x ≡ true) × (list_all is_right xs ≡ true)
  parts = and_both (is_right x) (list_all is_right xs) all

  by_first : (b : Bool) → bytes_eq x.0 bytes ≡ b → (fixed_among (λ y. y.0) (λ y. y.1) bytes xs ≡ Some m → is_bar_key m ≡ true) → is_bar_key m ≡ true
  by_first true h more =
      let same : x.0 ≡ bytes = (bytes_eq-Decides x.0 bytes).0 h in
      let first : slice_index x.0 0 ≡ 124 = ap (λ l. slice_index l 0) same ∙ bar in
      let test : (slice_index x.0 0 == 124) ≡ true = ap (λ n. n == 124) first in
      let got : is_bar_key x.1 ≡ true = ap (λ v. not v || is_bar_key x.1) (sym test) ∙ parts.0 in
      let meant : x.1 ≡ m = let now = rw h at e in cc in
      ap is_bar_key (sym meant) ∙ got
  by_first false h more = more (rw h at e)

fixed_bar : (bytes : List ℕ) (m : Fixed) → slice_index bytes 0 ≡ 124 → fixed_of bytes ≡ Some m → is_bar_key m ≡ true
unfolding fixed_of
fixed_bar bytes m bar e = among_bar spellings bytes m refl bar e

word_bar : (c : Class) (at : ℕ) (text : List ℕ) → slice_index text 0 ≡ 124 → begins_bar (word c (record { at = at; text = text })) ≡ true
word_bar c at text bar = ap (λ n. n == byte "|") bar

or_bar : (c : Class) (at : ℕ) (text : List ℕ) (o : Option Fixed) → fixed_of text ≡ o → slice_index text 0 ≡ 124
    → begins_bar (tok_or (word c (record { at = at; text = text })) at o) ≡ true
or_bar c at text None e bar = word_bar c at text bar
or_bar c at text (Some m) e bar = key_begins m at (fixed_bar text m bar e)

tok_bar : (c : Class) (at : ℕ) (text : List ℕ) → slice_index text 0 ≡ 124 → begins_bar (tok c at text) ≡ true
tok_bar class.Keyword at text bar = or_bar class.Keyword at text (fixed_of text) refl bar
tok_bar class.Mark at text bar = or_bar class.Mark at text (fixed_of text) refl bar
tok_bar c at text bar = word_bar c at text bar

-- ---- a word `{`

brace_piece : piece_at (123 ∷ []) ≡ piece.Lexeme class.Mark 1
unfolding piece_at lexeme_at sign_at mark_length begins_operator begins_label opens_quoted
brace_piece = refl

class_same : (k kind : Class) (n m : ℕ) → ◌≡◌ {A = Piece} (piece.Lexeme kind n) (piece.Lexeme k m) → kind ≡ k
class_same k kind n m e = cc

brace_mark : (at : ℕ) → tok class.Mark at (123 ∷ []) ≡ placed key.LeftBrace at
unfolding fixed_of
brace_mark at = refl

brace_tok : (y : Lexeme) (at : ℕ) → IsWhole y → y.bytes ≡ codes "{" → tok y.class at y.bytes ≡ placed key.LeftBrace at
brace_tok y at whole e =
    let kind : class.Mark ≡ y.class = class_same y.class class.Mark 1 (length y.bytes) (sym brace_piece ∙ ap piece_at (sym e) ∙ whole) in
    ap (λ c. tok c at y.bytes) (sym kind) ∙ ap (λ b. tok class.Mark at b) e ∙ brace_mark at

-- ---- the names

-- if the lexeme before is a `{`, the words so far end with a `{`
abbrev Ends : List Tok → Option Lexeme → Type 0
Ends past None = Unit {0}
Ends past (Some y) = y.bytes ≡ codes "{" → EndsInBrace past

head_same : (a b : Tok) (u v : List Tok) → a ∷ u ≡ b ∷ v → a ≡ b
head_same a b u v e = cc

tail_same : (a b : Tok) (u v : List Tok) → a ∷ u ≡ b ∷ v → u ≡ v
tail_same a b u v e = cc

pub front_same : (a b : List Tok) (x y : Tok) (u v : List Tok) → length a ≡ length b → a ++ x ∷ u ≡ b ++ y ∷ v → a ≡ b
front_same [] [] x y u v size e = refl
front_same [] (p ∷ b) x y u v size e = absurd (omega (arith, size))
front_same (p ∷ a) [] x y u v size e = absurd (omega (arith, size))
front_same (p ∷ a) (q ∷ b) x y u v size e =
    ap (λ (l : List Tok). p ∷ l) (front_same a b x y u v (omega (arith, size)) (tail_same p q (a ++ x ∷ u) (b ++ y ∷ v) e))
    ∙ ap (λ t. t ∷ b) (head_same p q (a ++ x ∷ u) (b ++ y ∷ v) e)

pub back_same : (a b : List Tok) (x y : Tok) (u v : List Tok) → length a ≡ length b → a ++ x ∷ u ≡ b ++ y ∷ v → u ≡ v
back_same [] [] x y u v size e = tail_same x y u v e
back_same [] (p ∷ b) x y u v size e = absurd (omega (arith, size))
back_same (p ∷ a) [] x y u v size e = absurd (omega (arith, size))
back_same (p ∷ a) (q ∷ b) x y u v size e = back_same a b x y u v (omega (arith, size)) (tail_same p q (a ++ x ∷ u) (b ++ y ∷ v) e)

-- a place that is among the words
pub record Found (ts : List Tok) (s : Site) : Type 0 where
  pub count : ℕ
  pub numbered : s.at ≡ suc count
  pub stands : StandsAt ts count s

pub find : (ts : List Tok) (low : ℕ) (ss : List Site) (s : Site) → AreNumberedBy ts low ss → (k : ℕ) → k < length ss → slice_index_or ss k s ≡ s
    → Found ts s
find ts low [] s h k less e = absurd (omega (arith, less))
find ts low (x ∷ ss) s h zero less e = subst (Found ts) e (record { count = h.0; numbered = h.2; stands = h.3 })
find ts low (x ∷ ss) s h (suc k) less e = find ts (suc h.0) ss s h.4 k (omega (arith, less)) e

module _ (w : Spelling) (ts : List Tok) (ss : List Site) (numbers : AreNumberedBy ts 0 ss) (changes : ChangesNames w ss) where
  brace_ends : (before : Option Lexeme) (past : List Tok) (start : ℕ) → Ends past before → IsBehindBrace before start → EndsInBrace past
  brace_ends None past start ends b = absurd b
  brace_ends (Some y) past start ends b = ends b.0

  bar_unsafe : (xs : List Lexeme) (at end : ℕ) → BarFollows end xs → is_safe (lexeme_toks at xs) ≡ false
  bar_unsafe [] at end b = absurd b
  bar_unsafe (z ∷ zs) at end b = ap not (tok_bar z.class at z.bytes b.1)

  apart : (before : Option Lexeme) (past : List Tok) (here : Tok) (xs : List Lexeme) (at start end : ℕ) (s : Site)
      → ts ≡ past ++ here ∷ lexeme_toks (suc at) xs → suc (length past) ≡ at → Ends past before → Found ts s → s.at ≡ at → s.operator ≡ false
      → IsBehindBrace before start → BarFollows end xs → ⊥
  apart before past here xs at start end s whole size ends f is_at plain b bar =
      let st : StandsAt ts f.count s = f.stands in
      let number : s.at ≡ suc f.count = f.numbered in
      let place : length st.before ≡ f.count = st.place in
      let split : past ++ here ∷ lexeme_toks (suc at) xs ≡ st.before ++ st.here ∷ st.behind = sym whole ∙ st.split in
      let long : length past ≡ length st.before = omega (arith, size, is_at, number, place) in
      let front = front_same past st.before here st.here (lexeme_toks (suc at) xs) st.behind long split in
      let back = back_same past st.before here st.here (lexeme_toks (suc at) xs) st.behind long split in
      let safe : is_safe (lexeme_toks (suc at) xs) ≡ true = ap is_safe back
      ∙ st.apart plain (subst EndsInBrace front (brace_ends before past start ends b)) in
      let wrong : true ≡ false = sym safe ∙ bar_unsafe xs (suc at) end bar in
      cc

  one_word : (before : Option Lexeme) (past : List Tok) (c : Class) (start end : ℕ) (text : List ℕ) (xs : List Lexeme) (at : ℕ)
      → ts ≡ past ++ tok c at text ∷ lexeme_toks (suc at) xs → suc (length past) ≡ at → Ends past before
      → MayBecomeBetween before (record { class = c; start = start; end = end; bytes = text }) xs (spelled w c (record { at = at; text = text })).text
  one_word before past class.Lower start end text xs at whole size ends = elim (changes at text) [
    | inl same ↦ inl same
    | inr new ↦ inr (
      refl,
      new.0,
      λ b bar. apart before past (tok class.Lower at text) xs at start end new.1 whole size ends
          (find ts 0 ss new.1 numbers new.2.0 new.2.1 new.2.2) new.3 new.4 b bar,
    )
  ]
  one_word before past _ start end text xs at whole size ends = inl refl

  all_words : (before : Option Lexeme) (past : List Tok) (xs : List Lexeme) (at : ℕ) → EachWhole xs → ts ≡ past ++ lexeme_toks at xs
      → suc (length past) ≡ at → Ends past before → AllMayBecomeBehind before xs (new_words w at xs)
  all_words before past [] at each whole size ends = tt
  all_words before past (x ∷ xs) at each whole size ends =
      let t = tok x.class at x.bytes in
      let longer : suc (length (past ++ t ∷ [])) ≡ suc at = rw length-append (omega (arith, size)) in
      let more : ts ≡ (past ++ t ∷ []) ++ lexeme_toks (suc at) xs = whole ∙ sym (append_assoc past (t ∷ []) (lexeme_toks (suc at) xs)) in
      let last : Ends (past ++ t ∷ []) (Some x) = λ e. (past, at, ap (λ v. past ++ v ∷ []) (brace_tok x at each.0 e)) in (
        one_word before past x.class x.start x.end x.bytes xs at whole size ends,
        all_words (Some x) (past ++ t ∷ []) xs
            (suc at) each.1 more longer last,
      )

pub sites_may_become : SitesMayBecome
sites_may_become w t bytes xs wf cut same changes =
    let numbered = sites_are_numbered t wf (subst (AreNumbered 1) same (lexemes_are_numbered bytes xs cut)) in
    all_words w (words t) (sites t) numbered changes None [] xs 1 (each_whole cut) (sym same) refl tt

pub respelled_names_are_read : RespelledNamesAreRead
respelled_names_are_read w t bytes xs wf cut same changes =
    let tree = respelling_keeps_the_tree w t wf in (
      names_keep_lexemes bytes xs (new_words w 1 xs) cut (sites_may_become w t bytes xs wf cut same changes),
      tree.0,
      respelled_tokens w xs
          ∙ ap (map (spell_tok w)) same ∙ sym tree.1,
    )
