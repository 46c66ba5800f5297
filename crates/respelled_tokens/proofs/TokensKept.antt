-- The tokens of respelled lexemes.
use Rattle.std.proofs.Common.{◌≡◌, ℕ, zero, suc, ◌+◌, ◌-◌, ◌≤◌, ◌⊎◌, inl, inr, List, [], ◌∷◌, ◌==◌, map, length, drop, None, refl, ap, sym, ◌∙◌}
use Rattle.std.proofs.Common.{arith}
use Rattle.std.proofs.lemmas.Bool.Decides.{nat_tests}
use Rattle.rotor_base.specs.declared.token.Class.{Class}
use Rattle.rotor_base.specs.declared.token.Class.TheVariants as class
use Rattle.rotor_base.specs.declared.token.Token.{Token}
use Rattle.ml_lexer.specs.Lexed.{Lexeme, view_token, view_tokens}
use Rattle.ml_lexer.specs.Laws.{AreInOrder}
use Rattle.ml_lexer.specs.Respelled.{respelled_lexemes_from}
use Rattle.ml_lexer.proofs.Local.{which}
use Rattle.ml_lexer.proofs.Order.{lexemes_are_in_order}
use Rattle.ml_trees.specs.Tok.{Name, toks_from}
use Rattle.value_sites.specs.Respelled.{Spelling, spelled, spell_tok}
use Rattle.ml_syntax.specs.RespelledFile.{lexeme_toks, new_words}
use Rattle.ml_syntax.proofs.RespelledFile.{respelled_tokens}
use Rattle.token_reading.specs.Tokens.{lexeme, from}
use Rattle.respelled_tokens.specs.Kept.{touches, IsAlike, AreAlike, RespelledTokensAreKept, RespellingKeepsTheReading}
use Rattle.respelled_tokens.proofs.Kept.{nesting_is_kept}
use Rattle.respelled_tokens.proofs.FormsKept.{forms_are_kept}
use Rattle.ml_lexer.proofs.OneCutting.{one_lexed}
use Rattle.ml_syntax.proofs.RespelledNames.{respelled_names_are_read}

head_same : (a b : Lexeme) (u v : List Lexeme) → a ∷ u ≡ b ∷ v → a ≡ b
head_same a b u v e = cc

tail_same : (a b : Lexeme) (u v : List Lexeme) → a ∷ u ≡ b ∷ v → u ≡ v
tail_same a b u v e = cc

-- ---- the words of the grammar

toks_drop : (n at : ℕ) (xs : List (Class × List ℕ)) → toks_from (at + n) (drop n xs) ≡ drop n (toks_from at xs)
toks_drop zero at xs = let same : at + 0 ≡ at = omega arith in ap (λ k. toks_from k xs) same
toks_drop (suc n) at [] = refl
toks_drop (suc n) at (x ∷ xs) = let same : at + suc n ≡ suc at + n = omega arith in ap (λ k. toks_from k (drop n xs)) same ∙ toks_drop n (suc at) xs

map_drop : {A B : Type 0} (f : A → B) (n : ℕ) (xs : List A) → map f (drop n xs) ≡ drop n (map f xs)
map_drop f zero xs = refl
map_drop f (suc n) [] = refl
map_drop f (suc n) (x ∷ xs) = map_drop f n xs

views_same : (ts : List Token) → map lexeme ts ≡ map (λ x. (x.class, x.bytes)) (view_tokens ts)
views_same [] = refl
views_same (t ∷ ts) = ap (λ v. lexeme t ∷ v) (views_same ts)

from_is : (ts : List Token) (at : ℕ) → from ts at ≡ drop at (lexeme_toks 1 (view_tokens ts))
unfolding from
from_is ts at =
    let same : at + 1 ≡ 1 + at = omega arith in
    ap (λ k. toks_from k (map lexeme (drop at ts))) same ∙ ap (toks_from (1 + at)) (map_drop lexeme at ts) ∙ toks_drop at 1 (map lexeme ts)
    ∙ ap (λ v. drop at (toks_from 1 v)) (views_same ts)

as_many : (ts : List Token) → length (view_tokens ts) ≡ length ts
as_many [] = refl
as_many (t ∷ ts) = ap suc (as_many ts)

respelled_many : (w : Spelling) (at old now : ℕ) (xs : List Lexeme) → length (respelled_lexemes_from old now xs (new_words w at xs)) ≡ length xs
respelled_many w at old now [] = refl
respelled_many w at old now (x ∷ xs) = ap suc (respelled_many w (suc at) x.end _ xs)

-- ---- the tokens

text_kept : (w : Spelling) (c : Class) (x : Name) → ((spelled w c x).text ≡ x.text) ⊎ (c ≡ class.Lower)
text_kept w class.Lower x = inr refl
text_kept w _ x = inl refl

shift : (a b e : ℕ) → a ≤ b → (e == e + (b - a)) ≡ (a == b)
shift a b e le = elim (which (a == b)) [
  | inl y ↦ grind (arith, nat_tests, y, le)
  | inr y ↦ grind (arith, nat_tests, y, le)
]

one_alike : (w : Spelling) (at start : ℕ) (t u : Token)
    → view_token u ≡ record {
      class = t.class;
      start = start;
      end = start + length (spelled w t.class (record { at = at; text = t.bytes.now })).text;
      bytes = (spelled w t.class (record { at = at; text = t.bytes.now })).text;
    } → IsAlike t u
one_alike w at start t u e = (
  ap (λ l. l.class) e,
  elim (text_kept w t.class (record { at = at; text = t.bytes.now })) [
    | inl same ↦ inl (ap (λ l. l.bytes) e ∙ same)
    | inr lower ↦ inr lower
  ],
)

touch : (w : Spelling) (bytes : List ℕ) (at end : ℕ) (t u : Token) (ts us : List Token) → AreInOrder bytes t.end (view_tokens ts)
    → view_tokens us ≡ respelled_lexemes_from t.end end (view_tokens ts) (new_words w at (view_tokens ts)) → u.end ≡ end → touches u us ≡ touches t ts
touch w bytes at end t u [] [] h e f = refl
touch w bytes at end t u [] (v ∷ us) h e f = cc
touch w bytes at end t u (s ∷ ts) [] h e f = cc
touch w bytes at end t u (s ∷ ts) (v ∷ us) h e f =
    let text = (spelled w s.class (record { at = at; text = s.bytes.now })).text in
    let start = end + (s.start - t.end) in
    let one : Lexeme = record { class = s.class; start = start; end = start + length text; bytes = text } in
    let head = head_same (view_token v) one (view_tokens us)
    (respelled_lexemes_from s.end (start + length text) (view_tokens ts) (new_words w (suc at) (view_tokens ts))) e in
    ap (λ n. u.end == n) (ap (λ l. l.start) head) ∙ ap (λ n. n == start) f ∙ shift t.end s.start end h.0

all_alike : (w : Spelling) (bytes : List ℕ) (at old now : ℕ) (ts us : List Token) → AreInOrder bytes old (view_tokens ts)
    → view_tokens us ≡ respelled_lexemes_from old now (view_tokens ts) (new_words w at (view_tokens ts)) → AreAlike ts us
all_alike w bytes at old now [] [] h e = tt
all_alike w bytes at old now [] (u ∷ us) h e = cc
all_alike w bytes at old now (t ∷ ts) [] h e = cc
all_alike w bytes at old now (t ∷ ts) (u ∷ us) h e =
    let text = (spelled w t.class (record { at = at; text = t.bytes.now })).text in
    let start = now + (t.start - old) in
    let one : Lexeme = record { class = t.class; start = start; end = start + length text; bytes = text } in
    let rest = respelled_lexemes_from t.end (start + length text) (view_tokens ts) (new_words w (suc at) (view_tokens ts)) in
    let head = head_same (view_token u) one (view_tokens us) rest e in
    let tail = tail_same (view_token u) one (view_tokens us) rest e in (
      one_alike w at start t u head,
      touch w bytes (suc at) (start + length text) t u ts us h.4 tail (ap (λ l. l.end) head),
      all_alike w bytes
          (suc at) t.end (start + length text) ts us h.4 tail,
    )

pub respelled_tokens_are_kept : RespelledTokensAreKept
respelled_tokens_are_kept w bytes ts us cut e = (
  record {
    many = sym (as_many us) ∙ ap length e ∙ respelled_many w 1 0 0 (view_tokens ts) ∙ as_many ts;
    same = λ at. from_is us at ∙ ap (λ v. drop at (lexeme_toks 1 v)) e ∙ ap (drop at) (respelled_tokens w (view_tokens ts))
        ∙ sym (map_drop (spell_tok w) at (lexeme_toks 1 (view_tokens ts))) ∙ ap (map (spell_tok w)) (sym (from_is ts at));
  },
  all_alike w bytes 1 0 0 ts us (lexemes_are_in_order bytes (view_tokens ts) cut) e,
)

pub respelling_keeps_the_reading : RespellingKeepsTheReading
respelling_keeps_the_reading w t bytes ts us wf cut reads form deep changes cut' =
    let read = respelled_names_are_read w t bytes (view_tokens ts) wf cut (sym (from_is ts 0) ∙ reads) changes in
    let e = one_lexed cut' read.0 in
    let kept = respelled_tokens_are_kept w bytes ts us cut e in
    (read.1, from_is us 0 ∙ ap (lexeme_toks 1) e ∙ read.2, forms_are_kept ts us 1 kept.1 ∙ form, nesting_is_kept w ts us None kept.0 deep)
