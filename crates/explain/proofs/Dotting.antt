-- Names with dots between them, and one more.
use Rattle.std.proofs.Common.{◌≡◌, ℕ, zero, suc, ◌+◌, ◌<◌, List, [], ◌∷◌, ◌++◌, get_or, length, take, Some, refl, ap, sym, ◌∙◌, append_assoc}
use Rattle.std.proofs.Common.{◌==◌, Bool, true, false, cond, append-nil, arith}
use Rattle.std.proofs.lemmas.Bool.Decides.{nat_tests}
use Rattle.std.proofs.lemmas.List.{take_more}
use Rattle.report.specs.Pieces.{Word}
use Rattle.messages.specs.declared.parts.Message.{Message}
use Rattle.refusal_words.specs.Target.{nameless}
use Rattle.refusal_words.specs.Unnamed.{no_member, no_path}
use Rattle.explain.specs.Targets.{add_front, dotted_behind, dotted_step, dotted_words, member_message, split_path}

pub behind_more : (names : List Word) (name : Word) → dotted_behind (names ++ name ∷ []) ≡ dotted_behind names ++ 46 ∷ name
behind_more [] name = append-nil (46 ∷ name)
behind_more (x ∷ names) name = ap (λ text. (46 ∷ x) ++ text) (behind_more names name) ∙ sym (append_assoc (46 ∷ x) (dotted_behind names) (46 ∷ name))

-- the first name has no dot before it
pub first_word : (name : Word) → dotted_words (name ∷ []) ≡ name
first_word name = append-nil name

pub words_more : (names : List Word) (name : Word) → 0 < length names → dotted_words (names ++ name ∷ []) ≡ dotted_words names ++ 46 ∷ name
words_more [] name w = absurd (omega (arith, w))
words_more (x ∷ names) name w = ap (λ text. x ++ text) (behind_more names name) ∙ sym (append_assoc x (dotted_behind names) (46 ∷ name))

taken : (names : List Word) (k : ℕ) → suc k < length names → 0 < length (take (suc k) names)
taken [] k lt = absurd (omega (arith, lt))
taken (x ∷ names) k lt = omega arith

equal_of : (m n : ℕ) → (m == n) ≡ true → m ≡ n
equal_of m n h = grind (arith, nat_tests)

not_zero : (k : ℕ) → (suc k == 0) ≡ false
not_zero k = by (suc k == 0) refl where
  by : (b : Bool) → (suc k == 0) ≡ b → b ≡ false
  by true e = let z : suc k ≡ 0 = equal_of (suc k) 0 e in absurd (omega (arith, z))
  by false e = refl

-- one step more of a path
pub one_step : (names : List Word) (at : ℕ) (d : Word) → at < length names
    → dotted_words (take (at + 1) names) ≡ dotted_words (take at names) ++ dotted_step at (get_or names at d)
one_step [] zero d lt = absurd (omega (arith, lt))
one_step (x ∷ names) zero d lt = first_word x
one_step names (suc k) d lt =
    ap dotted_words (take_more names (suc k) d lt)
    ∙ words_more (take (suc k) names) (get_or names (suc k) d) (taken names k lt)
    ∙ sym (ap (λ b. dotted_words (take (suc k) names) ++ cond b (get_or names (suc k) d) (46 ∷ get_or names (suc k) d)) (not_zero k))

pub step_more : (names : List Word) (at : ℕ) (d name before now : Word) → at < length names → name ≡ get_or names at d
    → before ≡ dotted_words (take at names) → now ≡ before ++ dotted_step at name
    → now ≡ dotted_words (take (at + 1) names)
step_more names at d name before now lt is so made =
    made
    ∙ ap (λ (text : Word). text ++ dotted_step at name) so
    ∙ ap (λ (x : Word). dotted_words (take at names) ++ dotted_step at x) is
    ∙ sym (one_step names at d lt)

-- a path by its last name
pub split_is : (front : List Word) (last : Word) → split_path (front ++ last ∷ []) ≡ Some (front, last)
split_is [] last = refl
split_is (x ∷ front) last = ap (add_front x) (split_is front last)

differ : (n : ℕ) → (n ≡ 0 → ⊥) → (n == 0) ≡ false
differ n h = by (n == 0) refl where
  by : (b : Bool) → (n == 0) ≡ b → b ≡ false
  by true e = absurd (h (equal_of n 0 e))
  by false e = refl

-- the message of a path of more than one name
pub member_is : (front : List Word) (last : Word) (message : Message) (sentence m l : Word) → (length front ≡ 0 → ⊥)
    → message ≡ nameless sentence → sentence ≡ no_member m l → m ≡ dotted_words front → l ≡ last
    → message ≡ member_message front last
member_is front last message sentence m l z e s d w =
    e
    ∙ ap nameless (s ∙ ap (λ x. no_member x l) d ∙ ap (no_member (dotted_words front)) w)
    ∙ sym (ap (λ b. cond b (nameless (no_path last)) (nameless (no_member (dotted_words front) last))) (differ (length front) z))
