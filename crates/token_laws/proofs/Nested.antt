-- The nesting depends on the kinds and texts of tokens.
use Rattle.std.proofs.Common.{◌≡◌, ◌<◌, ◌≤◌, ◌+◌, ℕ, zero, suc, List, [], ◌∷◌, Option, Some, None, map, drop, length, refl, ap, sym, subst, ◌∙◌}
use Rattle.rotor_base.specs.Limits.{max_nesting}
use Rattle.ml_lexer.specs.Lexed.{Lexeme}
use Rattle.ml_trees.specs.Tok.{toks_from}
use Rattle.token_reading.specs.Tokens.{from, lexeme}
use Rattle.parse_base.specs.Nesting.{after, first_role, marks, nesting, role_at, role_before}
use Rattle.project_reading.specs.Source.{tokens_of, IsDeepAt}
use Rattle.token_laws.specs.Tokens.{texts_of}

dropped : (at : ℕ) (xs : List Lexeme) → map lexeme (drop at (tokens_of xs)) ≡ drop at (texts_of xs)
dropped zero [] = refl
dropped (suc at) [] = refl
dropped zero (x ∷ xs) = ap (λ l. (x.class, x.bytes) ∷ l) (dropped zero xs)
dropped (suc at) (x ∷ xs) = dropped at xs

from_texts : (at : ℕ) (xs : List Lexeme) → from (tokens_of xs) at ≡ toks_from (at + 1) (drop at (texts_of xs))
unfolding from
from_texts at xs = ap (toks_from (at + 1)) (dropped at xs)

as_long : (xs : List Lexeme) → length (tokens_of xs) ≡ length (texts_of xs)
as_long [] = refl
as_long (x ∷ xs) = ap suc (as_long xs)

module _ (xs ys : List Lexeme) (texts : texts_of xs ≡ texts_of ys) where
  same_role : (at : ℕ) → role_at (tokens_of xs) at ≡ role_at (tokens_of ys) at
  same_role at = ap first_role (from_texts at xs ∙ (ap (λ l. toks_from (at + 1) (drop at l)) texts ∙ sym (from_texts at ys)))

  same_before : (at : ℕ) → role_before (tokens_of xs) at ≡ role_before (tokens_of ys) at
  same_before zero = refl
  same_before (suc at) = same_role at

  same_marks : (n : ℕ) → marks (tokens_of xs) n ≡ marks (tokens_of ys) n
  unfolding marks
  same_marks zero = refl
  same_marks (suc n) =
      ap (λ r. after r (role_at (tokens_of xs) n) (role_at (tokens_of xs) (suc n)) (marks (tokens_of xs) n)) (same_before n)
      ∙ (ap (λ r. after (role_before (tokens_of ys) n) r (role_at (tokens_of xs) (suc n)) (marks (tokens_of xs) n)) (same_role n)
      ∙ (ap (λ r. after (role_before (tokens_of ys) n) (role_at (tokens_of ys) n) r (marks (tokens_of xs) n)) (same_role (suc n))
      ∙ ap (after (role_before (tokens_of ys) n) (role_at (tokens_of ys) n) (role_at (tokens_of ys) (suc n))) (same_marks n)))

  same_nesting : (n : ℕ) → nesting (tokens_of xs) n ≡ nesting (tokens_of ys) n
  same_nesting n = ap length (same_marks n)

  same_length : length (tokens_of xs) ≡ length (tokens_of ys)
  same_length = as_long xs ∙ (ap length texts ∙ sym (as_long ys))

  pub same_deep : (o : Option ℕ) → IsDeepAt xs o → IsDeepAt ys o
  same_deep None h = λ k less. subst (λ n. n ≤ max_nesting) (same_nesting k) (h k (subst (λ n. k ≤ n) (sym same_length) less))
  same_deep (Some n) h = record {
    there = subst (λ m. n ≤ m) same_length h.there;
    over = subst (λ m. max_nesting < m) (same_nesting n) h.over;
    first = λ k less. subst (λ m. m ≤ max_nesting) (same_nesting k) (h.first k less);
  }
