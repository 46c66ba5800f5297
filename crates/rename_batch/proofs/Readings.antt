-- The lines of a batch, read one after the other.
use Rattle.std.proofs.Common.{◌≡◌, ◌∙◌, ◌⊎◌, ℕ, suc, ◌+◌, ◌≤◌, List, [], ◌∷◌, ◌++◌, Option, Some, None, IfNone, IfSome, length, append_assoc, refl}
use Rattle.std.proofs.Common.{sym, ap, subst, arith}
use Rattle.std.proofs.lemmas.List.{append-nil, length_push}
use Rattle.rename_batch.specs.declared.step.Step.{Step}
use Rattle.rotor_base.specs.Limits.{max_batch_lines}
use Rattle.rename_batch.specs.Reading.{AreSteps, IsBadLine, IsBatch, IsNoStep, IsStep}

pub same_length : (lines : List (List ℕ)) (steps : List Step) → AreSteps lines steps → length lines ≡ length steps
same_length [] [] h = refl
same_length [] (step ∷ steps) h = absurd h
same_length (line ∷ lines) [] h = absurd h
same_length (line ∷ lines) (step ∷ steps) h = ap suc (same_length lines steps h.1)

pub one_more : (lines : List (List ℕ)) (steps : List Step) (line : List ℕ) (step : Step) → AreSteps lines steps → IsStep line step
    → AreSteps (lines ++ line ∷ []) (steps ++ step ∷ [])
one_more [] [] line step h s = (s, tt)
one_more [] (other ∷ steps) line step h s = absurd h
one_more (first ∷ lines) [] line step h s = absurd h
one_more (first ∷ lines) (other ∷ steps) line step h s = (h.0, one_more lines steps line step h.1 s)

-- the lines before the rest have these steps
abbrev pub IsRead : List (List ℕ) → List (List ℕ) → List Step → Type 0
IsRead lines rest steps = (before : List (List ℕ)) × (lines ≡ before ++ rest) × AreSteps before steps × (length steps ≤ max_batch_lines)

-- the next line is bad
pub bad_line : (lines rest behind : List (List ℕ)) (steps : List Step) (line : List ℕ) (before : ℕ) → IsRead lines rest steps → rest ≡ line ∷ behind
    → before ≡ length steps
    → IsNoStep line ⊎ (before ≡ max_batch_lines) → IsBadLine lines (before + 1)
bad_line lines rest behind steps line before h e n bad =
    let same = same_length h.0 steps h.2 in
    record {
      before = h.0;
      steps = steps;
      line = line;
      after = behind;
      split = h.1 ∙ ap (λ (ls : List (List ℕ)). h.0 ++ ls) e;
      counted = omega (arith, same, n);
      good = h.2;
      few = omega (arith, same, h.3);
      bad = subst (λ (k : ℕ). IsNoStep line ⊎ (k ≡ max_batch_lines)) (n ∙ sym same) bad;
    }

-- the next line is a step
pub line_read : (lines rest behind : List (List ℕ)) (steps after : List Step) (line : List ℕ) (step : Step) → IsRead lines rest steps
    → rest ≡ line ∷ behind → IsStep line step
    → after ≡ steps ++ step ∷ [] → length steps + 1 ≤ max_batch_lines → IsRead lines behind after
line_read lines rest behind steps after line step h e s a few = (
  h.0 ++ line ∷ [],
  h.1 ∙ ap (λ (ls : List (List ℕ)). h.0 ++ ls) e ∙ sym (append_assoc h.0 (line ∷ []) behind),
  rw a (one_more h.0 steps line step h.2 s),
  rw a (omega (arith, length_push steps step, few)),
)

-- all lines are read
pub all_read : (lines rest : List (List ℕ)) (steps : List Step) → IsRead lines rest steps → rest ≡ [] → IsBatch lines steps
all_read lines rest steps h e =
    let whole : lines ≡ h.0 = h.1 ∙ ap (λ (ls : List (List ℕ)). h.0 ++ ls) e ∙ append-nil h.0 in
    record { each = rw whole h.2; few = rw whole (omega (arith, same_length h.0 steps h.2, h.3)) }

pub none_so : (found : Option Step) (P : Type 0) → IfNone found P → found ≡ None → P
none_so None P h e = h
none_so (Some step) P h e = absurd cc

pub some_so : (found : Option Step) (P : Step → Type 0) (step : Step) → IfSome found P → found ≡ Some step → P step
some_so found P step h e = subst (λ (o : Option Step). IfSome o P) e h
