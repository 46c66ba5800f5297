-- The lines of a batch are read in one way.
use Rattle.std.proofs.Common.{◌≡◌, ◌∙◌, ◌⊎◌, inl, inr, ℕ, zero, suc, ◌+◌, ◌<◌, ◌≤◌, Bool, true, false, List, [], ◌∷◌, length, get_or, nat_lt}
use Rattle.std.proofs.Common.{length-append, refl, sym, ap, subst, arith}
use Rattle.std.proofs.lemmas.Bool.Decides.{nat_tests}
use Rattle.std.proofs.lemmas.List.{get_or_append_left, get_or_at}
use Rattle.rotor_base.specs.Spaces.{IsCut}
use Rattle.rotor_base.proofs.SpaceCuts.{one_cut}
use Rattle.cli_words.specs.Target.{target_of}
use Rattle.rename_batch.specs.declared.step.Step.{Step}
use Rattle.rename_batch.specs.Reading.{AreSteps, AreWords, IsBadLine, IsStep}
use Rattle.rename_batch.specs.Laws.{BatchOrBadLine, OneBadLine, OneBatch}

one_step : (line : List ℕ) (a b : Step) → IsStep line a → IsStep line b → a ≡ b
one_step line a b p q =
    let cut : IsCut line p.word a.name = record { split = p.words.split; whole = p.words.first.whole } in
    let same = one_cut line p.word a.name q.word b.name cut q.words.split q.words.first.whole in
    let target : a.target ≡ b.target = p.target ∙ ap target_of same.0 ∙ sym q.target in
    λ i. record { target = target i; name = same.1 i }

each_one : (lines : List (List ℕ)) (one other : List Step) → AreSteps lines one → AreSteps lines other → one ≡ other
each_one [] [] [] p q = refl
each_one [] [] (b ∷ other) p q = absurd q
each_one [] (a ∷ one) other p q = absurd p
each_one (line ∷ lines) [] other p q = absurd p
each_one (line ∷ lines) (a ∷ one) [] p q = absurd q
each_one (line ∷ lines) (a ∷ one) (b ∷ other) p q =
    ap (λ (x : Step). x ∷ one) (one_step line a b p.0 q.0) ∙ ap (λ (xs : List Step). b ∷ xs) (each_one lines one other p.1 q.1)

pub one_batch : OneBatch
one_batch lines one other p q = each_one lines one other p.each q.each

-- the step of a line
step_at : (lines : List (List ℕ)) (steps : List Step) (i : ℕ) → AreSteps lines steps → i < length lines
    → (step : Step) × IsStep (get_or lines i []) step
step_at [] steps i h l = absurd (omega (arith, l))
step_at (line ∷ lines) [] i h l = absurd h
step_at (line ∷ lines) (step ∷ steps) zero h l = (step, h.0)
step_at (line ∷ lines) (step ∷ steps) (suc i) h l = step_at lines steps i h.1 (omega (arith, l))

line_at : (lines : List (List ℕ)) (n : ℕ) (h : IsBadLine lines n) → get_or lines (length h.before) [] ≡ h.line
line_at lines n h = ap (λ (ls : List (List ℕ)). get_or ls (length h.before) []) h.split ∙ get_or_at h.before h.line h.after [] (length h.before) refl

-- a bad line is not among lines that are steps
not_among : (lines : List (List ℕ)) (n : ℕ) (h : IsBadLine lines n) (front : List (List ℕ)) (steps : List Step) → AreSteps front steps
    → length h.before < length front
    → length front ≤ 1000 → get_or front (length h.before) [] ≡ h.line → ⊥
not_among lines n h front steps a l few e = by h.bad where
  by : ((target name : List ℕ) → AreWords h.line target name → ⊥) ⊎ (length h.before ≡ 1000) → ⊥
  by (inl none) =
      let step = step_at front steps (length h.before) a l in
      let here = subst (λ (line : List ℕ). IsStep line step.0) e step.1 in
      none here.word step.0.name here.words
  by (inr full) = absurd (omega (arith, full, l, few))

not_before : (lines : List (List ℕ)) (n m : ℕ) (h : IsBadLine lines n) (k : IsBadLine lines m) → length h.before < length k.before → ⊥
not_before lines n m h k l =
    let i = length h.before in
    let here : get_or k.before i [] ≡ h.line =
    sym (get_or_append_left k.before (k.line ∷ k.after) [] i l) ∙ ap (λ (ls : List (List ℕ)). get_or ls i []) (sym k.split) ∙ line_at lines n h in
    not_among lines n h k.before k.steps k.good l k.few here

pub one_bad_line : OneBadLine
one_bad_line lines n m h k = by (nat_lt (length h.before) (length k.before)) (nat_lt (length k.before) (length h.before)) refl refl where
  by : (s t : Bool) → nat_lt (length h.before) (length k.before) ≡ s → nat_lt (length k.before) (length h.before) ≡ t → n ≡ m
  by true t e f = let l : length h.before < length k.before = grind (arith, nat_tests) in absurd (not_before lines n m h k l)
  by false true e f = let l : length k.before < length h.before = grind (arith, nat_tests) in absurd (not_before lines m n k h l)
  by false false e f =
      let up : length k.before ≤ length h.before = grind (arith, nat_tests) in
      let down : length h.before ≤ length k.before = grind (arith, nat_tests) in
      omega (arith, h.counted, k.counted, up, down)

pub batch_or_bad_line : BatchOrBadLine
batch_or_bad_line lines steps number p h =
    let long : length lines ≡ length h.before + suc (length h.after) = ap length h.split ∙ length-append h.before (h.line ∷ h.after) in
    not_among lines number h lines steps p.each (omega (arith, long)) p.few (line_at lines number h)
