-- Matches: their equations without the number of levels.
use Rattle.std.proofs.Common.{◌≡◌, ℕ, zero, suc, ◌+◌, ◌<◌, ◌≤◌, List, ◌++◌, Option, Some, refl, ap, ◌∙◌, arith}
use Rattle.std.proofs.lemmas.List.{append_assoc, append-nil}
use Rattle.rotor_base.specs.declared.place.Goal.{Goal}
use Rattle.shape_core.specs.Shape.{Name, Shape, Struct, Functor, Unitary, Opaque, Entries, none, a_val, a_mod, a_mty, a_dark, find_mod, find_mty}
use Rattle.shape_core.specs.Shape.{unless_some, depth, depths}
use Rattle.shape_core.specs.Links.{Trace, ◌&◌, nothing, a_step, one, or_empty, pin_vals, match_entries, match_step, match_to, matched}
use Rattle.shape_core.proofs.Founds.{mod_or_empty, mty_or_empty}

abbrev made : {A : Type 0} → List A → ℕ → Trace A
made l n = record { told = l; work = n }

-- traces one after another
pub then_assoc : {A : Type 0} (a b c : Trace A) → (a & b) & c ≡ a & (b & c)
unfolding ◌&◌
then_assoc a b c =
    let e : (a.work + b.work) + c.work ≡ a.work + (b.work + c.work) = omega arith in
    ap (λ l. made l ((a.work + b.work) + c.work)) (append_assoc a.told b.told c.told) ∙ ap (λ n. made (a.told ++ (b.told ++ c.told)) n) e

pub then_nothing : {A : Type 0} (a : Trace A) → a & nothing ≡ a
unfolding ◌&◌
then_nothing a =
    let e : a.work + 0 ≡ a.work = omega arith in
    ap (λ l. made l (a.work + 0)) (append-nil a.told) ∙ ap (λ n. made a.told n) e

pub nothing_then : {A : Type 0} (a : Trace A) → nothing & a ≡ a
unfolding ◌&◌
nothing_then a = let e : 0 + a.work ≡ a.work = omega arith in ap (λ n. made a.told n) e

pub told-then : {A : Type 0} (a b : Trace A) → (a & b).told ≡ a.told ++ b.told
unfolding ◌&◌
told-then a b = refl

pub work-then : {A : Type 0} (a b : Trace A) → (a & b).work ≡ a.work + b.work
unfolding ◌&◌
work-then a b = refl

module _ {A : Type 0} (tell : Name → Goal → Entries → Option Entries → A) where
  -- two matchers that agree on shapes that are less deep
  entries_same : (go go' : Shape → Shape → Trace A) (src : Entries) (n : ℕ)
      → ((s t : Shape) → depth s ≤ depths src → depth t + 1 ≤ n → (go s t ≡ go' s t) × (go t s ≡ go' t s))
      → (ts : Entries) → depths ts ≤ n → match_entries tell go src ts ≡ match_entries tell go' src ts
  entries_same go go' src n h none d = refl
  entries_same go go' src n h (a_val x g ts) d = ap (λ l. one (tell x g ts (Some src)) & l) (entries_same go go' src n h ts d)
  entries_same go go' src n h (a_mod X t ts) d =
      let s = or_empty (find_mod src X) in
      let k = h s t (mod_or_empty src X) (omega (arith, d)) in
      ap (λ l. a_step & unless_some (find_mod ts X) l nothing & match_entries tell go src ts) k.0
      ∙ ap (λ l. a_step & unless_some (find_mod ts X) (go' s t) nothing & l) (entries_same go go' src n h ts (omega (arith, d)))
  entries_same go go' src n h (a_mty S t ts) d =
      let s = or_empty (find_mty src S) in
      let k = h s t (mty_or_empty src S) (omega (arith, d)) in
      ap (λ l. a_step & unless_some (find_mty ts S) (l & go t s) nothing & match_entries tell go src ts) k.0
      ∙ ap (λ l. a_step & unless_some (find_mty ts S) (go' s t & l) nothing & match_entries tell go src ts) k.1
      ∙ ap (λ l. a_step & unless_some (find_mty ts S) (go' s t & go' t s) nothing & l) (entries_same go go' src n h ts (omega (arith, d)))
  entries_same go go' src n h (a_dark at ts) d = ap (λ l. a_step & pin_vals tell src & l) (entries_same go go' src n h ts d)

  -- one level more, of matchers that agree below a number of levels
  step_same : (go go' : Shape → Shape → Trace A) (n : ℕ) → ((s t : Shape) → depth s + depth t < n → go s t ≡ go' s t)
      → (s t : Shape) → depth s + depth t < suc n → match_step tell go s t ≡ match_step tell go' s t
  step_same go go' n h (Struct es) (Struct ts) l =
      ap (λ l. a_step & l) (entries_same go go' es (depths ts) (λ s t ds dt. (h s t (omega (arith, l, ds, dt)), h t s (omega (arith, l, ds, dt)))) ts
      (omega arith))
  step_same go go' n h (Struct es) (Functor q t) l = refl
  step_same go go' n h (Struct es) (Unitary t) l = refl
  step_same go go' n h (Struct es) Opaque l = refl
  step_same go go' n h (Functor p r) (Struct ts) l = refl
  step_same go go' n h (Functor p r) (Functor q t) l = ap (λ x. a_step & x & go r t) (h q p (omega (arith, l)))
      ∙ ap (λ x. a_step & go' q p & x) (h r t (omega (arith, l)))
  step_same go go' n h (Functor p r) (Unitary t) l = refl
  step_same go go' n h (Functor p r) Opaque l = refl
  step_same go go' n h (Unitary r) (Struct ts) l = refl
  step_same go go' n h (Unitary r) (Functor q t) l = refl
  step_same go go' n h (Unitary r) (Unitary t) l = ap (λ x. a_step & x) (h r t (omega (arith, l)))
  step_same go go' n h (Unitary r) Opaque l = refl
  step_same go go' n h Opaque (Struct ts) l = refl
  step_same go go' n h Opaque (Functor q t) l = refl
  step_same go go' n h Opaque (Unitary t) l = refl
  step_same go go' n h Opaque Opaque l = refl

  -- levels that are enough
  enough : (n m : ℕ) (s t : Shape) → depth s + depth t < n → depth s + depth t < m → match_to tell n s t ≡ match_to tell m s t
  enough zero m s t l k = absurd (omega (arith, l))
  enough (suc n) zero s t l k = absurd (omega (arith, k))
  enough (suc n) (suc m) s t l k = step_same (match_to tell n) (match_to tell m) (depth s + depth t)
      (λ a b h. enough n m a b (omega (arith, h, l)) (omega (arith, h, k))) s t (omega arith)

  -- a match is one level of the matches of its parts
  pub matched_is : (s t : Shape) → matched tell s t ≡ match_step tell (matched tell) s t
  unfolding matched
  matched_is s t =
      step_same (match_to tell (depth s + depth t)) (λ a b. match_to tell (suc (depth a + depth b)) a b) (depth s + depth t)
      (λ a b h. enough (depth s + depth t) (suc (depth a + depth b)) a b h (omega arith)) s t (omega arith)

  pub matched_structs : (es ts : Entries) → matched tell (Struct es) (Struct ts) ≡ a_step & match_entries tell (matched tell) es ts
  matched_structs es ts = matched_is (Struct es) (Struct ts)

  pub matched_functors : (p r q t : Shape) → matched tell (Functor p r) (Functor q t) ≡ a_step & matched tell q p & matched tell r t
  matched_functors p r q t = matched_is (Functor p r) (Functor q t)

  pub matched_unitaries : (r t : Shape) → matched tell (Unitary r) (Unitary t) ≡ a_step & matched tell r t
  matched_unitaries r t = matched_is (Unitary r) (Unitary t)
