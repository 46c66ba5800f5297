-- Counts of faults from call to call.
use Rattle.std.proofs.Common.{◌≡◌, ℕ, ◌<◌, ◌≤◌, Result, Ok, Err, ◌⊎◌, Option, Some, None, IfSome, IsErr, IsErrAnd, subst, sym, refl, inl, inr, arith}
use Rattle.std.proofs.lemmas.Bool.{cases_lt}
use Rattle.rotor_base.specs.declared.refusal.LoadError.{LoadError}
use Rattle.rotor_base.specs.declared.refusal.LoadError.TheVariants.{Read}
use Rattle.project_load.specs.Cause.{HasReadCause}

-- a call that is Ok leaves the count
pub same_count : {T : Type 0} (before now : ℕ) (result : Result T LoadError) (x : T) → result ≡ Ok x → HasReadCause before now result → now ≡ before
same_count before now result x e h = by (cases_lt before now) where
  by : (before < now) ⊎ (now ≤ before) → now ≡ before
  by (inl l) = let no : result ≡ Err Read = h.passed l in cc
  by (inr l) = let later : before ≤ now = h.later in omega arith

-- a fact on the content if it is known, at a known content, and the other way round
pub told : {X : Type 0} (content : Option X) (P : X → Type 0) (held : X) → content ≡ Some held → IfSome content P → P held
told content P held e h = subst (λ o. IfSome o P) e h

pub telling : {X : Type 0} (content : Option X) (P : X → Type 0) → ((held : X) → content ≡ Some held → P held) → IfSome content P
telling None P h = tt
telling (Some held) P h = h held refl

-- an error that is passed on
pub passed_on : {T : Type 0} (result : Result T LoadError) (error : LoadError) (P : Result T LoadError → Type 0) → IsErr result
    → IsErrAnd result (λ e. e ≡ error) → P (Err error) → P result
passed_on (Ok x) error P h e p = cc
passed_on (Err e) error P h same p = subst (λ e. P (Err e)) (sym same) p
