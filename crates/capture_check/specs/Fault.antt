-- The comparison of facts: the first clash, capture or mislink between a project and the one that
-- it was (own).
use Rattle.std.specs.Prelude.{ℕ, List, Option, Some, None, Contains, slice_get, ◌≡◌, ◌≢◌, ◌≤◌, ◌⊎◌}
use Rattle.rotor_base.specs.declared.place.Place.{Place}
use Rattle.rotor_base.specs.declared.place.Goal.{Goal}
use Rattle.rotor_base.specs.declared.place.Goal.TheVariants.{Decl}
use Rattle.rotor_base.specs.declared.place.Ref.{Ref}
use Rattle.rotor_base.specs.declared.place.Link.{Link}
use Rattle.rotor_base.specs.declared.place.Facts.{Facts}
use Rattle.rotor_base.specs.Place.{IsBefore}
use Rattle.capture_check.specs.declared.fault.Fault.{Fault}
use Rattle.capture_check.specs.declared.fault.Fault.TheVariants.{Clash, Capture, Mislink}

-- ---- conditions in their order

-- a condition that something meets
abbrev pub IsMet : {R : Type 0} → (R → Type 0) → Type 0
IsMet {R} c = (r : R) × c r

-- the first condition if it is met, else the rest
abbrev pub before : {R : Type 0} → (R → Type 0) → (R → Type 0) → R → Type 0
before c rest r = c r ⊎ ((IsMet c → ⊥) × rest r)

-- ---- Clash

-- the word of each binder
abbrev pub Names : Type 0
Names = Place → List ℕ

-- two places of one group have one name, and `first` is before `again`
pub record Repeats (names : Names) (groups : List (List Place)) (first again : Place) : Type 0 where
  pub group : List Place
  pub among : Contains groups group
  pub here : Contains group first
  pub there : Contains group again
  pub order : IsBefore first again
  pub same : names first ≡ names again

-- the least place that repeats a name of its group, and the least place of that name there
pub record IsLeastRepeat (names : Names) (groups : List (List Place)) (first again : Place) : Type 0 where
  pub repeats : Repeats names groups first again
  pub least : (f a : Place) → Repeats names groups f a → IsBefore again a ⊎ ((again ≡ a) × ((first ≡ f) ⊎ IsBefore first f))

abbrev pub IsClash : Names → List (List Place) → Fault → Type 0
IsClash names groups (Clash first again) = IsLeastRepeat names groups first again
IsClash names groups _ = ⊥

-- ---- Capture and Mislink

abbrev pub of_ref : Place → Goal → Ref
of_ref at goal = record { at = at; goal = goal }

abbrev pub of_link : Place → Goal → Link
of_link item source = record { item = Decl item; source = source }

-- the things of this number in two lists are at one place, and have different goals
pub record Differs {A : Type 0} (make : Place → Goal → A) (old new : List A) (number : ℕ) (at : Place) (was would : Goal) : Type 0 where
  pub old_one : slice_get old number ≡ Some (make at was)
  pub new_one : slice_get new number ≡ Some (make at would)
  pub differ : was ≢ would

-- the least place with a difference, and the first difference there
pub record IsFirstDiffering {A : Type 0} (make : Place → Goal → A) (old new : List A) (at : Place) (was would : Goal) : Type 0 where
  pub number : ℕ
  pub differs : Differs make old new number at was would
  pub least : (k : ℕ) (p : Place) (w v : Goal) → Differs make old new k p w v → IsBefore at p ⊎ ((at ≡ p) × (number ≤ k))

abbrev pub IsCapture : List Ref → List Ref → Fault → Type 0
IsCapture old new (Capture at was would) = IsFirstDiffering of_ref old new at was would
IsCapture old new _ = ⊥

abbrev pub IsMislink : List Link → List Link → Fault → Type 0
IsMislink old new (Mislink (Decl item) was would) = IsFirstDiffering of_link old new item was would
IsMislink old new _ = ⊥

-- ---- the first fault

-- the faults in their order: `names` and `new` are those of the new project
abbrev pub faults : Names → Facts → Facts → Fault → Type 0
faults names old new = before (IsClash names new.groups) (before (IsCapture old.refs new.refs) (IsMislink old.links new.links))

-- the first fault, or none
abbrev pub IsFirstFault : Names → Facts → Facts → Option Fault → Type 0
IsFirstFault names old new None = IsMet (faults names old new) → ⊥
IsFirstFault names old new (Some fault) = faults names old new fault

-- Law: two lists of facts have one first fault
abbrev pub FaultsAreOne : Type 0
FaultsAreOne = (names : Names) (old new : Facts) (a b : Option Fault) → IsFirstFault names old new a → IsFirstFault names old new b → a ≡ b
