-- The first change and the first repeat, as answers (own).
use Rattle.std.specs.Prelude.{ℕ, Bool, List, ◌||◌, ◌&&◌, Option, Some, None, ◌≡◌, ◌≢◌, if◌then◌else◌}
use Rattle.rotor_base.specs.declared.place.Place.{Place}
use Rattle.rotor_base.specs.declared.place.Goal.{Goal}
use Rattle.rotor_base.specs.Place.{same_place}
use Rattle.binding_model.specs.Facts.{is_before}
use Rattle.capture_check.specs.Fault.{Differs, IsFirstDiffering, Names, Repeats, IsLeastRepeat}
use Rattle.rotor_base.specs.declared.place.Goal.TheVariants.{Decl}
use Rattle.capture_check.specs.declared.fault.Fault.{Fault}
use Rattle.capture_check.specs.declared.fault.Fault.TheVariants.{Clash, Capture, Mislink}
use Rattle.capture_check.specs.declared.fault.Change.{Change}
use Rattle.capture_check.specs.declared.fault.Repeat.{Repeat}

-- the first change of two lists, or none
abbrev pub IsFirstChange : {A : Type 0} → (Place → Goal → A) → List A → List A → Option Change → Type 0
IsFirstChange make old new None = (k : ℕ) (p : Place) (w v : Goal) → Differs make old new k p w v → ⊥
IsFirstChange make old new (Some c) = IsFirstDiffering make old new c.at c.was c.would

-- what one thing of two lists has changed
abbrev pub Tells : {A : Type 0} → (Place → Goal → A) → Option A → Option A → Option Change → Type 0
Tells make old new None = (p : Place) (w v : Goal) → old ≡ Some (make p w) → new ≡ Some (make p v) → w ≢ v → ⊥
Tells make old new (Some c) = (old ≡ Some (make c.at c.was)) × (new ≡ Some (make c.at c.would)) × (c.was ≢ c.would)

-- the change of the lesser place, and of two there the first
abbrev pub earlier_change : Option Change → Option Change → Option Change
earlier_change None b = b
earlier_change (Some a) None = Some a
earlier_change (Some a) (Some b) = Some (if is_before b.at a.at then b else a)

-- the first repeat of some groups, or none
abbrev pub IsFirstRepeat : Names → List (List Place) → Option Repeat → Type 0
IsFirstRepeat names groups None = (f a : Place) → Repeats names groups f a → ⊥
IsFirstRepeat names groups (Some r) = IsLeastRepeat names groups r.first r.again

-- the repeat of the lesser places, first by `again`
abbrev pub is_lesser : Repeat → Repeat → Bool
is_lesser a b = is_before a.again b.again || (same_place a.again b.again && is_before a.first b.first)

abbrev pub earlier_repeat : Option Repeat → Option Repeat → Option Repeat
earlier_repeat None b = b
earlier_repeat (Some a) None = Some a
earlier_repeat (Some a) (Some b) = Some (if is_lesser b a then b else a)

-- the repeat that one more place of a name makes with the least of those before it
abbrev pub repeat_of : Option Place → Place → Option Repeat
repeat_of None p = None
repeat_of (Some q) p = if is_before q p then Some (record { first = q; again = p }) else
    (if is_before p q then Some (record { first = p; again = q }) else None)

abbrev pub lesser : Option Place → Place → Place
lesser None p = p
lesser (Some q) p = if is_before q p then q else p

-- the first of three answers
abbrev pub fault_of : Option Repeat → Option Change → Option Change → Option Fault
fault_of (Some r) c m = Some (Clash r.first r.again)
fault_of None (Some c) m = Some (Capture c.at c.was c.would)
fault_of None None (Some m) = Some (Mislink (Decl m.at) m.was m.would)
fault_of None None None = None
