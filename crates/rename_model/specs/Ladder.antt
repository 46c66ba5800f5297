-- Ladders of refusals: conditions in their order (`before` of capture_check), their end, and least
-- places (own).
use Rattle.std.specs.Prelude.{◌≡◌, ◌⊎◌}
use Rattle.rotor_base.specs.declared.place.Place.{Place}
use Rattle.rotor_base.specs.Place.{IsBefore}

-- a condition that nothing meets: the end of a ladder
abbrev pub no_more : {R : Type 0} → R → Type 0
no_more r = ⊥

-- at most one thing meets a condition
abbrev pub GivesOne : {R : Type 0} → (R → Type 0) → Type 0
GivesOne {R} c = (r s : R) → c r → c s → r ≡ s

-- the least place with a property
pub record IsLeast (P : Place → Type 0) (at : Place) : Type 0 where
  pub there : P at
  pub least : (p : Place) → P p → (at ≡ p) ⊎ IsBefore at p
