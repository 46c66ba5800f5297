-- How a unit waits for those that it needs (own).
use Rattle.std.specs.Prelude.{◌≡◌, ◌-◌, ◌==◌, ◌<◌, ℕ, List, Bool, ◌||◌, ◌&&◌, not, false, cond, get_or}
use Rattle.unit_order.specs.declared.taking.Waiting.{Waiting}

-- how it waits once a further unit is taken, which it needs or not and is or not
abbrev pub waits_after : Bool → Bool → Waiting → Waiting
waits_after needed itself unit = record { missing = unit.missing - cond needed 1 0; taken = unit.taken || itself }

-- it can be taken: it is not taken, and all that it needs are
abbrev pub is_free : Waiting → Bool
is_free unit = not unit.taken && unit.missing == 0

-- none of the units before a position can be taken
abbrev pub NoneFreeBefore : ℕ → List Waiting → Type 0
NoneFreeBefore from waiting = (k : ℕ) (d : Waiting) → k < from → is_free (get_or waiting k d) ≡ false
