-- The law of what a terminal gets (own).
use Rattle.std.specs.Prelude.{◌≡◌, ℕ, false}
use Rattle.messages.specs.Shown.{hides, safe}

-- what a terminal gets for a character is none that it must not get
abbrev pub AreSafe : Type 0
AreSafe = (c : ℕ) → hides (safe c) ≡ false
