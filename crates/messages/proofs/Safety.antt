-- What a terminal gets is safe.
use Rattle.std.proofs.Common.{◌≡◌, ℕ, Bool, true, false, cond, refl}
use Rattle.messages.specs.Shown.{hides}
use Rattle.messages.specs.Laws.{AreSafe}

-- `?` is no such character
safe_one : (c : ℕ) (b : Bool) → hides c ≡ b → hides (cond b 63 c) ≡ false
safe_one c true h = refl
safe_one c false h = h

pub are_safe : AreSafe
are_safe c = safe_one c (hides c) refl
