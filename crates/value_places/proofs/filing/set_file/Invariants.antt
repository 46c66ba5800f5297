use Rattle.std.proofs.Common.{◌≡◌, ℕ, [], get_or, length}
use Rattle.value_places.proofs.filing.set_file.Given as goal

-- the files that are there stay, and no other has a site
abbrev pub invariant-loop : goal.invariant-loop
invariant-loop l = (length l.files.items ≡ l.counter) × ((n : ℕ) → get_or l.files.items n [] ≡ get_or l.fn.files.items n [])
