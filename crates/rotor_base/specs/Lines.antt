-- Lines that LF alone ends (own).
use Rattle.std.specs.Prelude.{ℕ, List, [], ◌∷◌, ◌==◌, if◌then◌else◌}
use Rattle.std.specs.List.{onto_first}

-- the lines of a text without the LF that ends each; the last may lack it
abbrev pub feed_lines : List ℕ → List (List ℕ)
feed_lines [] = []
feed_lines (b ∷ bs) = if b == 10 then [] ∷ feed_lines bs else onto_first b (feed_lines bs)
