-- What units need, by the heads of the paths in their sources (the OCaml manual, "Batch compilation" and "Dependency
-- generator").
use Rattle.std.specs.Prelude.{ℕ, List, [], ◌∷◌, ◌++◌, Bool, ◌&&◌, not, if◌then◌else◌}
use Rattle.std.specs.List.{list_any}
use Rattle.std.specs.Str.{bytes_eq}
use Rattle.need_chains.specs.declared.unit_heads.UnitHeads.{UnitHeads}

-- the heads of the sources of a unit
abbrev pub heads_in : List UnitHeads → List ℕ → List (List ℕ)
heads_in [] unit = []
heads_in (s ∷ sources) unit = (if bytes_eq s.unit unit then s.heads else []) ++ heads_in sources unit

-- a unit needs another one, whose name is a head of its sources
abbrev pub needs : List UnitHeads → List ℕ → List ℕ → Bool
needs sources unit other = list_any (λ head. bytes_eq head other) (heads_in sources unit) && not (bytes_eq other unit)
