-- The values that are declared at places of a file, as entries of a scope (own).
use Rattle.std.specs.Prelude.{ℕ, List, [], ◌∷◌}
use Rattle.rotor_base.specs.declared.place.Goal.TheVariants.{Decl}
use Rattle.value_sites.specs.declared.mark.Mark.{Mark}
use Rattle.shape_core.specs.Shape.{Entries, none, a_val}
use Rattle.binding_model.specs.Scopes.{here}

abbrev pub marked : ℕ → List Mark → Entries
marked file [] = none
marked file (m ∷ ms) = a_val m.name (Decl (here file m.token)) (marked file ms)
