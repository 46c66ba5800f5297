-- Where the path of a target stops before its value (own).
use Rattle.std.specs.Prelude.{ℕ, suc, List, [], ◌∷◌, Bool, true, false, Option, Some, None}
use Rattle.rotor_base.specs.declared.target.Target.{Target}
use Rattle.rotor_base.specs.declared.target.Target.TheVariants.{At, Spot, Dotted}
use Rattle.shape_core.specs.Shape.{Name, Shape, Struct, Functor, Unitary, Opaque, Entries, entries_in, find_mod, find_mty, or_else, or_value}
use Rattle.explain.specs.declared.path_stop.PathStop.{PathStop}
use Rattle.explain.specs.declared.path_stop.PathStop.TheVariants as stop

abbrev pub is_struct : Shape → Bool
is_struct (Struct es) = true
is_struct (Functor p r) = false
is_struct (Unitary r) = false
is_struct Opaque = false

-- the last module of a name, else the last module type of that name
abbrev pub step_of : Entries → Name → Option Shape
step_of es X = or_else (find_mod es X) (find_mty es X)

-- behind a step: if it names a structure or a signature, what is behind it
abbrev pub behind_shape : Bool → ℕ → PathStop → PathStop
behind_shape true k rest = rest
behind_shape false k rest = stop.NoStructure k

abbrev pub behind_step : Option Shape → ℕ → PathStop → PathStop
behind_step None k rest = stop.Lacks k
behind_step (Some shape) k rest = behind_shape (is_struct shape) k rest

-- where a path stops, whose first step has this number
abbrev pub path_stop : Entries → ℕ → List Name → PathStop
path_stop es k [] = stop.AtValue
path_stop es k (x ∷ []) = stop.AtValue
path_stop es k (X ∷ (Y ∷ path)) = behind_step (step_of es X) k (path_stop (entries_in (or_value (step_of es X) Opaque)) (suc k) (Y ∷ path))

-- where the path of a target stops
abbrev pub target_stop : Entries → Target → PathStop
target_stop es (Dotted path) = path_stop es 0 path
target_stop es (At file token) = stop.AtValue
target_stop es (Spot file line column) = stop.AtValue
