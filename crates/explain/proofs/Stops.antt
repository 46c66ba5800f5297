-- A path, step by step.
use Rattle.std.proofs.Common.{◌≡◌, ◌<◌, ℕ, suc, List, [], ◌∷◌, length, None, Some, refl, ap, ◌∙◌, arith}
use Rattle.shape_core.specs.Shape.{Name, Shape, Opaque, Entries, entries_in, or_value}
use Rattle.explain.specs.declared.path_stop.PathStop.TheVariants as stop
use Rattle.explain.specs.PathStop.{behind_shape, behind_step, is_struct, path_stop, step_of}

-- a step before the last name
step : (es : Entries) (k : ℕ) (X : Name) (rest : List Name) → 0 < length rest
    → path_stop es k (X ∷ rest) ≡ behind_step (step_of es X) k (path_stop (entries_in (or_value (step_of es X) Opaque)) (suc k) rest)
step es k X [] w = absurd (omega (arith, w))
step es k X (Y ∷ rest) w = refl

-- it names nothing
pub lacks : (es : Entries) (k : ℕ) (X : Name) (rest : List Name) → 0 < length rest → step_of es X ≡ None → path_stop es k (X ∷ rest) ≡ stop.Lacks k
lacks es k X rest w e =
    step es k X rest w ∙ ap (λ o. behind_step o k (path_stop (entries_in (or_value o Opaque)) (suc k) rest)) e

-- it names a shape
pub goes_on : (es : Entries) (k : ℕ) (X : Name) (rest : List Name) (s : Shape) → 0 < length rest → step_of es X ≡ Some s
    → path_stop es k (X ∷ rest) ≡ behind_shape (is_struct s) k (path_stop (entries_in s) (suc k) rest)
goes_on es k X rest s w e =
    step es k X rest w ∙ ap (λ o. behind_step o k (path_stop (entries_in (or_value o Opaque)) (suc k) rest)) e
