-- Rows of parts, as steps.
use Rattle.std.proofs.Common.{◌≡◌, ℕ, List, refl, ap}
use Rattle.value_sites.specs.Places.{Site}
use Rattle.ml_trees.specs.Tree.{Pats, no_pat, more_pat}
use Rattle.shape_core.specs.Shape.{Entries}
use Rattle.binding_model.specs.Scopes.{bound}
use Rattle.binding_model.specs.Steps.{Steps, quiet, ◌⨾◌, GroupOf, TieOf}
use Rattle.binding_model.specs.Variables.{variables}
use Rattle.binding_model.specs.Walk.{ties}

-- the parts of an or-pattern, each tied to the entries of the part before it
abbrev pub ties_from : ℕ → Entries → Pats → Steps
ties_from file before no_pat = quiet
ties_from file before (more_pat p ps) = GroupOf (bound file (variables p)) ⨾ TieOf (bound file (variables p)) before ⨾ ties_from file
    (bound file (variables p)) ps

pub ties_so : (file : ℕ) (before : List Site) (ps : Pats) → ties_from file (bound file before) ps ≡ ties file before ps
ties_so file before no_pat = refl
ties_so file before (more_pat p ps) = ap (λ s. GroupOf (bound file (variables p)) ⨾ TieOf (bound file (variables p)) (bound file before) ⨾ s)
    (ties_so file (variables p) ps)
