use Rattle.std.proofs.Common.{None, map}
use Rattle.ml_trees.specs.View.{view_project, view_unit}
use Rattle.shape_core.specs.Node.{entries_of}
use Rattle.binding_model.specs.Walk.{units_steps}
use Rattle.expr_resolve.proofs.Forms.{passed}
use Rattle.mod_shape.proofs.Resolving.{from_start, light_taken, heavy_taken}
use Rattle.mod_shape.proofs.resolved.facts.Goals as goal

pub returns-in_err-units-clause-heavy : goal.returns-in_err-units-clause-heavy
returns-in_err-units-clause-heavy c =
    let n = c.start_from_nothing-found.result in
    let l = c.deref.result.now in
    let r = c.from_residual-in_err-units in
    let stopped = passed r.result c.in_err-units.field-0.0 n (units_steps (entries_of c.in_ok-top.top) (map view_unit l)) r.ensures.0 r.ensures.1
    c.in_err-units.ensures.heavy in
    λ at h. heavy_taken (view_project c.args.project.now) None at
    (from_start None n c.in_ok-top.top l c.args.project.now.units.items _ c.start_from_nothing-found.ensures c.in_ok-top.ensures c.deref.ensures.value
    (stopped at h))

pub returns-clause-light : goal.returns-clause-light
returns-clause-light c =
    λ h. light_taken (view_project c.args.project.now) None c.units.new.found
    (from_start None c.start_from_nothing-found.result c.in_ok-top.top c.deref.result.now c.args.project.now.units.items _
    c.start_from_nothing-found.ensures
    c.in_ok-top.ensures c.deref.ensures.value
    c.in_ok-units.ensures.taken)
