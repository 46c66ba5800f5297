use Rattle.std.proofs.Common.{subst}
use Rattle.rotor_base.specs.declared.place.Facts.{Facts}
use Rattle.dependency_kernel.specs.Foot.{IsFoot}
use Rattle.ml_trees.specs.View.{view_project}
use Rattle.resolution_rows.proofs.Watching.{is_watched}
use Rattle.resolution_rows.proofs.faults.weigh.Goals as goal

pub local_fault-requires-clause-watched : goal.local_fault-requires-clause-watched
local_fault-requires-clause-watched c =
    let d = c.args.binder in
    let w = c.args.watch.now in
    let foot = subst (λ (f : Facts). IsFoot f.links d w.foot) c.requires.facts c.requires.foot in
    is_watched (view_project c.args.project.now) d w c.requires.sound foot c.requires.binds c.requires.old
    (c.in-Ok.ensures.free (view_project c.args.project.now) d c.in_ok-placed.ensures c.requires.facts c.requires.old)
