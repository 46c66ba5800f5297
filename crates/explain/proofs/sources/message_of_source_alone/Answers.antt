use Rattle.std.proofs.Common.{refl, None}
use Rattle.ml_trees.specs.View.{view_project}
use Rattle.explain.proofs.Saying.{source_read}
use Rattle.explain.proofs.sources.message_of_source_alone.Goals as goal

pub returns-in-Ok : goal.returns-in-Ok
returns-in-Ok c =
    source_read c.args.source.now c.args.files.now (view_project c.in-Ok.field-0.project) None c.requires c.in-Ok.ensures.project refl
