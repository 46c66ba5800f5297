use Rattle.std.proofs.Common.{◌∙◌, ap}
use Rattle.ml_trees.specs.View.{view_project}
use Rattle.rename_survey.specs.Listed.{binders_in}
use Rattle.rename_survey.proofs.Listing.{all_listed}
use Rattle.rename_survey.proofs.calls.look_over.Goals as goal

pub returns-clause-binders : goal.returns-clause-binders
returns-clause-binders c = c.in_ok-binders.ensures
    ∙ (ap binders_in c.in_ok-placed.ensures ∙ all_listed (view_project c.args.project.now) c.requires.sound)

pub returns-clause-bad : goal.returns-clause-bad
returns-clause-bad c = c.in_ok-bad.ensures (view_project c.args.project.now) c.in_ok-placed.ensures c.requires.facts
