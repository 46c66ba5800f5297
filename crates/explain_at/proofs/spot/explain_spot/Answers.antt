use Rattle.std.proofs.Common.{map, sym, ◌∙◌}
use Rattle.ml_trees.specs.View.{view_project}
use Rattle.refusal_words.specs.Cut.{view_cut}
use Rattle.explain_at.proofs.Placing.{said_has}
use Rattle.explain_at.proofs.spot.explain_spot.Goals as goal

pub returns-in-Some : goal.returns-in-Some
returns-in-Some c =
    said_has c.args.sources.now (view_project c.args.project.now) (map view_cut c.args.cuts.now) c.args.file.now c.args.here c.in-Some.number
    c.explain_spot_of_source.result (sym c.number_of.ensures.found ∙ c.in-Some.is) c.explain_spot_of_source.ensures
