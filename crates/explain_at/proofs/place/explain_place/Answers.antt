use Rattle.std.proofs.Common.{map}
use Rattle.ml_trees.specs.View.{view_project}
use Rattle.refusal_words.specs.Cut.{view_cut}
use Rattle.explain_at.proofs.Placing.{said_declared, said_nothing}
use Rattle.explain_at.proofs.place.explain_place.Goals as goal

pub returns-in-Value : goal.returns-in-Value
returns-in-Value c =
    said_declared (view_project c.args.project.now) (map view_cut c.args.cuts.now) c.args.place c.in_ok-found.found c.in-Value.declared
    c.explain_target.result c.in_ok-found.ensures c.in-Value.is c.explain_target.ensures

pub returns-in_ok-explain_valueless-in_default : goal.returns-in_ok-explain_valueless-in_default
returns-in_ok-explain_valueless-in_default c =
    said_nothing (view_project c.args.project.now) (map view_cut c.args.cuts.now) c.args.place c.in_ok-found.found
    c.in_ok-explain_valueless-in_default.field-0 c.refuse_at.result c.in_ok-found.ensures c.in_default.not-Value
    c.in_ok-explain_valueless-in_default.ensures
    c.refuse_at.ensures
