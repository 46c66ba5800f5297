use Rattle.std.proofs.Common.{map, sym, ◌∙◌}
use Rattle.ml_trees.specs.View.{view_project}
use Rattle.refusal_words.specs.Cut.{view_cut}
use Rattle.explain_at.proofs.Cutting.{cut_there, token_there}
use Rattle.explain_at.proofs.Placing.{said_between, said_past, said_token}
use Rattle.explain_at.proofs.spot.explain_spot_of_source.Goals as goal

pub returns-in_default : goal.returns-in_default
returns-in_default c =
    said_past (view_project c.args.project.now) (map view_cut c.args.cuts.now) c.args.number (view_cut c.index-cuts-number.result) c.args.here
    (cut_there c.args.cuts.now c.args.number c.index-cuts-number.result c.requires.within c.index-cuts-number.is)
    c.in_ok-sentence.sentence c.in_ok-explain_nameless.field-0 c.refuse_at.result (sym c.offset_of.ensures ∙ c.in_default.is) c.in_ok-sentence.ensures
    c.in_ok-explain_nameless.ensures c.refuse_at.ensures

pub returns-in_default-token_at : goal.returns-in_default-token_at
returns-in_default-token_at c =
    said_between (view_project c.args.project.now) (map view_cut c.args.cuts.now) c.args.number (view_cut c.index-cuts-number.result) c.args.here
    (cut_there c.args.cuts.now c.args.number c.index-cuts-number.result c.requires.within c.index-cuts-number.is) c.in-Some.offset
    c.in_ok-sentence-2.sentence c.in_ok-explain_nameless-2.field-0 c.refuse_at-in_default-token_at.result (sym c.offset_of.ensures ∙ c.in-Some.is)
    (token_there c.in-Some.offset c.deref.result.now _ c.token_at.result _ c.deref.ensures.value c.token_at.ensures c.in_default-token_at.is)
    c.in_ok-sentence-2.ensures c.in_ok-explain_nameless-2.ensures c.refuse_at-in_default-token_at.ensures

pub returns : goal.returns
returns c =
    said_token (view_project c.args.project.now) (map view_cut c.args.cuts.now) c.args.number (view_cut c.index-cuts-number.result) c.args.here
    (cut_there c.args.cuts.now c.args.number c.index-cuts-number.result c.requires.within c.index-cuts-number.is) c.in-Some.offset
    c.in-Some-token_at.token c.explain_place.result (sym c.offset_of.ensures ∙ c.in-Some.is)
    (token_there c.in-Some.offset c.deref.result.now _ c.token_at.result _ c.deref.ensures.value c.token_at.ensures c.in-Some-token_at.is)
    c.explain_place.ensures
