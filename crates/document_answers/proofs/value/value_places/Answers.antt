use Rattle.std.proofs.lemmas.Result.{IfOk-weaker}
use Rattle.document_answers.proofs.value.value_places.Goals as goal

pub returns : goal.returns
returns c = IfOk-weaker c.places_of.result _ _ (λ places e. (c.in_ok-foot.foot, c.in_ok-foot.ensures.foot, e)) c.places_of.ensures
