use Rattle.std.proofs.Common.{◌∙◌, sym}
use Rattle.std.proofs.lemmas.Result.{IfOk-weaker}
use Rattle.refusal_words.specs.Cut.{view_cut}
use Rattle.document_answers.specs.Over.{nowhere}
use Rattle.document_answers.proofs.Cutting.{cut_there, few_there}
use Rattle.document_answers.proofs.over.answer_at_position.Goals as goal

pub answer_at_offset-requires-clause-small : goal.answer_at_offset-requires-clause-small
answer_at_offset-requires-clause-small c =
    few_there c.args.around.scene.cuts.now c.args.number c.index-cuts-number.result c.requires.within c.index-cuts-number.is c.requires.known.small

pub returns-in-Some-clause-reply : goal.returns-in-Some-clause-reply
returns-in-Some-clause-reply c =
    IfOk-weaker c.answer_at_offset.result _ _ (λ reply h. (
      view_cut c.index-cuts-number.result,
      cut_there c.args.around.scene.cuts.now c.args.number c.index-cuts-number.result c.requires.within c.index-cuts-number.is,
      h,
    ))
    (c.answer_at_offset.ensures.reply c.args.position (sym c.offset_of.ensures ∙ c.in-Some.is))

pub returns-in-None-clause-reply : goal.returns-in-None-clause-reply
returns-in-None-clause-reply c =
    IfOk-weaker c.bad_reply.result _ _ (λ reply h. (
      view_cut c.index-cuts-number.result,
      cut_there c.args.around.scene.cuts.now c.args.number c.index-cuts-number.result c.requires.within c.index-cuts-number.is,
      nowhere (sym c.offset_of.ensures ∙ c.in-None.is) h,
    )) c.bad_reply.ensures.reply
