use Rattle.refusal_places.proofs.Telling.{said_unread}
use Rattle.refusal_places.proofs.unread.unread_message.Goals as goal

pub returns : goal.returns
returns c =
    said_unread c.args.cut.now c.kind_of-kind.result c.deref.result.now c.deref-2.result.now c.in_ok-front.front c.in_ok-stop.stop
    c.in_ok-ends.ends c.explain_stop.result c.kind_of-kind.ensures c.deref.ensures.value c.deref-2.ensures.value c.in_ok-front.ensures.front
    c.in_ok-stop.ensures.behind_front c.in_ok-stop.ensures.within c.explain_stop.ensures
