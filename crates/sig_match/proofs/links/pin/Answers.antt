use Rattle.std.proofs.lemmas.Result.{IfOk-weaker}
use Rattle.sig_match.specs.Walk.{met, trace_of}
use Rattle.sig_match.specs.Matched.{IsMatched, IsAnswer}
use Rattle.sig_match.proofs.LinkAnswers.{answered, pinned_links, from_start}
use Rattle.shape_core.specs.Links as links
use Rattle.sig_match.proofs.links.pin.Goals as goal

pub returns : goal.returns
returns c =
    let room = c.args.room in
    IfOk-weaker c.make_matched.result (IsAnswer c.pin_shape-walked.result c.pin_shape-walked.new.found)
    (IsMatched room (links.pinned c.args.shape.now))
    (λ m a. answered c.pin_shape-walked.result room c.pin_shape-walked.new.found (links.pin met c.args.shape.now) (links.pinned c.args.shape.now) m
    (pinned_links c.args.shape.now)
    (from_start c.pin_shape-walked.result room c.new.result.items (trace_of c.pin_shape-walked.new.found)
    (links.pin met c.args.shape.now) c.new.ensures.items c.pin_shape-walked.ensures) a) c.make_matched.ensures
