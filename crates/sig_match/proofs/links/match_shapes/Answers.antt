use Rattle.std.proofs.lemmas.Result.{IfOk-weaker}
use Rattle.sig_match.specs.Walk.{met, trace_of}
use Rattle.sig_match.specs.Matched.{IsMatched, IsAnswer}
use Rattle.sig_match.proofs.LinkAnswers.{answered, matched_links, from_start}
use Rattle.shape_core.specs.Links as links
use Rattle.sig_match.proofs.links.match_shapes.Goals as goal

pub returns : goal.returns
returns c =
    let room = c.args.room in
    IfOk-weaker c.make_matched.result (IsAnswer c.match_both-walked.result c.match_both-walked.new.found)
    (IsMatched room (links.links c.args.src.now c.args.tgt.now))
    (λ m a. answered c.match_both-walked.result room c.match_both-walked.new.found (links.matched met c.args.src.now c.args.tgt.now)
    (links.links c.args.src.now c.args.tgt.now) m (matched_links c.args.src.now c.args.tgt.now)
    (from_start c.match_both-walked.result room c.new-2.result.items (trace_of c.match_both-walked.new.found)
    (links.matched met c.args.src.now c.args.tgt.now) c.new-2.ensures.items c.match_both-walked.ensures) a) c.make_matched.ensures
