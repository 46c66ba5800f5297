use Rattle.std.proofs.Common.{◌≡◌, ◌∙◌}
use Rattle.std.proofs.lemmas.Result.{IfOk-weaker}
use Rattle.shape_core.specs.Links as links
use Rattle.shape_core.specs.Looks as pure
use Rattle.sig_match.specs.Walk.{met, trace_of}
use Rattle.sig_match.specs.Tests.{HasLooks}
use Rattle.sig_match.proofs.LinkAnswers.{from_start}
use Rattle.sig_match.proofs.LookAnswers.{looked, matched_looks}
use Rattle.sig_match.proofs.looks.watch_match.Goals as goal

pub returns : goal.returns
returns c =
    let r = c.match_both-walked.result in
    let found = c.match_both-walked.new.found in
    IfOk-weaker c.looks_after.result (HasLooks r found c.args.watch.now) (λ l. l ≡ pure.match_looks c.args.watch.now c.args.src.now c.args.tgt.now)
    (λ l a. looked r 4294967295 found (links.matched met c.args.src.now c.args.tgt.now) c.args.watch.now l
    (from_start r 4294967295 c.new-2.result.items (trace_of found) (links.matched met c.args.src.now c.args.tgt.now) c.new-2.ensures.items
    c.match_both-walked.ensures) a
    ∙ matched_looks c.args.watch.now c.args.src.now c.args.tgt.now)
    c.looks_after.ensures
