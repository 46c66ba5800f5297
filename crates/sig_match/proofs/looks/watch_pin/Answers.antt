use Rattle.std.proofs.Common.{◌≡◌, ◌∙◌}
use Rattle.std.proofs.lemmas.Result.{IfOk-weaker}
use Rattle.shape_core.specs.Links as links
use Rattle.shape_core.specs.Looks as pure
use Rattle.sig_match.specs.Walk.{met, trace_of}
use Rattle.sig_match.specs.Tests.{HasLooks}
use Rattle.sig_match.proofs.LinkAnswers.{from_start}
use Rattle.sig_match.proofs.LookAnswers.{looked, pinned_looks}
use Rattle.sig_match.proofs.looks.watch_pin.Goals as goal

pub returns : goal.returns
returns c =
    let r = c.pin_shape-walked.result in
    let found = c.pin_shape-walked.new.found in
    IfOk-weaker c.looks_after.result (HasLooks r found c.args.watch.now) (λ l. l ≡ pure.pin_looks c.args.watch.now c.args.shape.now)
    (λ l a. looked r 4294967295 found (links.pin met c.args.shape.now) c.args.watch.now l
    (from_start r 4294967295 c.new.result.items (trace_of found) (links.pin met c.args.shape.now) c.new.ensures.items c.pin_shape-walked.ensures) a
    ∙ pinned_looks c.args.watch.now c.args.shape.now)
    c.looks_after.ensures
