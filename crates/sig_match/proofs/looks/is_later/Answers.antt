use Rattle.std.proofs.Common.{◌∙◌, ap, is_some, sym}
use Rattle.shape_core.specs.Looks as pure
use Rattle.shape_core.specs.Shape.{entries_in}
use Rattle.sig_match.specs.Tests.{rest_of, test_of}
use Rattle.sig_match.proofs.Behind.{later_behind}
use Rattle.sig_match.proofs.looks.is_later.Goals as goal

pub returns-in-Behind : goal.returns-in-Behind
returns-in-Behind c =
    let t = test_of c.args.test c.args.watch.now in
    later_behind t c.in-Behind.at (entries_in c.in-Behind.shape.now) c.find_last_in.result c.is_behind.result c.is_behind.ensures
    c.find_last_in.ensures
    ∙ ap (λ r. is_some (pure.last_where t (rest_of r))) (sym c.in-Behind.is)
