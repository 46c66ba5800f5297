use Rattle.std.proofs.Common.{◌∙◌, ap, sym}
use Rattle.shape_core.specs.Declarations.{later}
use Rattle.shape_core.specs.Node.{entries_of}
use Rattle.shape_core.proofs.Declaring.{last_step, none_last}
use Rattle.shape_core.proofs.declarations.Declarations.last_member.Goals as goal

pub loop-decl-init : goal.loop-decl-init
loop-decl-init c list has darks = sym (none_last (entries_of list))

pub loop-decl-preserved : goal.loop-decl-preserved
loop-decl-preserved c list has darks =
    last_step c.args.self.now list c.args.decls.now c.loop-decl.decl-index (record { file = 0; token = 0 }) c.args.darks c.loop-decl.last
    c.take_later-last.result c.loop-decl-test.true darks has (c.loop-decl.invariant list has darks)
    (c.take_later-last.ensures ∙ ap (later c.loop-decl.last) c.spot.ensures)
