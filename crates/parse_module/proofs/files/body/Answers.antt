use Rattle.std.proofs.Common.{◌+◌, length, arith}
use Rattle.ml_trees.specs.View.{items}
use Rattle.parse_module.proofs.Whole.{body_cut, body_whole}
use Rattle.parse_module.proofs.files.body.Goals as goal

pub returns-then-end-len : goal.returns-then-end-len
returns-then-end-len c = body_cut c.args.file (length c.args.tokens.now + 1) (items c.in_ok-items.items.items) c.args.tokens.now c.in_ok-items.end
    c.in_ok-items.ensures (omega (arith, c.if-end-len.true, c.len.ensures))

pub returns : goal.returns
returns c = body_whole c.args.file (length c.args.tokens.now + 1) (items c.in_ok-items.items.items) c.args.tokens.now c.in_ok-items.end
    c.in_ok-items.ensures (omega (arith, c.if-end-len.false, c.len.ensures))
