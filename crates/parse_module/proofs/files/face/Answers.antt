use Rattle.std.proofs.Common.{◌+◌, length, arith}
use Rattle.ml_trees.specs.View.{sig_items}
use Rattle.parse_module.proofs.Whole.{face_cut, face_whole}
use Rattle.parse_module.proofs.files.face.Goals as goal

pub returns-then-after-len : goal.returns-then-after-len
returns-then-after-len c = face_cut c.args.file (length c.args.tokens.now + 1) (sig_items c.in_ok-items.items.items) c.args.tokens.now
    c.in_ok-items.after c.in_ok-items.ensures (omega (arith, c.if-after-len.true, c.len.ensures))

pub returns : goal.returns
returns c = face_whole c.args.file (length c.args.tokens.now + 1) (sig_items c.in_ok-items.items.items) c.args.tokens.now c.in_ok-items.after
    c.in_ok-items.ensures (omega (arith, c.if-after-len.false, c.len.ensures))
