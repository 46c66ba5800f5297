use Rattle.std.proofs.Common.{ap, arith, length-take}
use Rattle.tree_io.specs.Store.{store_room}
use Rattle.tree_io.proofs.mem_tree.MemTreeTree.write.Goals as goal

pub put-requires-clause-fits : goal.put-requires-clause-fits
put-requires-clause-fits c =
    let same = ap (λ store. store_room store c.args.name.now) c.count_call-answer.ensures.store in
    omega (arith, same, c.requires.fits, length-take c.if-is_ok.kept c.args.bytes.now)
