use Rattle.std.proofs.Common.{take, arith}
use Rattle.std.specs.List.{between}
use Rattle.tree_io.proofs.Overwritten.{put_more, taken, front_stays}
use Rattle.tree_io.proofs.host_writes.put_part.Goals as goal

pub loop-at-preserved : goal.loop-at-preserved
loop-at-preserved g c =
    let bytes = c.args.bytes.now in
    let at = c.loop-at.at in
    let n = c.in-Ok.count in
    let before = c.loop-at.invariant.before in
    let piece = taken bytes at c.args.upto n before c.requires.within c.in-Ok.ensures.count in
    let behind = c.loop-at.invariant.behind in
    record {
      behind = omega (arith, behind);
      before = piece.2;
      put = put_more bytes (take n (between at c.args.upto bytes)) c.args.from at n (g.D.Disk.held c.args.file.now) (g.D.Disk.held c.loop-at.file)
          (g.D.Disk.held c.put.new.file) piece.0 piece.1 behind (let within = c.requires.within in omega (arith, before, within))
          c.loop-at.invariant.put c.in-Ok.ensures.bytes;
    }

pub returns-in_default-clause-front : goal.returns-in_default-clause-front
returns-in_default-clause-front g c =
    let before = c.loop-at.invariant.before in
    let within = c.requires.within in
    front_stays c.args.bytes.now c.args.from c.loop-at.at (g.D.Disk.held c.args.file.now) (g.D.Disk.held c.loop-at.file)
    (g.D.Disk.held c.put.new.file)
    c.loop-at.invariant.behind (omega (arith, before, within)) c.loop-at.invariant.put c.put.ensures.front

pub returns-then-count-eq0-clause-front : goal.returns-then-count-eq0-clause-front
returns-then-count-eq0-clause-front g c =
    let before = c.loop-at.invariant.before in
    let within = c.requires.within in
    front_stays c.args.bytes.now c.args.from c.loop-at.at (g.D.Disk.held c.args.file.now) (g.D.Disk.held c.loop-at.file)
    (g.D.Disk.held c.put.new.file)
    c.loop-at.invariant.behind (omega (arith, before, within)) c.loop-at.invariant.put c.put.ensures.front
