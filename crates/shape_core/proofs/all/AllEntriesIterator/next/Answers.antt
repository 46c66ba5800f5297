use Rattle.std.proofs.Common.{sym, arith}
use Rattle.shape_core.proofs.Positions.{drop_at, drop_end, drop_past}
use Rattle.shape_core.proofs.all.AllEntriesIterator.next.Goals as goal

pub returns-then-self-len-clause-steps : goal.returns-then-self-len-clause-steps
returns-then-self-len-clause-steps c =
    let e = drop_past c.args.self.now.scope.now c.args.self.now.at (omega (arith, c.len.ensures, c.if-self-len.true)) in
    (e, e)

pub returns-in-Some-clause-steps : goal.returns-in-Some-clause-steps
returns-in-Some-clause-steps c = drop_at c.args.self.now.scope.now c.args.self.now.at c.in-Some.entry.now (sym c.in-Some.ensures)

pub returns-in-None-clause-steps : goal.returns-in-None-clause-steps
returns-in-None-clause-steps c =
    let e = drop_end c.args.self.now.scope.now c.args.self.now.at (sym c.in-None.ensures) in
    (e, e)
