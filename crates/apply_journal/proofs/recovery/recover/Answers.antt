use Rattle.std.proofs.Common.{◌-◌, Option, List, Vec, IfSome, option_map, subst, arith}
use Rattle.std.specs.declared.alloc.Global.{Global}
use Rattle.rotor_base.specs.declared.source.SourceFile.{SourceFile}
use Rattle.tree_io.specs.Writes.{Written, StoppedWriting}
use Rattle.apply_journal.specs.declared.error.RecoverError.TheVariants.{BadPlan}
use Rattle.apply_journal.specs.declared.recovery.Recovery.TheVariants.{Nothing, Done}
use Rattle.apply_journal.specs.Recovered.{IsDue, ArePlanWrites}
use Rattle.apply_journal.proofs.Recovering.{goes_on, plan_count, some_writes, recovered_none, recovered_some, recovery_stopped, leaves_recovered}
use Rattle.apply_journal.proofs.Recovering.{keeps_stopped}
use Rattle.apply_journal.proofs.recovery.recover.Goals as goal

pub returns-in_err-writes-clause-bad_plan : goal.returns-in_err-writes-clause-bad_plan
returns-in_err-writes-clause-bad_plan g c =
    λ is. c.in_err-writes.ensures.bad_plan
    (goes_on c.from_residual.result c.in_err-writes.field-0.0 BadPlan c.from_residual.ensures.0 c.from_residual.ensures.1 is)

pub returns-in_default-clause-recovered : goal.returns-in_default-clause-recovered
returns-in_default-clause-recovered g c =
    let start = g.T.Tree.content c.args.tree.now in
    let due = subst (λ (found : Option (Vec SourceFile Global)). IfSome start (λ held. IsDue held (option_map (λ writes. writes.items) found)))
    c.in_default.is c.in_ok-writes.ensures.due in
    recovered_none start (g.T.Tree.content c.read_recovery.new.tree) c.read_recovery.ensures.content due

pub returns-in_default-clause-found : goal.returns-in_default-clause-found
returns-in_default-clause-found g c =
    let start = g.T.Tree.content c.args.tree.now in
    let due = subst (λ (found : Option (Vec SourceFile Global)). IfSome start (λ held. IsDue held (option_map (λ writes. writes.items) found)))
    c.in_default.is c.in_ok-writes.ensures.due in
    leaves_recovered start (g.T.Tree.content c.read_recovery.new.tree) Nothing
    (recovered_none start (g.T.Tree.content c.read_recovery.new.tree) c.read_recovery.ensures.content due)

pub overflow_cast-result : goal.overflow_cast-result
overflow_cast-result g c =
    let writes = subst (λ (found : Option (Vec SourceFile Global)). IfSome found (λ writes. ArePlanWrites writes.items)) c.in-Some.is
    c.in_ok-writes.ensures.plan in
    let count = plan_count c.in-Some.writes.items writes in
    omega (arith, c.len.ensures, c.in-Some.writes.ok.0, count)

pub returns-in-Ok-clause-recovered : goal.returns-in-Ok-clause-recovered
returns-in-Ok-clause-recovered g c =
    let start = g.T.Tree.content c.args.tree.now in
    let mid = g.T.Tree.content c.read_recovery.new.tree in
    let left = g.T.Tree.content c.write_all.new.tree in
    let due = subst (λ (found : Option (Vec SourceFile Global)). IfSome start (λ held. IsDue held (option_map (λ writes. writes.items) found)))
    c.in-Some.is c.in_ok-writes.ensures.due in
    let writes = subst (λ (found : Option (Vec SourceFile Global)). IfSome found (λ writes. ArePlanWrites writes.items)) c.in-Some.is
    c.in_ok-writes.ensures.plan in
    let written = subst (λ (ws : List SourceFile). Written ws mid left) c.deref.ensures.value c.in-Ok.ensures.written in
    recovered_some start mid left c.in-Some.writes.items (c.len.result - 1) c.read_recovery.ensures.content due written
    (omega (arith, c.len.ensures, some_writes c.in-Some.writes.items writes))

pub returns-in-Ok-clause-found : goal.returns-in-Ok-clause-found
returns-in-Ok-clause-found g c =
    let start = g.T.Tree.content c.args.tree.now in
    let mid = g.T.Tree.content c.read_recovery.new.tree in
    let left = g.T.Tree.content c.write_all.new.tree in
    let due = subst (λ (found : Option (Vec SourceFile Global)). IfSome start (λ held. IsDue held (option_map (λ writes. writes.items) found)))
    c.in-Some.is c.in_ok-writes.ensures.due in
    let writes = subst (λ (found : Option (Vec SourceFile Global)). IfSome found (λ writes. ArePlanWrites writes.items)) c.in-Some.is
    c.in_ok-writes.ensures.plan in
    let written = subst (λ (ws : List SourceFile). Written ws mid left) c.deref.ensures.value c.in-Ok.ensures.written in
    leaves_recovered start left (Done (c.len.result - 1))
    (recovered_some start mid left c.in-Some.writes.items (c.len.result - 1) c.read_recovery.ensures.content due written
    (omega (arith, c.len.ensures, some_writes c.in-Some.writes.items writes)))

pub returns-clause-stopped : goal.returns-clause-stopped
returns-clause-stopped g c = λ _.
    let start = g.T.Tree.content c.args.tree.now in
    let mid = g.T.Tree.content c.read_recovery.new.tree in
    let left = g.T.Tree.content c.write_all.new.tree in
    let due = subst (λ (found : Option (Vec SourceFile Global)). IfSome start (λ held. IsDue held (option_map (λ writes. writes.items) found)))
    c.in-Some.is c.in_ok-writes.ensures.due in
    let stopped = subst (λ (ws : List SourceFile). StoppedWriting ws mid left) c.deref.ensures.value c.in-Err.ensures.stopped in
    recovery_stopped start mid left c.in-Some.writes.items c.read_recovery.ensures.content due stopped

pub returns-clause-kept : goal.returns-clause-kept
returns-clause-kept g c =
    let start = g.T.Tree.content c.args.tree.now in
    let mid = g.T.Tree.content c.read_recovery.new.tree in
    let left = g.T.Tree.content c.write_all.new.tree in
    let due = subst (λ (found : Option (Vec SourceFile Global)). IfSome start (λ held. IsDue held (option_map (λ writes. writes.items) found)))
    c.in-Some.is c.in_ok-writes.ensures.due in
    let stopped = subst (λ (ws : List SourceFile). StoppedWriting ws mid left) c.deref.ensures.value c.in-Err.ensures.stopped in
    λ held is. keeps_stopped held left (recovery_stopped start mid left c.in-Some.writes.items c.read_recovery.ensures.content due stopped held is)
