use Rattle.std.proofs.Common.{inl, sym, subst}
use Rattle.ml_trees.specs.View.{view_project}
use Rattle.capture_check.specs.Local.{IsLocalFault}
use Rattle.rename_parts.proofs.Faulted.{some_fault, no_fault}
use Rattle.rename_files.specs.Steps.{LastRungs}
use Rattle.rename_files.proofs.judge.judge_faults.Goals as goal

pub returns-in-None-clause-passed : goal.returns-in-None-clause-passed
returns-in-None-clause-passed c =
    let us = view_project c.args.read.now.project in
    let r = c.requires in
    let found = c.in_ok-local_fault_of.ensures us r.placed r.sound r.facts c.in_ok-looks.ensures r.watched in
    no_fault us c.args.watch.now (subst (IsLocalFault us c.args.watch.now) c.in-None.is found)

pub returns-clause-refused : goal.returns-clause-refused
returns-clause-refused c =
    let us = view_project c.args.read.now.project in
    let r = c.requires in
    let found = c.in_ok-local_fault_of.ensures us r.placed r.sound r.facts c.in_ok-looks.ensures r.watched in
    inl (subst (LastRungs us c.args.watch.now) (sym c.refusal_of_fault.ensures)
    (some_fault us c.args.watch.now c.in-Some.fault (subst (IsLocalFault us c.args.watch.now) c.in-Some.is found)))
