use Rattle.std.proofs.Common.{List, None, Some, Contains, subst}
use Rattle.ml_trees.specs.View.{view_project}
use Rattle.rename_verify.specs.Changed.{Changed}
use Rattle.rename_verify.specs.Fixed.{IsLeastHeld}
use Rattle.rename_verify.specs.Steps.{HasFirstFault, HasSpot}
use Rattle.rename_verify.proofs.Judged.{all_kept, broken_fault, changes_free, fixed_binder, is_read_again, other_bytes, same_shape}
use Rattle.rename_verify.proofs.calls.judge.Goals as goal

pub returns-in-Some-clause-verdict : goal.returns-in-Some-clause-verdict
returns-in-Some-clause-verdict c =
    let us = view_project c.args.read.now.project in
    let names = c.in_ok-found.found.names.items in
    other_bytes c.args.old.now c.args.new.now us c.requires.project c.requires.reads c.requires.light c.requires.names c.requires.manifest names
    c.in_ok-found.found.changes.items c.args.placed.now c.requires.placed c.in_ok-found.ensures c.in-Some.spot
    (subst (HasSpot us names c.args.old.now c.args.new.now) c.in-Some.is c.in_ok-spot.ensures)

pub returns-in-Some-2-clause-verdict : goal.returns-in-Some-2-clause-verdict
returns-in-Some-2-clause-verdict c =
    let us = view_project c.args.read.now.project in
    let names = c.in_ok-found.found.names.items in
    fixed_binder c.args.old.now c.args.new.now us c.requires.project c.requires.reads c.requires.light c.requires.names c.requires.manifest names
    c.in_ok-found.found.changes.items c.args.placed.now c.requires.placed c.in_ok-found.ensures
    (subst (HasSpot us names c.args.old.now c.args.new.now) c.in_default.is c.in_ok-spot.ensures) c.in-Some-2.at
    (subst (λ (l : List Changed). IsLeastHeld us l (Some c.in-Some-2.at)) c.deref.ensures.value
    (subst (IsLeastHeld us c.deref.result.now) c.in-Some-2.is
    (c.in_ok-at.ensures (view_project c.args.read.now.project) c.requires.placed c.requires.facts (λ k among.
    changes_free c.args.old.now c.args.new.now (view_project c.args.read.now.project) c.requires.project c.requires.reads c.requires.light
    c.requires.names c.requires.manifest c.in_ok-found.found.names.items c.in_ok-found.found.changes.items c.args.placed.now c.requires.placed
    c.in_ok-found.ensures k
    (subst (λ (l : List Changed). Contains l k) c.deref.ensures.value among)))))

pub find_fault-requires-clause-read : goal.find_fault-requires-clause-read
find_fault-requires-clause-read c =
    let us = view_project c.args.read.now.project in
    let names = c.in_ok-found.found.names.items in
    is_read_again c.args.old.now c.args.new.now us c.requires.project c.requires.reads c.requires.light c.requires.names c.requires.manifest names
    c.in_ok-found.found.changes.items c.args.placed.now c.requires.placed c.in_ok-found.ensures
    (subst (HasSpot us names c.args.old.now c.args.new.now) c.in_default.is c.in_ok-spot.ensures)
    (subst (λ (l : List Changed). IsLeastHeld us l None) c.deref.ensures.value
    (subst (IsLeastHeld us c.deref.result.now) c.in_default-2.is
    (c.in_ok-at.ensures (view_project c.args.read.now.project) c.requires.placed c.requires.facts (λ k among.
    changes_free c.args.old.now c.args.new.now (view_project c.args.read.now.project) c.requires.project c.requires.reads c.requires.light
    c.requires.names c.requires.manifest c.in_ok-found.found.names.items c.in_ok-found.found.changes.items c.args.placed.now c.requires.placed
    c.in_ok-found.ensures k
    (subst (λ (l : List Changed). Contains l k) c.deref.ensures.value among)))))

pub find_fault-requires-clause-same : goal.find_fault-requires-clause-same
find_fault-requires-clause-same c =
    let us = view_project c.args.read.now.project in
    let names = c.in_ok-found.found.names.items in
    same_shape c.args.old.now c.args.new.now us c.requires.project c.requires.reads c.requires.light c.requires.names c.requires.manifest names
    c.in_ok-found.found.changes.items c.args.placed.now c.requires.placed c.in_ok-found.ensures
    (subst (HasSpot us names c.args.old.now c.args.new.now) c.in_default.is c.in_ok-spot.ensures)
    (subst (λ (l : List Changed). IsLeastHeld us l None) c.deref.ensures.value
    (subst (IsLeastHeld us c.deref.result.now) c.in_default-2.is
    (c.in_ok-at.ensures (view_project c.args.read.now.project) c.requires.placed c.requires.facts (λ k among.
    changes_free c.args.old.now c.args.new.now (view_project c.args.read.now.project) c.requires.project c.requires.reads c.requires.light
    c.requires.names c.requires.manifest c.in_ok-found.found.names.items c.in_ok-found.found.changes.items c.args.placed.now c.requires.placed
    c.in_ok-found.ensures k
    (subst (λ (l : List Changed). Contains l k) c.deref.ensures.value among)))))
    c.args.facts.now c.requires.facts

pub returns-in-Some-3-clause-verdict : goal.returns-in-Some-3-clause-verdict
returns-in-Some-3-clause-verdict c =
    let us = view_project c.args.read.now.project in
    let names = c.in_ok-found.found.names.items in
    broken_fault c.args.old.now c.args.new.now us c.requires.project c.requires.reads c.requires.light c.requires.names c.requires.manifest names
    c.in_ok-found.found.changes.items c.args.placed.now c.requires.placed c.in_ok-found.ensures
    (subst (HasSpot us names c.args.old.now c.args.new.now) c.in_default.is c.in_ok-spot.ensures)
    (subst (λ (l : List Changed). IsLeastHeld us l None) c.deref.ensures.value
    (subst (IsLeastHeld us c.deref.result.now) c.in_default-2.is
    (c.in_ok-at.ensures (view_project c.args.read.now.project) c.requires.placed c.requires.facts (λ k among.
    changes_free c.args.old.now c.args.new.now (view_project c.args.read.now.project) c.requires.project c.requires.reads c.requires.light
    c.requires.names c.requires.manifest c.in_ok-found.found.names.items c.in_ok-found.found.changes.items c.args.placed.now c.requires.placed
    c.in_ok-found.ensures k
    (subst (λ (l : List Changed). Contains l k) c.deref.ensures.value among)))))
    c.args.facts.now c.requires.facts c.in-Some-3.fault
    (subst (HasFirstFault c.args.new.now c.args.facts.now) c.in-Some-3.is c.in_ok-fault.ensures.fault)

pub returns-in-None-clause-verdict : goal.returns-in-None-clause-verdict
returns-in-None-clause-verdict c =
    let us = view_project c.args.read.now.project in
    let names = c.in_ok-found.found.names.items in
    all_kept c.args.old.now c.args.new.now us c.requires.project c.requires.reads c.requires.light c.requires.names c.requires.manifest names
    c.in_ok-found.found.changes.items c.args.placed.now c.requires.placed c.in_ok-found.ensures
    (subst (HasSpot us names c.args.old.now c.args.new.now) c.in_default.is c.in_ok-spot.ensures)
    (subst (λ (l : List Changed). IsLeastHeld us l None) c.deref.ensures.value
    (subst (IsLeastHeld us c.deref.result.now) c.in_default-2.is
    (c.in_ok-at.ensures (view_project c.args.read.now.project) c.requires.placed c.requires.facts (λ k among.
    changes_free c.args.old.now c.args.new.now (view_project c.args.read.now.project) c.requires.project c.requires.reads c.requires.light
    c.requires.names c.requires.manifest c.in_ok-found.found.names.items c.in_ok-found.found.changes.items c.args.placed.now c.requires.placed
    c.in_ok-found.ensures k
    (subst (λ (l : List Changed). Contains l k) c.deref.ensures.value among)))))
    c.args.facts.now c.requires.facts (subst (HasFirstFault c.args.new.now c.args.facts.now) c.in-None.is c.in_ok-fault.ensures.fault)
