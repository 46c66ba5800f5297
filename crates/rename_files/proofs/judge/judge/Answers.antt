use Rattle.std.proofs.Common.{◌≡◌, ◌∙◌, None, List, ℕ, sym, subst, ap}
use Rattle.rotor_base.specs.Files.{are_over}
use Rattle.std.specs.BTreeSet.{BTreeSet}
use Rattle.rotor_base.specs.declared.place.Place.{Place}
use Rattle.rotor_base.specs.declared.place.Facts.{Facts}
use Rattle.rotor_base.specs.declared.looks.Watch.{Watch}
use Rattle.ml_trees.specs.Tree.{UnitTree}
use Rattle.ml_trees.specs.View.{view_project}
use Rattle.shape_core.specs.Places.{HasPlaces}
use Rattle.binding_model.specs.Facts.{facts}
use Rattle.rename_model.specs.Foot.{hits}
use Rattle.rename_model.specs.Bytes.{position_with}
use Rattle.rename_model.specs.Renaming.{refusals_of_binder}
use Rattle.rename_project.proofs.Refusals.{stopped}
use Rattle.rename_project.specs.Steps.{IsRefusedFor}
use Rattle.rename_parts.specs.Sources.{AreMade}
use Rattle.rename_files.proofs.Judging.{first_refused, is_watched, are_respelled, grown_refused, fault_refused, is_free}
use Rattle.rename_files.proofs.judge.judge.Goals as goal

hits_of : (w : Watch) (fs : Facts) (us : List UnitTree) → fs ≡ facts us → (set : BTreeSet Place) → HasPlaces (hits fs.refs w.foot) set
    → HasPlaces (hits (facts us).refs w.foot) set
hits_of w fs us e set h = subst (λ (f : Facts). HasPlaces (hits f.refs w.foot) set) e h

pub returns-clause-places : goal.returns-clause-places
returns-clause-places c = c.in_ok-found.ensures.list ∙ ap (λ (f : Facts). hits f.refs c.args.watch.now.foot) c.requires.facts

pub returns-in_err-found-clause-refused : goal.returns-in_err-found-clause-refused
returns-in_err-found-clause-refused c =
    let us = view_project c.args.read.now.project in
    let foot = c.args.watch.now.foot in
    let new = c.args.watch.now.new in
    let e = c.in_err-found.field-0.0 in
    stopped c.from_residual.result e (IsRefusedFor (refusals_of_binder c.args.files.now.entries us c.args.binder foot new))
    c.from_residual.ensures
    (first_refused us c.args.binder foot new c.args.files.now.entries e
    (c.in_err-found.ensures.refused us c.args.binder c.requires.placed c.requires.facts c.requires.old))

pub returns-in-Some-clause-refused : goal.returns-in-Some-clause-refused
returns-in-Some-clause-refused c =
    let us = view_project c.args.read.now.project in
    let free = c.in_ok-found.ensures.free (view_project c.args.read.now.project) c.args.binder c.requires.placed c.requires.facts c.requires.old in
    let made = subst (λ (n : List ℕ). AreMade c.in_ok-found.found.set n 0 c.args.files.now.entries c.in_ok-sources.sources.items) c.as_bytes.ensures
    c.in_ok-sources.ensures.made in
    grown_refused us c.args.binder c.args.watch.now c.requires.sound c.requires.foot c.requires.binds c.requires.old free c.in_ok-found.found.set
    (hits_of c.args.watch.now c.args.facts.now (view_project c.args.read.now.project) c.requires.facts c.in_ok-found.found.set
    c.in_ok-found.ensures.set) c.args.files.now.entries c.in_ok-sources.sources.items made
    c.in-Some.file (sym c.in-Some.is ∙ (c.find_first_over.ensures ∙ ap (position_with are_over) c.deref.ensures.value))

pub judge_faults-requires-clause-watched : goal.judge_faults-requires-clause-watched
judge_faults-requires-clause-watched c =
    is_watched (view_project c.args.read.now.project) c.args.binder c.args.watch.now c.requires.sound c.requires.foot c.requires.binds c.requires.old
    (c.in_ok-found.ensures.free (view_project c.args.read.now.project) c.args.binder c.requires.placed c.requires.facts c.requires.old)

pub returns-clause-sources : goal.returns-clause-sources
returns-clause-sources c =
    let free = c.in_ok-found.ensures.free (view_project c.args.read.now.project) c.args.binder c.requires.placed c.requires.facts c.requires.old in
    let made = subst (λ (n : List ℕ). AreMade c.in_ok-found.found.set n 0 c.args.files.now.entries c.in_ok-sources.sources.items) c.as_bytes.ensures
    c.in_ok-sources.ensures.made in
    are_respelled (view_project c.args.read.now.project) c.args.binder c.args.watch.now c.requires.sound c.requires.foot c.requires.binds
    c.requires.old free c.in_ok-found.found.set
    (hits_of c.args.watch.now c.args.facts.now (view_project c.args.read.now.project) c.requires.facts c.in_ok-found.found.set
    c.in_ok-found.ensures.set)
    c.args.files.now.entries c.in_ok-sources.sources.items made

pub returns-clause-passed : goal.returns-clause-passed
returns-clause-passed c =
    let free = c.in_ok-found.ensures.free (view_project c.args.read.now.project) c.args.binder c.requires.placed c.requires.facts c.requires.old in
    let made = subst (λ (n : List ℕ). AreMade c.in_ok-found.found.set n 0 c.args.files.now.entries c.in_ok-sources.sources.items) c.as_bytes.ensures
    c.in_ok-sources.ensures.made in
    let small : position_with are_over c.in_ok-sources.sources.items ≡ None = sym (ap (position_with are_over) c.deref.ensures.value)
    ∙ (sym c.find_first_over.ensures ∙ c.in_default.is) in
    is_free (view_project c.args.read.now.project) c.args.binder c.args.watch.now c.requires.sound c.requires.foot c.requires.binds c.requires.old
    free c.in_ok-found.found.set
    (hits_of c.args.watch.now c.args.facts.now (view_project c.args.read.now.project) c.requires.facts c.in_ok-found.found.set
    c.in_ok-found.ensures.set)
    c.args.files.now.entries c.in_ok-sources.sources.items made small c.in_ok-judge_faults.ensures.passed

pub returns-in_err-judge_faults-clause-refused : goal.returns-in_err-judge_faults-clause-refused
returns-in_err-judge_faults-clause-refused c =
    let us = view_project c.args.read.now.project in
    let entries = c.args.files.now.entries in
    let watch = c.args.watch.now in
    let free = c.in_ok-found.ensures.free (view_project c.args.read.now.project) c.args.binder c.requires.placed c.requires.facts c.requires.old in
    let e = c.in_err-judge_faults.field-0.0 in
    let made = subst (λ (n : List ℕ). AreMade c.in_ok-found.found.set n 0 entries c.in_ok-sources.sources.items) c.as_bytes.ensures
    c.in_ok-sources.ensures.made in
    let small : position_with are_over c.in_ok-sources.sources.items ≡ None = sym (ap (position_with are_over) c.deref.ensures.value)
    ∙ (sym c.find_first_over.ensures ∙ c.in_default.is) in
    stopped c.from_residual-in_err-judge_faults.result e (IsRefusedFor (refusals_of_binder entries us c.args.binder watch.foot watch.new))
    c.from_residual-in_err-judge_faults.ensures
    (fault_refused us c.args.binder watch c.requires.sound c.requires.foot c.requires.binds c.requires.old free c.in_ok-found.found.set
    (hits_of c.args.watch.now c.args.facts.now (view_project c.args.read.now.project) c.requires.facts c.in_ok-found.found.set
    c.in_ok-found.ensures.set) entries c.in_ok-sources.sources.items made e small c.in_err-judge_faults.ensures.refused)
