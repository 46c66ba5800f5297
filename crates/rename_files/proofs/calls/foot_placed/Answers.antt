use Rattle.std.proofs.Common.{◌≡◌, ℕ, inr, refl, ap, subst, ◌∙◌, List, length, Err}
use Rattle.rotor_base.specs.declared.place.Facts.{Facts}
use Rattle.rotor_base.specs.declared.place.Foot.{Foot}
use Rattle.rotor_base.specs.declared.place.Place.{Place}
use Rattle.rotor_base.specs.declared.place.Ref.{Ref}
use Rattle.rotor_base.specs.declared.refusal.Refusal.TheVariants as refusal
use Rattle.rotor_base.specs.declared.report.FootReport.{FootReport}
use Rattle.ml_trees.specs.View.{view_project}
use Rattle.dependency_kernel.specs.Foot.{IsFoot}
use Rattle.binding_model.specs.Facts.{facts}
use Rattle.rename_model.specs.Foot.{refs_to}
use Rattle.shape_core.specs.Places.{HasPlaces}
use Rattle.rename_files.specs.Answer.{Shows}
use Rattle.rename_project.specs.Steps.{IsRefusedFor}
use Rattle.rename_project.proofs.Refusals.{stopped}
use Rattle.rename_files.proofs.Refusals.{no_target_shown}
use Rattle.rename_project.proofs.Aimed.{mark_name}
use Rattle.rename_files.proofs.calls.foot_placed.Goals as goal

three : (a b : List ℕ) (f : Foot) (m n : ℕ) → a ≡ b → m ≡ n → let x : FootReport = record { old = a; foot = f; refs = m } in let y : FootReport =
    record { old = b; foot = f; refs = n } in x ≡ y
three a b f m n h k = cc

pub returns-in_err-aim-clause-refused : goal.returns-in_err-aim-clause-refused
returns-in_err-aim-clause-refused c =
    let files = c.args.files.now in
    let e = c.in_err-aim.field-0.0 in
    stopped c.from_residual.result e (IsRefusedFor (λ why. Shows files c.args.target.now (Err why))) c.from_residual.ensures
    (no_target_shown files (view_project c.args.read.now.project) c.args.target.now e c.requires.reads c.requires.passed
    c.in_err-aim.ensures.refused)

pub returns-in_err-foot-clause-refused : goal.returns-in_err-foot-clause-refused
returns-in_err-foot-clause-refused c =
    stopped c.from_residual-in_err-foot.result refusal.Memory (IsRefusedFor (λ why. Shows c.args.files.now c.args.target.now (Err why)))
    c.from_residual-in_err-foot.ensures (inr refl)

pub returns-in_err-members-clause-refused : goal.returns-in_err-members-clause-refused
returns-in_err-members-clause-refused c =
    stopped c.from_residual-in_err-members.result refusal.Memory (IsRefusedFor (λ why. Shows c.args.files.now c.args.target.now (Err why)))
    c.from_residual-in_err-members.ensures (inr refl)

pub returns-clause-shown : goal.returns-clause-shown
returns-clause-shown c =
    let us = view_project c.args.read.now.project in
    let d = c.in_ok-aim.aim.place in
    let foot = c.in_ok-foot.foot in
    let fs = c.requires.facts in
    let members : HasPlaces foot.decls c.in_ok-members.members =
    subst (λ (ps : List Place). HasPlaces ps c.in_ok-members.members) c.as_slice.ensures c.in_ok-members.ensures in
    let refs : c.as_slice-2.result.now ≡ (facts us).refs = c.as_slice-2.ensures ∙ ap (λ (f : Facts). f.refs) fs in
    record {
      project = us;
      binder = d;
      foot = foot;
      accepts = record { reads = c.requires.reads; none = c.requires.passed };
      aims = c.in_ok-aim.ensures.aims;
      is_foot = subst (λ (f : Facts). IsFoot f.links d foot) fs c.in_ok-foot.ensures.foot;
      report =
          three c.in_ok-aim.aim.mark.name _ foot c.count_refs-refs.result (length (refs_to foot (facts us).refs))
          (mark_name us d c.in_ok-aim.aim.mark c.in_ok-aim.ensures.mark)
          (c.count_refs-refs.ensures foot members ∙ ap (λ (rs : List Ref). length (refs_to foot rs)) refs);
    }
