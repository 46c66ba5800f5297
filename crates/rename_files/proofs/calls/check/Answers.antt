use Rattle.std.proofs.Common.{◌≡◌, ℕ, inr, refl, ap, sym, ◌∙◌, List, length}
use Rattle.rotor_base.specs.declared.place.Place.{Place}
use Rattle.rotor_base.specs.declared.place.Facts.{Facts}
use Rattle.rotor_base.specs.declared.refusal.Refusal.TheVariants as refusal
use Rattle.rotor_base.specs.declared.report.Counts.{Counts}
use Rattle.rotor_base.specs.declared.source.SourceFile.{SourceFile}
use Rattle.ml_trees.specs.View.{view_project, view_unit}
use Rattle.value_sites.specs.Places.{Site}
use Rattle.binding_model.specs.Facts.{facts}
use Rattle.binding_model.specs.Renaming.{places}
use Rattle.value_places.specs.Binders.{binding, binder_places}
use Rattle.rename_files.specs.Answer.{Rejects}
use Rattle.rename_project.specs.Steps.{IsRefusedFor}
use Rattle.rename_project.proofs.Cuts.{length_map}
use Rattle.rename_project.proofs.Refusals.{stopped}
use Rattle.rename_files.proofs.Refusals.{rejects}
use Rattle.rename_files.proofs.calls.check.Goals as goal

five : (a b p d e f g h i j : ℕ) → a ≡ f → b ≡ g → p ≡ h → d ≡ i → e ≡ j
    → let x : Counts = record { files = a; units = b; declarations = p; references = d; links = e } in let y : Counts =
    record { files = f; units = g; declarations = h; references = i; links = j } in x ≡ y
five a b p d e f g h i j k l m n o = cc

pub returns-in_err-resolved-clause-refused : goal.returns-in_err-resolved-clause-refused
returns-in_err-resolved-clause-refused c =
    stopped c.from_residual-in_err-resolved.result c.in_err-resolved.field-0.0 (IsRefusedFor (Rejects c.args.files.now))
    c.from_residual-in_err-resolved.ensures
    (rejects c.args.files.now (view_project c.in_ok-read.read.project) c.in_err-resolved.field-0.0 c.in_ok-read.ensures.project
    c.in_err-resolved.ensures.refused)

pub returns-in_err-placed-clause-refused : goal.returns-in_err-placed-clause-refused
returns-in_err-placed-clause-refused c =
    stopped c.from_residual-in_err-placed.result refusal.Memory (IsRefusedFor (Rejects c.args.files.now)) c.from_residual-in_err-placed.ensures
    (inr refl)

pub returns-clause-counted : goal.returns-clause-counted
returns-clause-counted c =
    let us = view_project c.in_ok-read.read.project in
    let fs = c.in_ok-resolved.ensures.facts in (
      us,
      record { reads = c.in_ok-read.ensures.project; none = c.in_ok-resolved.ensures.passed },
      five (length c.entries.result.now) (length c.as_slice.result.now) (length c.binders.result.now) (length c.as_slice-2.result.now)
          (length c.as_slice-3.result.now)
          (length c.args.files.now.entries) (length us) (length (binding (places us))) (length (facts us).refs) (length (facts us).links)
          (ap (λ (l : List SourceFile). length l) c.entries.ensures.entries)
          (ap (λ (l : List _). length l) c.as_slice.ensures.value ∙ sym (length_map view_unit c.in_ok-read.read.project.units.items))
          (ap (λ (l : List Place). length l) (c.binders.ensures ∙ ap binder_places c.in_ok-placed.ensures)
          ∙ length_map (λ (e : Place × Site). e.0) (binding (places us)))
          (ap (λ (l : List _). length l) (c.as_slice-2.ensures ∙ ap (λ (f : Facts). f.refs) fs))
          (ap (λ (l : List _). length l) (c.as_slice-3.ensures ∙ ap (λ (f : Facts). f.links) fs)),
    )
