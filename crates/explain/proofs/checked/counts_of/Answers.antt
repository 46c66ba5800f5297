use Rattle.std.proofs.Common.{◌≡◌, ℕ, ap, sym, ◌∙◌, List, length}
use Rattle.rotor_base.specs.declared.place.Place.{Place}
use Rattle.rotor_base.specs.declared.place.Facts.{Facts}
use Rattle.rotor_base.specs.declared.report.Counts.{Counts}
use Rattle.rotor_base.specs.declared.source.SourceFile.{SourceFile}
use Rattle.ml_trees.specs.View.{view_project, view_unit}
use Rattle.value_sites.specs.Places.{Site}
use Rattle.binding_model.specs.Facts.{facts}
use Rattle.binding_model.specs.Renaming.{places}
use Rattle.value_places.specs.Binders.{binding, binder_places}
use Rattle.rename_project.proofs.Cuts.{length_map}
use Rattle.explain.proofs.checked.counts_of.Goals as goal

five : (a b p d e f g h i j : ℕ) → a ≡ f → b ≡ g → p ≡ h → d ≡ i → e ≡ j
    → let x : Counts = record { files = a; units = b; declarations = p; references = d; links = e } in let y : Counts =
    record { files = f; units = g; declarations = h; references = i; links = j } in x ≡ y
five a b p d e f g h i j k l m n o = cc

pub returns : goal.returns
returns c =
    let us = view_project c.args.opened.now.read.project in
    let fs = c.requires.facts in (
      us,
      record { reads = c.requires.reads; none = c.requires.passed },
      five (length c.entries.result.now) (length c.as_slice.result.now) (length c.binders.result.now) (length c.as_slice-2.result.now)
          (length c.as_slice-3.result.now)
          (length c.args.files.now.entries) (length us) (length (binding (places us))) (length (facts us).refs) (length (facts us).links)
          (ap (λ (l : List SourceFile). length l) c.entries.ensures.entries)
          (ap (λ (l : List _). length l) c.as_slice.ensures.value ∙ sym (length_map view_unit c.args.opened.now.read.project.units.items))
          (ap (λ (l : List Place). length l) (c.binders.ensures ∙ ap binder_places c.in_ok-placed.ensures)
          ∙ length_map (λ (e : Place × Site). e.0) (binding (places us)))
          (ap (λ (l : List _). length l) (c.as_slice-2.ensures ∙ ap (λ (f : Facts). f.refs) fs))
          (ap (λ (l : List _). length l) (c.as_slice-3.ensures ∙ ap (λ (f : Facts). f.links) fs)),
    )
