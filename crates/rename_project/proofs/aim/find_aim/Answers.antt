use Rattle.std.proofs.Common.{inl, subst, List}
use Rattle.rotor_base.specs.declared.place.Place.{Place}
use Rattle.value_sites.specs.Places.{Site}
use Rattle.ml_trees.specs.View.{view_project}
use Rattle.binding_model.specs.Renaming.{IsBinder}
use Rattle.rename_model.proofs.One.{one_name}
use Rattle.rename_parts.specs.Binders.{IsMarkAt, IsMarkIn}
use Rattle.rename_project.proofs.aim.find_aim.Goals as goal

pub returns-in-None-clause-refused : goal.returns-in-None-clause-refused
returns-in-None-clause-refused c =
    let us = view_project c.args.read.now.project in
    let none : IsBinder us c.in-Some.place → ⊥ = subst (IsMarkAt us c.in-Some.place) c.in-None.is
    (subst (λ (ls : List (Place × Site)). IsMarkIn ls c.in-Some.place c.in_ok-mark.field-0) c.requires.placed c.in_ok-mark.ensures) in
    inl (λ d k. none (subst (IsBinder us) (one_name c.args.files.now us c.args.target.now d c.in-Some.place k.0 c.in-Some.ensures.found) k.1))
