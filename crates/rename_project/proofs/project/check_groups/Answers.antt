use Rattle.std.proofs.Common.{inl, subst, List, Option, Some, None, ◌∙◌}
use Rattle.rotor_base.specs.declared.place.Place.{Place}
use Rattle.value_sites.specs.Places.{Site}
use Rattle.value_places.specs.Placed.{name_in}
use Rattle.ml_trees.specs.View.{view_project}
use Rattle.binding_model.specs.Facts.{facts}
use Rattle.binding_model.specs.Renaming.{name_of}
use Rattle.capture_check.specs.declared.fault.Repeat.{Repeat}
use Rattle.capture_check.specs.Firsts.{IsFirstRepeat}
use Rattle.rename_project.proofs.Refusals.{duplicate_free}
use Rattle.rename_project.proofs.project.check_groups.Goals as goal

pub returns-in-None-clause-passed : goal.returns-in-None-clause-passed
returns-in-None-clause-passed c =
    let us = view_project c.args.project.now in
    let found : IsFirstRepeat (name_of us) c.as_slice.result.now c.in_ok-first_repeat.field-0 =
    subst (λ (ls : List (Place × Site)). IsFirstRepeat (name_in ls) c.as_slice.result.now c.in_ok-first_repeat.field-0) c.requires.placed
    c.in_ok-first_repeat.ensures in
    let G : List (List Place) → Type 0 = λ gs. IsFirstRepeat (name_of us) gs None in
    let O : Option Repeat → Type 0 = IsFirstRepeat (name_of us) c.as_slice.result.now in
    let none : IsFirstRepeat (name_of us) (facts us).groups None =
    subst G (c.as_slice.ensures ∙ c.in_ok-groups.ensures) (subst O c.in-None.is found) in
    λ met. duplicate_free us none met.0 met.1

pub returns-clause-refused : goal.returns-clause-refused
returns-clause-refused c =
    let us = view_project c.args.project.now in
    let found : IsFirstRepeat (name_of us) c.as_slice.result.now c.in_ok-first_repeat.field-0 =
    subst (λ (ls : List (Place × Site)). IsFirstRepeat (name_in ls) c.as_slice.result.now c.in_ok-first_repeat.field-0) c.requires.placed
    c.in_ok-first_repeat.ensures in
    let G : List (List Place) → Type 0 = λ gs. IsFirstRepeat (name_of us) gs (Some c.in-Some.repeat) in
    let O : Option Repeat → Type 0 = IsFirstRepeat (name_of us) c.as_slice.result.now in
    inl (subst G (c.as_slice.ensures ∙ c.in_ok-groups.ensures) (subst O c.in-Some.is found))
