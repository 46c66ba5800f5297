use Rattle.std.proofs.Common.{◌≡◌, inl, None, Some, Option, List, ap, sym, subst, ◌∙◌}
use Rattle.rotor_base.specs.declared.place.Place.{Place}
use Rattle.rotor_base.specs.declared.place.Link.{Link}
use Rattle.rotor_base.specs.declared.place.Facts.{Facts}
use Rattle.value_sites.specs.Places.{Site}
use Rattle.value_places.specs.Placed.{name_in}
use Rattle.binding_model.specs.Facts.{facts, least, unmatched_items}
use Rattle.binding_model.specs.Renaming.{name_of}
use Rattle.capture_check.specs.declared.fault.Repeat.{Repeat}
use Rattle.capture_check.specs.Firsts.{IsFirstRepeat}
use Rattle.rename_survey.proofs.Bad.{none_bad, unmatched_bad}
use Rattle.rename_survey.proofs.calls.find_first_bad.Goals as goal

pub returns-in-None : goal.returns-in-None
returns-in-None c = λ us at is.
    let G : List (List Place) → Type 0 = λ gs. IsFirstRepeat (name_of us) gs None in
    let O : Option Repeat → Type 0 = IsFirstRepeat (name_of us) c.as_slice.result.now in
    let P : List (Place × Site) → Type 0 = λ ls. IsFirstRepeat (name_in ls) c.as_slice.result.now c.in_ok-repeat.field-0 in
    let none : IsFirstRepeat (name_of us) (facts us).groups None = subst G (c.as_slice.ensures ∙ ap (λ (f : Facts). f.groups) is)
    (subst O c.in_default.is (subst P at c.in_ok-repeat.ensures)) in
    let links : c.as_slice-2.result.now ≡ (facts us).links = c.as_slice-2.ensures ∙ ap (λ (f : Facts). f.links) is in
    none_bad us none (ap (λ (l : List Link). least (unmatched_items l)) (sym links) ∙ (sym c.find_least_unmatched.ensures ∙ c.in-None.is))

pub returns-in-Some-find_least_unmatched : goal.returns-in-Some-find_least_unmatched
returns-in-Some-find_least_unmatched c = λ us at is.
    let G : List (List Place) → Type 0 = λ gs. IsFirstRepeat (name_of us) gs None in
    let O : Option Repeat → Type 0 = IsFirstRepeat (name_of us) c.as_slice.result.now in
    let P : List (Place × Site) → Type 0 = λ ls. IsFirstRepeat (name_in ls) c.as_slice.result.now c.in_ok-repeat.field-0 in
    let none : IsFirstRepeat (name_of us) (facts us).groups None = subst G (c.as_slice.ensures ∙ ap (λ (f : Facts). f.groups) is)
    (subst O c.in_default.is (subst P at c.in_ok-repeat.ensures)) in
    let links : c.as_slice-2.result.now ≡ (facts us).links = c.as_slice-2.ensures ∙ ap (λ (f : Facts). f.links) is in
    unmatched_bad us c.in-Some-find_least_unmatched.item none
    (ap (λ (l : List Link). least (unmatched_items l)) (sym links) ∙ (sym c.find_least_unmatched.ensures ∙ c.in-Some-find_least_unmatched.is))

pub returns-in-Some : goal.returns-in-Some
returns-in-Some c = λ us at is.
    let G : List (List Place) → Type 0 = λ gs. IsFirstRepeat (name_of us) gs (Some c.in-Some.repeat) in
    let O : Option Repeat → Type 0 = IsFirstRepeat (name_of us) c.as_slice.result.now in
    let P : List (Place × Site) → Type 0 = λ ls. IsFirstRepeat (name_in ls) c.as_slice.result.now c.in_ok-repeat.field-0 in
    inl (subst G (c.as_slice.ensures ∙ ap (λ (f : Facts). f.groups) is) (subst O c.in-Some.is (subst P at c.in_ok-repeat.ensures)))
