use Rattle.std.proofs.Common.{sym, subst, List}
use Rattle.rotor_base.specs.declared.place.Place.{Place}
use Rattle.rotor_base.specs.declared.place.Ref.{Ref}
use Rattle.rotor_base.specs.declared.place.Link.{Link}
use Rattle.value_sites.specs.Places.{Site}
use Rattle.value_places.specs.Placed.{name_in}
use Rattle.ml_trees.specs.View.{view_project}
use Rattle.binding_model.specs.Renaming.{name_of}
use Rattle.capture_check.specs.Fault.{of_ref, of_link, IsFirstFault}
use Rattle.capture_check.specs.Firsts.{IsFirstRepeat, IsFirstChange}
use Rattle.capture_check.proofs.Faults.{fault_is}
use Rattle.capture_check.proofs.first.first_fault.Goals as goal

pub returns : goal.returns
returns c =
    let us = view_project c.args.project.now in
    let U : List (Place × Site) → Type 0 = λ ps. IsFirstRepeat (name_in ps) c.as_slice.result.now c.in_ok-repeat.repeat in
    let F : List (List Place) → Type 0 = λ gs. IsFirstRepeat (name_of us) gs c.in_ok-repeat.repeat in
    let repeat : IsFirstRepeat (name_of us) c.args.new.now.groups c.in_ok-repeat.repeat =
    subst F c.as_slice.ensures (subst U c.in_ok-placed.ensures c.in_ok-repeat.ensures) in
    let R : List Ref → Type 0 = λ rs. IsFirstChange of_ref rs c.as_slice-3.result.now c.first_capture-capture.result in
    let S : List Ref → Type 0 = λ rs. IsFirstChange of_ref c.args.old.now.refs rs c.first_capture-capture.result in
    let capture = subst S c.as_slice-3.ensures (subst R c.as_slice-2.ensures c.first_capture-capture.ensures) in
    let L : List Link → Type 0 = λ ls. IsFirstChange of_link ls c.as_slice-5.result.now c.first_mislink-mislink.result in
    let M : List Link → Type 0 = λ ls. IsFirstChange of_link c.args.old.now.links ls c.first_mislink-mislink.result in
    let mislink = subst M c.as_slice-5.ensures (subst L c.as_slice-4.ensures c.first_mislink-mislink.ensures) in
    subst (IsFirstFault (name_of us) c.args.old.now c.args.new.now) (sym c.fault_of.ensures)
    (fault_is (name_of us) c.args.old.now c.args.new.now c.in_ok-repeat.repeat c.first_capture-capture.result c.first_mislink-mislink.result
    repeat capture mislink)
