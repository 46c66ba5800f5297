use Rattle.std.proofs.Common.{◌≡◌, ℕ, ap, sym, subst, ◌∙◌, List, map, if◌then◌else◌}
use Rattle.std.specs.List.{list_any}
use Rattle.std.specs.BTreeSet.{contains}
use Rattle.rotor_base.specs.declared.place.Place.{Place}
use Rattle.rotor_base.specs.declared.place.Link.{Link}
use Rattle.rotor_base.specs.declared.place.Ref.{Ref}
use Rattle.rotor_base.specs.declared.looks.RefLook.{RefLook}
use Rattle.rotor_base.specs.declared.looks.LinkLook.{LinkLook}
use Rattle.rotor_base.specs.Place.{same_place, place_cmp}
use Rattle.value_sites.specs.Places.{Site}
use Rattle.value_places.specs.Placed.{name_in}
use Rattle.capture_check.specs.Fault.{of_ref, of_link}
use Rattle.capture_check.specs.Firsts.{IsFirstChange, IsFirstRepeat}
use Rattle.capture_check.specs.Local.{IsLocalFault}
use Rattle.capture_check.specs.Would.{ref_by, links_by, HasRefLooks, HasLinkLooks}
use Rattle.capture_check.proofs.Locals.{local_is}
use Rattle.capture_check.proofs.local.local_fault_of.Goals as goal

pub returns : goal.returns
returns c = λ us at sound is ls watched.
    let w = c.args.watch.now in
    let members = c.in_ok-members.members in
    let D : List Place → Type 0 = λ ds. (d : Place) → contains place_cmp members d ≡ list_any (same_place d) ds in
    let m = subst D c.as_slice.ensures c.in_ok-members.ensures in
    let H : List RefLook → Type 0 = λ ls. HasRefLooks ls c.in_ok-ref_looks.ref_looks in
    let J : List LinkLook → Type 0 = λ ls. HasLinkLooks ls c.in_ok-link_looks.link_looks in
    let E : List Ref → Type 0 = λ rs. c.in_ok-refs.refs.items ≡ map (ref_by members c.in_ok-ref_looks.ref_looks) rs in
    let G : List Link → Type 0 = λ ls. c.in_ok-links.links.items ≡ links_by members c.in_ok-link_looks.link_looks 0 ls in
    let names : Place → List ℕ = λ d. if contains place_cmp members d then c.as_bytes.result.now else name_in c.args.placed.now d in
    let A : List (List Place) → Type 0 = λ gs. IsFirstRepeat names gs c.in_ok-repeat.repeat in
    let B : List Ref → Type 0 = λ rs. IsFirstChange of_ref rs c.deref.result.now c.first_capture-capture.result in
    let BB : List Ref → Type 0 = λ rs. IsFirstChange of_ref c.args.facts.now.refs rs c.first_capture-capture.result in
    let C : List Link → Type 0 = λ ls. IsFirstChange of_link ls c.deref-2.result.now c.first_mislink-mislink.result in
    let CC : List Link → Type 0 = λ ls. IsFirstChange of_link c.args.facts.now.links ls c.first_mislink-mislink.result in
    subst (IsLocalFault us w) (sym c.fault_of.ensures)
    (local_is us w sound watched c.args.facts.now c.args.looks.now is ls members m
    c.in_ok-ref_looks.ref_looks c.in_ok-link_looks.link_looks c.in_ok-refs.refs.items c.in_ok-links.links.items names
    c.in_ok-repeat.repeat c.first_capture-capture.result c.first_mislink-mislink.result
    (subst H c.as_slice-2.ensures c.in_ok-ref_looks.ensures)
    (subst J c.as_slice-4.ensures c.in_ok-link_looks.ensures)
    (subst E c.as_slice-3.ensures c.in_ok-refs.ensures)
    (subst G c.as_slice-5.ensures c.in_ok-links.ensures)
    (λ d. ap (λ (x : List ℕ). if contains place_cmp members d then x else name_in c.args.placed.now d) c.as_bytes.ensures
    ∙ ap (λ (ps : List (Place × Site)). if contains place_cmp members d then w.new else name_in ps d) at)
    (subst A c.as_slice-6.ensures c.in_ok-repeat.ensures)
    (subst BB c.deref.ensures.value (subst B c.as_slice-7.ensures c.first_capture-capture.ensures))
    (subst CC c.deref-2.ensures.value (subst C c.as_slice-8.ensures c.first_mislink-mislink.ensures)))
