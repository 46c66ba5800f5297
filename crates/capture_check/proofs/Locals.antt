-- The first fault by the tables of a footprint and of looks is the first fault of the renamed project.
use Rattle.std.proofs.Common.{◌≡◌, ℕ, Bool, ap, sym, ◌∙◌, subst, List, map, Option, if◌then◌else◌}
use Rattle.std.specs.List.{list_any}
use Rattle.std.specs.BTreeMap.{BTreeMap}
use Rattle.std.specs.BTreeSet.{BTreeSet, contains}
use Rattle.rotor_base.specs.declared.place.Place.{Place}
use Rattle.rotor_base.specs.declared.place.Goal.TheVariants.{Decl}
use Rattle.rotor_base.specs.declared.place.Link.{Link}
use Rattle.rotor_base.specs.declared.place.Ref.{Ref}
use Rattle.rotor_base.specs.declared.place.Facts.{Facts}
use Rattle.rotor_base.specs.declared.looks.Watch.{Watch}
use Rattle.rotor_base.specs.declared.looks.RefLook.{RefLook}
use Rattle.rotor_base.specs.declared.looks.LinkLook.{LinkLook}
use Rattle.rotor_base.specs.declared.looks.Looks.{Looks}
use Rattle.rotor_base.specs.Place.{same_place, place_cmp}
use Rattle.value_sites.specs.Sound.{IsSound}
use Rattle.ml_trees.specs.Tree.{UnitTree}
use Rattle.binding_model.specs.Facts.{facts}
use Rattle.binding_model.specs.Looks.{looks}
use Rattle.binding_model.specs.Local.{would_facts, IsWatched}
use Rattle.binding_model.specs.Renaming.{name_of}
use Rattle.capture_check.specs.declared.fault.Change.{Change}
use Rattle.capture_check.specs.declared.fault.Repeat.{Repeat}
use Rattle.capture_check.specs.declared.fault.Fault.{Fault}
use Rattle.capture_check.specs.Fault.{of_ref, of_link, IsFirstFault}
use Rattle.capture_check.specs.Firsts.{IsFirstChange, IsFirstRepeat, fault_of}
use Rattle.capture_check.specs.Local.{would_name, IsLocalFault}
use Rattle.capture_check.specs.Would.{ref_by, links_by, HasRefLooks, HasLinkLooks}
use Rattle.capture_check.proofs.Faults.{Agree, first_as, fault_is}
use Rattle.capture_check.proofs.Looking.{members_are, refs_are, links_are}
use Rattle.capture_check.proofs.Told.{looks_determine_faults}

-- the first fault of old facts and of new ones, under the new names
abbrev IsToldBy : List UnitTree → Watch → Facts → Facts → Option Fault → Type 0
IsToldBy us w old new o = IsFirstFault (would_name w us) old new o

module _ (us : List UnitTree) (w : Watch) (s : IsSound us) (k : IsWatched us w) where
  module _ (fs : Facts) (ls : Looks) (f : fs ≡ facts us) (l : ls ≡ looks w us) where
    module _ (members : BTreeSet Place) (m : (d : Place) → contains place_cmp members d ≡ list_any (same_place d) w.foot.decls) where
      -- the new facts are those that the looks give
      would_be : (ref_looks : BTreeMap Place RefLook) (link_looks : BTreeMap ℕ LinkLook) (refs : List Ref) (links : List Link)
          → HasRefLooks ls.refs ref_looks → HasLinkLooks ls.links link_looks
          → refs ≡ map (ref_by members ref_looks) fs.refs → links ≡ links_by members link_looks 0 fs.links
          → would_facts w ls fs ≡ record { refs = refs; links = links; groups = fs.groups }
      would_be ref_looks link_looks refs links h j e g =
          let have = members_are w members m in
          let r = e ∙ refs_are w members have ls.refs ref_looks h fs.refs in
          let q = g ∙ links_are w members have ls.links link_looks j 0 fs.links in
          let x : Facts = record { refs = refs; links = links; groups = fs.groups } in
          sym (ap (λ (rs : List Ref). record x { refs = rs }) r ∙ ap (λ (qs : List Link). record (would_facts w ls fs) { links = qs }) q)

      pub local_is : (ref_looks : BTreeMap Place RefLook) (link_looks : BTreeMap ℕ LinkLook) (refs : List Ref) (links : List Link)
          (names : Place → List ℕ)
          → (repeat : Option Repeat) (capture mislink : Option Change)
          → HasRefLooks ls.refs ref_looks → HasLinkLooks ls.links link_looks
          → refs ≡ map (ref_by members ref_looks) fs.refs → links ≡ links_by members link_looks 0 fs.links
          → ((d : Place) → names d ≡ (if contains place_cmp members d then w.new else name_of us d))
          → IsFirstRepeat names fs.groups repeat → IsFirstChange of_ref fs.refs refs capture → IsFirstChange of_link fs.links links mislink
          → IsLocalFault us w (fault_of repeat capture mislink)
      local_is ref_looks link_looks refs links names repeat capture mislink h j e g n a b c =
          let told = would_be ref_looks link_looks refs links h j e g in
          let agree : Agree names (would_name w us) fs.groups =
          λ g d i j. n d ∙ ap (λ (b : Bool). if b then w.new else name_of us d) (members_are w members m (Decl d)) in
          let now : Facts = record { refs = refs; links = links; groups = fs.groups } in
          let first = fault_is (would_name w us) fs now repeat capture mislink
          (first_as names (would_name w us) fs.groups agree repeat a) b c in
          let P : Facts → Type 0 = λ x. IsToldBy us w fs x (fault_of repeat capture mislink) in
          let Q : Facts → Type 0 = λ x. IsToldBy us w x (would_facts w ls x) (fault_of repeat capture mislink) in
          let R : Looks → Type 0 = λ x. IsToldBy us w (facts us) (would_facts w x (facts us)) (fault_of repeat capture mislink) in
          looks_determine_faults us w (fault_of repeat capture mislink) s k (subst R l (subst Q f (subst P (sym told) first)))
