-- Tables of a footprint and of looks, entry by entry; and what they give is Would.
use Rattle.std.proofs.Common.{◌≡◌, ℕ, suc, ◌+◌, ◌||◌, Bool, true, false, cond, refl, ap, sym, ◌∙◌, List, [], ◌∷◌, map, drop, Option, Some, None}
use Rattle.std.specs.List.{list_any}
use Rattle.std.specs.BTreeMap.{BTreeMap, is_at}
use Rattle.std.specs.BTreeSet.{BTreeSet, contains}
use Rattle.rotor_base.specs.declared.place.Place.{Place}
use Rattle.rotor_base.specs.declared.place.Goal.{Goal}
use Rattle.rotor_base.specs.declared.place.Goal.TheVariants.{Decl, Outside, Missing, Hidden, Blur}
use Rattle.rotor_base.specs.declared.place.Link.{Link}
use Rattle.rotor_base.specs.declared.place.Ref.{Ref}
use Rattle.rotor_base.specs.declared.looks.Watch.{Watch}
use Rattle.rotor_base.specs.declared.looks.RefLook.{RefLook}
use Rattle.rotor_base.specs.declared.looks.LinkLook.{LinkLook}
use Rattle.rotor_base.specs.Place.{same_place, place_cmp}
use Rattle.shape_core.specs.Looks.{is_member}
use Rattle.binding_model.specs.Steps.{a_ref}
use Rattle.binding_model.specs.Local.{ref_look_at, link_look_at, would_goal, would_come, would_be, would_links}
use Rattle.binding_model.proofs.Standing.{same_swap}
use Rattle.capture_check.proofs.PlaceTests.{tests_same}
use Rattle.capture_check.specs.Would.{goal_if, source_if, goal_by, source_by, ref_by, links_by, is_in, HasRefLooks, HasLinkLooks}

-- one more member
or_moved : (a b c : Bool) → (cond a true b || c) ≡ (b || (a || c))
or_moved true true c = refl
or_moved true false c = refl
or_moved false true c = refl
or_moved false false c = refl

member_more : (p d : Place) (ps : List Place) (old new : Bool) → new ≡ cond (is_at (place_cmp p) d) true old
    → (new || list_any (same_place d) ps) ≡ (old || list_any (same_place d) (p ∷ ps))
member_more p d ps old new e =
    ap (λ (b : Bool). b || list_any (same_place d) ps) (e ∙ ap (λ (b : Bool). cond b true old) (tests_same p d ∙ same_swap p d))
    ∙ or_moved (same_place d p) old (list_any (same_place d) ps)

pub members_more : (ps : List Place) (i : ℕ) (p : Place) (old new : BTreeSet Place) → drop i ps ≡ p ∷ drop (i + 1) ps
    → ((q : Place) → contains place_cmp new q ≡ cond (is_at (place_cmp p) q) true (contains place_cmp old q))
    → ((d : Place) → (contains place_cmp old d || list_any (same_place d) (drop i ps)) ≡ list_any (same_place d) ps)
    → (d : Place) → (contains place_cmp new d || list_any (same_place d) (drop (i + 1) ps)) ≡ list_any (same_place d) ps
members_more ps i p old new more put h d =
    member_more p d (drop (i + 1) ps) (contains place_cmp old d) (contains place_cmp new d) (put d)
    ∙ (sym (ap (λ (qs : List Place). contains place_cmp old d || list_any (same_place d) qs) more) ∙ h d)

-- the set has the members of a footprint, and no more
abbrev pub HasMembers : Watch → BTreeSet Place → Type 0
HasMembers w members = (g : Goal) → is_in members g ≡ is_member w g

-- a set of the declarations has the members
pub members_are : (w : Watch) (members : BTreeSet Place) → ((d : Place) → contains place_cmp members d ≡ list_any (same_place d) w.foot.decls)
    → HasMembers w members
members_are w members h (Decl d) = h d
members_are w members h Outside = refl
members_are w members h Missing = refl
members_are w members h Hidden = refl
members_are w members h (Blur by n behind) = refl

-- what is given by the tables is Would
module _ (w : Watch) (members : BTreeSet Place) (m : HasMembers w members) where
  goal_is : (o : Option RefLook) (g : Goal) → goal_by members o g ≡ would_goal w o g
  goal_is None g = refl
  goal_is (Some l) g = ap (λ (b : Bool). goal_if b l) (m l.goal)

  source_is : (o : Option LinkLook) (g : Goal) → source_by members o g ≡ would_come w o g
  source_is None g = refl
  source_is (Some l) g = ap (λ (b : Bool). source_if b l) (m (Decl l.item))

  pub refs_are : (ls : List RefLook) (looks : BTreeMap Place RefLook) → HasRefLooks ls looks → (rs : List Ref)
      → map (ref_by members looks) rs ≡ map (would_be w ls) rs
  refs_are ls looks h [] = refl
  refs_are ls looks h (r ∷ rs) =
      let goal = ap (λ (o : Option RefLook). goal_by members o r.goal) (h r.at) ∙ goal_is (ref_look_at ls r.at) r.goal in
      ap (λ (g : Goal). a_ref r.at g ∷ map (ref_by members looks) rs) goal ∙ ap (λ (qs : List Ref). would_be w ls r ∷ qs) (refs_are ls looks h rs)

  pub links_are : (ls : List LinkLook) (looks : BTreeMap ℕ LinkLook) → HasLinkLooks ls looks → (n : ℕ) (links : List Link)
      → links_by members looks n links ≡ would_links w ls n links
  links_are ls looks h n [] = refl
  links_are ls looks h n (l ∷ links) =
      let source = ap (λ (o : Option LinkLook). source_by members o l.source) (h n) ∙ source_is (link_look_at ls n) l.source in
      let made : Goal → Link = λ g. record { item = l.item; source = g } in
      ap (λ (g : Goal). made g ∷ links_by members looks (suc n) links) source
      ∙ ap (λ (ks : List Link). made (would_come w (link_look_at ls n) l.source) ∷ ks) (links_are ls looks h (suc n) links)
