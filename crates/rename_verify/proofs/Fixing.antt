-- What the scan of the facts fixes is what may not take another name.
use Rattle.std.proofs.Common.{◌≡◌, ◌⊎◌, ◌||◌, inl, inr, List, [], ◌∷◌, Bool, true, false, Option, Some, None, map, filter, flat_map, Contains, refl}
use Rattle.std.proofs.Common.{ap, sym, subst, ◌∙◌}
use Rattle.std.specs.BTreeSet.{BTreeSet, contains}
use Rattle.std.proofs.lemmas.List.Elements.{Contains-append_left, Contains-append_right, Contains-append_cases}
use Rattle.rotor_base.specs.Place.{place_cmp}
use Rattle.rotor_base.specs.declared.place.Facts.{Facts}
use Rattle.rotor_base.specs.declared.place.Goal.{Goal}
use Rattle.rotor_base.specs.declared.place.Goal.TheVariants.{Decl, Outside, Missing, Hidden, Blur}
use Rattle.rotor_base.specs.declared.place.Link.{Link}
use Rattle.rotor_base.specs.declared.place.Place.{Place}
use Rattle.rotor_base.specs.declared.place.Ref.{Ref}
use Rattle.value_sites.specs.Places.{Site}
use Rattle.value_sites.specs.Sound.{IsSound}
use Rattle.ml_trees.specs.Tree.{UnitTree}
use Rattle.binding_model.specs.Facts.{facts}
use Rattle.binding_model.specs.Renaming.{places, at_place, HasBehind, IsBlur, IsFixedSite, IsFree}
use Rattle.binding_model.proofs.Sounds.{found_all}
use Rattle.binding_model.proofs.Telltale.{apart_of}
use Rattle.rename_parts.specs.declared.checks.Hit.{Hit}
use Rattle.rename_parts.specs.Hits.{all_hits}
use Rattle.rename_parts.specs.Leasts.{IsLeastOrNone}
use Rattle.shape_core.specs.Places.{HasPlaces}
use Rattle.rename_parts.proofs.Found.{set_has, has_set, hits_down, hits_up}
use Rattle.rename_parts.proofs.Having.{Has, has_as, has_mapped, has_unmapped, has_filtered, has_unfiltered, has_contained, contained_has, has_each}
use Rattle.rename_verify.specs.Changed.{Changed}
use Rattle.rename_verify.specs.Fixed.{behind, fixed_by, fixed_by_link, fixed_by_ref, fixed_by_use, joined, HasFixedUses, IsHeld, IsLeastHeld}
use Rattle.rename_verify.proofs.Alone.{first_in, more_in, none_in, split_in}

-- ---- lists of lists

pub in_some : {A B : Type 0} (f : A → List B) (xs : List A) (z : B) → Contains (flat_map f xs) z → (x : A) × Contains xs x × Contains (f x) z
in_some f [] z c = absurd (none_in z c)
in_some f (x ∷ xs) z c = elim (Contains-append_cases (f x) (flat_map f xs) z c) [
  | inl a ↦ (x, first_in x xs, a)
  | inr b ↦ (let k = in_some f xs z b in (k.0, more_in x xs k.0 k.1, k.2))
]

pub in_all : {A B : Type 0} (f : A → List B) (xs : List A) (x : A) (z : B) → Contains xs x → Contains (f x) z → Contains (flat_map f xs) z
in_all f [] x z c h = absurd (none_in x c)
in_all f (y ∷ ys) x z c h = elim (split_in y ys x c) [
  | inl e ↦ Contains-append_left (f y) (flat_map f ys) z (subst (λ w. Contains (f w) z) (sym e) h)
  | inr k ↦ Contains-append_right (f y) (flat_map f ys) z (in_all f ys x z k h)
]

only_in : {A : Type 0} (x z : A) → Contains (x ∷ []) z → x ≡ z
only_in x z c = elim (split_in x [] z c) [ inl e ↦ e | inr k ↦ absurd (none_in z k) ]

here_in : {A : Type 0} (x z : A) → x ≡ z → Contains (x ∷ []) z
here_in x z e = subst (Contains (x ∷ [])) e (first_in x [])

-- ---- the places of uses that are operators or puns

abbrev is_fixed : Hit → Bool
is_fixed h = h.operator || h.pun

fixed_site : (o : Option Site) → IsFixedSite o → (x : Site) × (o ≡ Some x) × (x.operator || x.pun ≡ true)
fixed_site None h = absurd h
fixed_site (Some x) h = (x, refl, h)

module _ (ls : List (Place × Site)) (refs : List Ref) (ps : List Place) (uses : BTreeSet Place) (marks : List Hit) (fixed : List Place)
    (ps_are : ps ≡ map (λ r. r.at) refs) (marks_are : marks ≡ all_hits ps ls)
    (fixed_are : fixed ≡ map (λ h. h.place) (filter is_fixed marks)) (uses_has : HasPlaces fixed uses) where
  At : Place → Hit → Type 0
  At p h = (h.place ≡ p) × (is_fixed h ≡ true)

  down : (p : Place) → contains place_cmp uses p ≡ true → IsFixedSite (at_place ls p)
  unfolding At
  down p e =
      let listed : Contains (map (λ (h : Hit). h.place) (filter is_fixed marks)) p = subst (λ l. Contains l p) fixed_are
      (set_has fixed uses p uses_has e) in
      let hit : Has (λ (h : Hit). h.place ≡ p) (filter is_fixed marks) =
      has_unmapped (λ (h : Hit). h.place) (λ q. q ≡ p) (filter is_fixed marks)
      (has_contained (λ q. q ≡ p) (map (λ (h : Hit). h.place) (filter is_fixed marks)) p listed refl) in
      let among : Has (At p) (all_hits ps ls) = subst (Has (At p)) marks_are (has_unfiltered is_fixed (λ (h : Hit). h.place ≡ p) marks hit) in
      let k = hits_down (At p) ls ps among in
      subst (λ q. IsFixedSite (at_place ls q)) k.4.0 (subst IsFixedSite (sym k.3) k.4.1)

  up : (r : Ref) → Contains refs r → IsFixedSite (at_place ls r.at) → contains place_cmp uses r.at ≡ true
  unfolding At
  up r c h =
      let x = fixed_site (at_place ls r.at) h in
      let place : Has (λ q. q ≡ r.at) ps = subst (Has (λ q. q ≡ r.at)) (sym ps_are)
      (has_mapped (λ (s : Ref). s.at) (λ q. q ≡ r.at) refs (has_contained (λ (s : Ref). s.at ≡ r.at) refs r c refl)) in
      let among : Has (At r.at) marks = subst (Has (At r.at)) (sym marks_are) (hits_up (At r.at) ls ps r.at x.0 place x.1 (refl, x.2)) in
      let hit : Has (λ (h : Hit). h.place ≡ r.at) (filter is_fixed marks) = has_filtered is_fixed (λ (h : Hit). h.place ≡ r.at) marks among in
      let m = contained_has (λ q. q ≡ r.at) (map (λ (h : Hit). h.place) (filter is_fixed marks))
      (has_mapped (λ (h : Hit). h.place) (λ q. q ≡ r.at) (filter is_fixed marks) hit) in
      has_set fixed uses r.at uses_has
      (subst (λ l. Contains l r.at) (sym fixed_are) (subst (Contains (map (λ (h : Hit). h.place) (filter is_fixed marks))) m.2 m.1))

  pub has_fixed_uses : HasFixedUses ls refs uses
  has_fixed_uses r c = (down r.at, up r c)

-- ---- what references and links fix

behind_down : (g : Goal) (d : Place) → Contains (behind g) d → HasBehind d g
behind_down (Blur by n (Some e)) d c = only_in e d c
behind_down (Blur by n None) d c = absurd (none_in d c)
behind_down (Decl e) d c = absurd (none_in d c)
behind_down Outside d c = absurd (none_in d c)
behind_down Missing d c = absurd (none_in d c)
behind_down Hidden d c = absurd (none_in d c)

behind_up : (g : Goal) (d : Place) → HasBehind d g → Contains (behind g) d
behind_up (Blur by n (Some e)) d h = here_in e d h
behind_up (Blur by n None) d h = absurd h
behind_up (Decl e) d h = absurd h
behind_up Outside d h = absurd h
behind_up Missing d h = absurd h
behind_up Hidden d h = absurd h

use_down : (b : Bool) (g : Goal) (d : Place) → Contains (fixed_by_use b g) d → ((g ≡ Decl d) × (b ≡ true)) ⊎ HasBehind d g
use_down true (Decl e) d c = inl (ap (λ (p : Place). Decl p) (only_in e d c), refl)
use_down false (Decl e) d c = absurd (none_in d c)
use_down b (Blur by n o) d c = inr (behind_down (Blur by n o) d c)
use_down b Outside d c = absurd (none_in d c)
use_down b Missing d c = absurd (none_in d c)
use_down b Hidden d c = absurd (none_in d c)

use_decl : (b : Bool) (g : Goal) (d : Place) → g ≡ Decl d → b ≡ true → Contains (fixed_by_use b g) d
use_decl b g d e t = subst (λ (h : Goal). Contains (fixed_by_use b h) d) (sym e)
    (subst (λ (v : Bool). Contains (fixed_by_use v (Decl d)) d) (sym t) (first_in d []))

use_behind : (b : Bool) (g : Goal) (d : Place) → HasBehind d g → Contains (fixed_by_use b g) d
use_behind b (Blur by n o) d h = behind_up (Blur by n o) d h
use_behind b (Decl e) d h = absurd h
use_behind b Outside d h = absurd h
use_behind b Missing d h = absurd h
use_behind b Hidden d h = absurd h

-- what joins a binder with the outside, or is the item of a Blur
abbrev Joins : Place → Goal → Goal → Type 0
Joins d i s = (((i ≡ Decl d) × (s ≡ Outside)) ⊎ ((i ≡ Outside) × (s ≡ Decl d))) ⊎ ((i ≡ Decl d) × IsBlur s)

decl_in : (e d : Place) → Contains (e ∷ []) d → ◌≡◌ {A = Goal} (Decl e) (Decl d)
decl_in e d c = ap (λ (p : Place). Decl p) (only_in e d c)

join_down : (i s : Goal) (d : Place) → Contains (joined i s) d → Joins d i s
join_down (Decl e) Outside d c = inl (inl (decl_in e d c, refl))
join_down (Decl e) (Blur by n o) d c = inr (decl_in e d c, tt)
join_down (Decl e) (Decl f) d c = absurd (none_in d c)
join_down (Decl e) Missing d c = absurd (none_in d c)
join_down (Decl e) Hidden d c = absurd (none_in d c)
join_down Outside (Decl e) d c = inl (inr (refl, decl_in e d c))
join_down Outside Outside d c = absurd (none_in d c)
join_down Outside Missing d c = absurd (none_in d c)
join_down Outside Hidden d c = absurd (none_in d c)
join_down Outside (Blur by n o) d c = absurd (none_in d c)
join_down Missing s d c = absurd (none_in d c)
join_down Hidden s d c = absurd (none_in d c)
join_down (Blur by n o) s d c = absurd (none_in d c)

join_out : (i s : Goal) (d : Place) → i ≡ Decl d → s ≡ Outside → Contains (joined i s) d
join_out i s d e f = subst (λ (g : Goal). Contains (joined g s) d) (sym e)
    (subst (λ (g : Goal). Contains (joined (Decl d) g) d) (sym f) (first_in d []))

join_in : (i s : Goal) (d : Place) → i ≡ Outside → s ≡ Decl d → Contains (joined i s) d
join_in i s d e f = subst (λ (g : Goal). Contains (joined g s) d) (sym e)
    (subst (λ (g : Goal). Contains (joined Outside g) d) (sym f) (first_in d []))

blur_at : (s : Goal) (d : Place) → IsBlur s → Contains (joined (Decl d) s) d
blur_at (Blur by n o) d h = first_in d []
blur_at (Decl e) d h = absurd h
blur_at Outside d h = absurd h
blur_at Missing d h = absurd h
blur_at Hidden d h = absurd h

join_blur : (i s : Goal) (d : Place) → i ≡ Decl d → IsBlur s → Contains (joined i s) d
join_blur i s d e h = subst (λ (g : Goal). Contains (joined g s) d) (sym e) (blur_at s d h)

-- ---- free, or held

module _ (us : List UnitTree) (uses : BTreeSet Place) (has : HasFixedUses (places us) (facts us).refs uses) where
  abbrev Fs : Facts
  Fs = facts us

  by_ref : (d : Place) (r : Ref) → Contains Fs.refs r → ((r.goal ≡ Decl d) × (contains place_cmp uses r.at ≡ true)) ⊎ HasBehind d r.goal
      → IsFree us d → ⊥
  by_ref d r c (inl h) f = f.uses r c h.0 ((has r c).0 h.1)
  by_ref d r c (inr h) f = f.refs_seen r c h

  by_join : (d : Place) (l : Link) → Contains Fs.links l → Joins d l.item l.source → IsFree us d → ⊥
  by_join d l c (inl h) f = f.inside l c h
  by_join d l c (inr h) f = f.links_seen l c (inr h)

  by_link : (d : Place) (l : Link) → Contains Fs.links l → Contains (joined l.item l.source) d ⊎ Contains (behind l.source) d → IsFree us d → ⊥
  by_link d l c (inl h) f = by_join d l c (join_down l.item l.source d h) f
  by_link d l c (inr h) f = f.links_seen l c (inl (behind_down l.source d h))

  -- what the scan fixes is not free
  pub held : (d : Place) → Contains (fixed_by uses Fs) d → IsFree us d → ⊥
  held d c f = elim (Contains-append_cases (flat_map (fixed_by_ref uses) Fs.refs) (flat_map fixed_by_link Fs.links) d c) [
    | inl a ↦ (let k = in_some (fixed_by_ref uses) Fs.refs d a in by_ref d k.0 k.1 (use_down (contains place_cmp uses k.0.at) k.0.goal d k.2) f)
    | inr b ↦ (let k = in_some fixed_by_link Fs.links d b in by_link d k.0 k.1
        (Contains-append_cases (joined k.0.item k.0.source) (behind k.0.source) d k.2) f)
  ]

  module _ (d : Place) (none : Contains (fixed_by uses Fs) d → ⊥) where
    no_ref : (r : Ref) → Contains Fs.refs r → Contains (fixed_by_ref uses r) d → ⊥
    no_ref r c h = none (Contains-append_left (flat_map (fixed_by_ref uses) Fs.refs) (flat_map fixed_by_link Fs.links) d
        (in_all (fixed_by_ref uses) Fs.refs r d c h))

    no_link : (l : Link) → Contains Fs.links l → Contains (fixed_by_link l) d → ⊥
    no_link l c h = none
        (Contains-append_right (flat_map (fixed_by_ref uses) Fs.refs) (flat_map fixed_by_link Fs.links) d (in_all fixed_by_link Fs.links l d c h))

    no_join : (l : Link) → Contains Fs.links l → Contains (joined l.item l.source) d → ⊥
    no_join l c h = no_link l c (Contains-append_left (joined l.item l.source) (behind l.source) d h)

    inside : (l : Link) → Contains Fs.links l → ((l.item ≡ Decl d) × (l.source ≡ Outside)) ⊎ ((l.item ≡ Outside) × (l.source ≡ Decl d)) → ⊥
    inside l c (inl h) = no_join l c (join_out l.item l.source d h.0 h.1)
    inside l c (inr h) = no_join l c (join_in l.item l.source d h.0 h.1)

    seen : (l : Link) → Contains Fs.links l → HasBehind d l.source ⊎ ((l.item ≡ Decl d) × IsBlur l.source) → ⊥
    seen l c (inl h) = no_link l c (Contains-append_right (joined l.item l.source) (behind l.source) d (behind_up l.source d h))
    seen l c (inr h) = no_join l c (join_blur l.item l.source d h.0 h.1)

    pub free : (IsFixedSite (at_place (places us) d) → ⊥) → IsFree us d
    free word = record {
      word = word;
      uses = λ r c g s. no_ref r c (use_decl (contains place_cmp uses r.at) r.goal d g ((has r c).1 s));
      inside = inside;
      refs_seen = λ r c h. no_ref r c (use_behind (contains place_cmp uses r.at) r.goal d h);
      links_seen = seen;
    }

-- ---- the least changed binder that is held

abbrev pub Among : List Changed → BTreeSet Place → Place → Type 0
Among list fixed p = (c : Changed) × Contains list c × (c.0 ≡ p) × (contains place_cmp fixed p ≡ true)

module _ (us : List UnitTree) (uses fixed : BTreeSet Place) (has : HasFixedUses (places us) (facts us).refs uses)
    (all : HasPlaces (fixed_by uses (facts us)) fixed) (list : List Changed)
    (words : (c : Changed) → Contains list c → IsFixedSite (at_place (places us) c.0) → ⊥) where
  free_if : (p : Place) (b : Bool) → contains place_cmp fixed p ≡ b → (IsFixedSite (at_place (places us) p) → ⊥) → (IsFree us p → ⊥) → b ≡ true
  free_if p true e w h = refl
  free_if p false e w h =
      absurd (h (free us uses has p (λ c. let wrong : true ≡ false = sym (has_set (fixed_by uses (facts us)) fixed p all c) ∙ e in cc) w))

  held_is : (p : Place) → Among list fixed p → IsHeld us list p
  held_is p a = record { change = a.0; among = a.1; place = a.2; fixed = held us uses has p (set_has (fixed_by uses (facts us)) fixed p all a.3) }

  is_held : (p : Place) → IsHeld us list p → Among list fixed p
  is_held p h = (
    h.change,
    h.among,
    h.place,
    free_if p (contains place_cmp fixed p) refl (subst (λ q. IsFixedSite (at_place (places us) q) → ⊥) h.place (words h.change h.among)) h.fixed,
  )

  none_case : ((p : Place) → Among list fixed p → ⊥) → (c : Changed) → Contains list c → IsFree us c.0
  none_case none c k =
      free us uses has c.0 (λ d. none c.0 (c, k, refl, has_set (fixed_by uses (facts us)) fixed c.0 all d)) (words c k)

  pub least_is : (o : Option Place) → IsLeastOrNone (Among list fixed) o → IsLeastHeld us list o
  least_is None h = none_case h
  least_is (Some at) h = record { there = held_is at h.there; least = λ p k. h.least p (is_held p k) }
