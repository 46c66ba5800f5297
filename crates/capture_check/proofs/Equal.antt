-- If there is no fault, the facts are equal.
use Rattle.std.proofs.Common.{◌≡◌, ◌≢◌, ℕ, zero, suc, ◌+◌, ◌⊎◌, ◌==◌, ◌&&◌, Bool, true, false, refl, ap, sym, ◌∙◌, subst, inl, inr, arith, List, []}
use Rattle.std.proofs.Common.{◌∷◌, map, length, Option, Some, None, slice_get}
use Rattle.std.proofs.lemmas.Bool.Decides.{nat_tests}
use Rattle.rotor_base.specs.declared.place.Place.{Place}
use Rattle.rotor_base.specs.declared.place.Goal.{Goal}
use Rattle.rotor_base.specs.declared.place.Goal.TheVariants.{Decl, Outside, Missing, Hidden, Blur}
use Rattle.rotor_base.specs.declared.place.Ref.{Ref}
use Rattle.rotor_base.specs.declared.place.Link.{Link}
use Rattle.rotor_base.specs.declared.place.Facts.{Facts}
use Rattle.rotor_base.specs.declared.looks.Watch.{Watch}
use Rattle.rotor_base.specs.Place.{same_goal, same_place, same_behind}
use Rattle.value_sites.specs.Sound.{IsSound}
use Rattle.ml_trees.specs.Tree.{UnitTree}
use Rattle.value_sites.specs.Each.{Each}
use Rattle.binding_model.specs.Facts.{facts}
use Rattle.binding_model.specs.Looks.{looks}
use Rattle.binding_model.specs.Renaming.{places, at_place, name_of, respell}
use Rattle.binding_model.proofs.Named.{IsNamed}
use Rattle.binding_model.proofs.OneName.{Joins, steps_join}
use Rattle.binding_model.proofs.Naming.{PlaceNamed, units_named}
use Rattle.binding_model.proofs.Sounds.{each_map, found_all}
use Rattle.rotor_base.specs.declared.looks.LinkLook.{LinkLook}
use Rattle.shape_core.specs.Shape.{Name, none}
use Rattle.binding_model.specs.Walk.{steps}
use Rattle.binding_model.specs.Local.{link_look_at, would_come, would_facts, would_be, would_links}
use Rattle.binding_model.specs.Renaming.{renaming}
use Rattle.binding_model.proofs.LastEntries.{same_is}
use Rattle.binding_model.proofs.Telltale.{apart_of, looks_tell_facts}
use Rattle.capture_check.specs.declared.fault.Change.{Change}
use Rattle.capture_check.specs.Fault.{Differs, IsCapture, IsMislink, IsClash, IsMet, of_ref, of_link, IsFirstFault}
use Rattle.capture_check.specs.declared.fault.Fault.TheVariants.{Capture, Mislink}
use Rattle.capture_check.specs.Firsts.{IsFirstChange, Tells, earlier_change}
use Rattle.capture_check.specs.Local.{NoFaultKeepsFacts}
use Rattle.capture_check.proofs.Least.{KeepsPlace, keeps_ref, keeps_link, IsBest, best_begin, best_more, best_all}

-- ---- goals are equal or not

pub both : (a b : Bool) → (a && b) ≡ true → (a ≡ true) × (b ≡ true)
both true b h = (refl, h)
both false b h = absurd cc

equal_of : (m n : ℕ) → (m == n) ≡ true → m ≡ n
equal_of m n h = grind (arith, nat_tests)

pub behind_equal : (b c : Option Place) → same_behind b c ≡ true → b ≡ c
behind_equal None None h = refl
behind_equal None (Some q) h = cc
behind_equal (Some p) None h = cc
behind_equal (Some p) (Some q) h = ap (λ (r : Place). Some r) (same_is p q h)

pub goals_equal : (g h : Goal) → same_goal g h ≡ true → g ≡ h
goals_equal (Decl p) (Decl q) e = ap (λ (r : Place). Decl r) (same_is p q e)
goals_equal Outside Outside e = refl
goals_equal Missing Missing e = refl
goals_equal Hidden Hidden e = refl
goals_equal (Blur p m b) (Blur q n c) e =
    let outer = both (same_place p q && m == n) (same_behind b c) e in
    let inner = both (same_place p q) (m == n) outer.0 in
    let ep : p ≡ q = same_is p q inner.0 in
    let em : m ≡ n = equal_of m n inner.1 in
    let eb : b ≡ c = behind_equal b c outer.1 in
    cc
goals_equal _ _ e = cc

pub same_itself : (p : Place) → same_place p p ≡ true
same_itself p = grind (arith, nat_tests)

pub goal_itself : (g : Goal) → same_goal g g ≡ true
goal_itself (Decl p) = same_itself p
goal_itself Outside = refl
goal_itself Missing = refl
goal_itself Hidden = refl
goal_itself (Blur p m None) = rw (same_itself p) (grind (arith, nat_tests))
goal_itself (Blur p m (Some q)) = rw (same_itself p, same_itself q) (grind (arith, nat_tests))

pub equal_or : (g h : Goal) → (g ≡ h) ⊎ (g ≢ h)
equal_or g h = by (same_goal g h) refl where
  by : (b : Bool) → same_goal g h ≡ b → (g ≡ h) ⊎ (g ≢ h)
  by true e = inl (goals_equal g h e)
  by false e = inr (λ k. let z : true ≡ false = sym (goal_itself g) ∙ (ap (same_goal g) k ∙ e) in absurd cc)

place_or : (p q : Place) → (p ≡ q) ⊎ (p ≢ q)
place_or p q = by (same_place p q) refl where
  by : (b : Bool) → same_place p q ≡ b → (p ≡ q) ⊎ (p ≢ q)
  by true e = inl (same_is p q e)
  by false e = inr (λ k. let z : true ≡ false = sym (same_itself p) ∙ (ap (same_place p) k ∙ e) in absurd cc)

-- ---- if there is no least change, no thing differs

module _ {A : Type 0} (make : Place → Goal → A) (keeps : KeepsPlace make) (old new : List A)
    (tell : (o p : Option A) → (c : Option Change) × Tells make o p c) where
  best_at : (n : ℕ) → (c : Option Change) × IsBest make old new n c
  best_at zero = (None, best_begin make keeps old new)
  best_at (suc n) =
      let t = tell (slice_get old n) (slice_get new n) in
      let b = best_at n in
      let next : n + 1 ≡ suc n = omega arith in
      let c = earlier_change b.0 t.0 in
      (c, subst (λ (m : ℕ). IsBest make old new m c) next (best_more make keeps old new n b.0 t.0 t.1 b.1))

  pub first_or_none : (c : Option Change) × IsFirstChange make old new c
  first_or_none = let b = best_at (length old) in (b.0, best_all make keeps old new (length old) b.0 (omega arith) b.1)

  none_differs : ((c : Change) → IsFirstChange make old new (Some c) → ⊥) → (k : ℕ) (p : Place) (w v : Goal) → Differs make old new k p w v → ⊥
  none_differs h = by first_or_none.0 first_or_none.1 where
    by : (o : Option Change) → IsFirstChange make old new o → (k : ℕ) (p : Place) (w v : Goal) → Differs make old new k p w v → ⊥
    by None f = f
    by (Some c) f = λ k p w v d. h c f

tell_pair : (r s : Ref) → (c : Option Change) × Tells of_ref (Some r) (Some s) c
tell_pair r s = elim (place_or r.at s.at) [
  | inr n ↦ (
    None,
    λ p w v e f d. let x : r.at ≡ p = ap (λ (q : Option Ref). at_of r q) e in
        let y : s.at ≡ p = ap (λ (q : Option Ref). at_of s q) f in n (x ∙ sym y),
  )
  | inl a ↦ elim (equal_or r.goal s.goal) [
    | inl g ↦ (
      None,
      λ p w v e f d. let x : r.goal ≡ w = ap (λ (q : Option Ref). goal_of r q) e in
          let y : s.goal ≡ v = ap (λ (q : Option Ref). goal_of s q) f in d (sym x ∙ (g ∙ y)),
    )
    | inr n ↦ (Some (record { at = r.at; was = r.goal; would = s.goal }), (refl, ap (λ (p : Place). Some (of_ref p s.goal)) (sym a), n))
  ]
] where
  at_of : Ref → Option Ref → Place
  at_of d None = d.at
  at_of d (Some q) = q.at

  goal_of : Ref → Option Ref → Goal
  goal_of d None = d.goal
  goal_of d (Some q) = q.goal

pub tell_ref : (o p : Option Ref) → (c : Option Change) × Tells of_ref o p c
tell_ref None p = (None, λ q w v e f d. cc)
tell_ref (Some r) None = (None, λ q w v e f d. cc)
tell_ref (Some r) (Some s) = tell_pair r s

-- an item of a link that is a declaration
abbrev source_at : Link → Option Link → Goal
source_at d None = d.source
source_at d (Some q) = q.source

abbrev item_at : Link → Option Link → Goal
item_at d None = d.item
item_at d (Some q) = q.item

decl_is : (p q : Place) → Decl p ≡ Decl q → p ≡ q
decl_is p q e = cc

tell_link_at : (g : Goal) (l k : Link) → l.item ≡ g → (c : Option Change) × Tells of_link (Some l) (Some k) c
tell_link_at (Decl a) l k i = elim (equal_or k.item (Decl a)) [
  | inr n ↦ (None, λ p w v e f d. let x : l.item ≡ Decl p = ap (item_at l) e in let y : k.item ≡ Decl p = ap (item_at k) f in n (y ∙ (sym x ∙ i)))
  | inl j ↦ elim (equal_or l.source k.source) [
    | inl s ↦ (None, λ p w v e f d. let x : l.source ≡ w = ap (source_at l) e in let y : k.source ≡ v = ap (source_at k) f in d (sym x ∙ (s ∙ y)))
    | inr n ↦ (
      Some (record { at = a; was = l.source; would = k.source }),
      (ap (λ (g : Goal). Some (record l { item = g })) i, ap (λ (g : Goal). Some (record k { item = g })) j, n),
    )
  ]
]
tell_link_at Outside l k i = (None, λ p w v e f d. let x : Outside ≡ Decl p = sym i ∙ ap (item_at l) e in absurd cc)
tell_link_at Missing l k i = (None, λ p w v e f d. let x : Missing ≡ Decl p = sym i ∙ ap (item_at l) e in absurd cc)
tell_link_at Hidden l k i = (None, λ p w v e f d. let x : Hidden ≡ Decl p = sym i ∙ ap (item_at l) e in absurd cc)
tell_link_at (Blur by n b) l k i = (None, λ p w v e f d. let x : Blur by n b ≡ Decl p = sym i ∙ ap (item_at l) e in absurd cc)

pub tell_link : (o p : Option Link) → (c : Option Change) × Tells of_link o p c
tell_link None p = (None, λ q w v e f d. cc)
tell_link (Some l) None = (None, λ q w v e f d. cc)
tell_link (Some l) (Some k) = tell_link_at l.item l k refl

-- ---- lists in which nothing differs

module _ (f : Ref → Ref) (stays : (r : Ref) → (f r).at ≡ r.at) where
  refs_equal : (rs : List Ref) → ((k : ℕ) (p : Place) (w v : Goal) → Differs of_ref rs (map f rs) k p w v → ⊥) → map f rs ≡ rs
  refs_equal [] h = refl
  refs_equal (r ∷ rs) h =
      let rest = refs_equal rs (λ k p w v d. h (suc k) p w v (record { old_one = d.old_one; new_one = d.new_one; differ = d.differ })) in
      let goal : (f r).goal ≡ r.goal = elim (equal_or r.goal (f r).goal) [
        | inl e ↦ sym e
        | inr n ↦ absurd (h 0 r.at r.goal (f r).goal
            (record { old_one = refl; new_one = ap (λ (p : Place). Some (of_ref p (f r).goal)) (stays r); differ = n }))
      ] in
      let one : f r ≡ r = ap (λ (p : Place). of_ref p (f r).goal) (stays r) ∙ ap (of_ref r.at) goal in
      ap (λ (q : Ref). q ∷ map f rs) one ∙ ap (λ (qs : List Ref). r ∷ qs) rest

abbrev pub IsAtDecl : Link → Type 0
IsAtDecl l = (a : Place) × (l.item ≡ Decl a)

module _ (w : Watch) (ls : List LinkLook) where
  links_equal : (n : ℕ) (links : List Link) → Each IsAtDecl links
      → ((k : ℕ) (p : Place) (v u : Goal) → Differs of_link links (would_links w ls n links) k p v u → ⊥)
      → would_links w ls n links ≡ links
  links_equal n [] i h = refl
  links_equal n (l ∷ links) i h =
      let rest = links_equal (suc n) links i.1 (λ k p v u d. h (suc k) p v u (record { old_one = d.old_one; new_one = d.new_one; differ = d.differ }))
      in
      let new : Goal = would_come w (link_look_at ls n) l.source in
      let item : Goal → Link = λ g. record { item = g; source = new } in
      let source : new ≡ l.source = elim (equal_or l.source new) [
        | inl e ↦ sym e
        | inr d ↦ absurd (h 0 i.0.0 l.source new (record {
          old_one = ap (λ (g : Goal). Some (record l { item = g })) i.0.1;
          new_one = ap (λ (g : Goal). Some (item g)) i.0.1;
          differ = d;
        }))
      ] in
      let made : Goal → Link = λ g. record { item = l.item; source = g } in
      ap (λ (g : Goal). made g ∷ would_links w ls (suc n) links) source ∙ ap (λ (ks : List Link). l ∷ ks) rest

-- ---- each item of a sound project's links is a declaration

abbrev Anything : Bool → Place → Name → Type 0
Anything b d x = Unit {0}

item_decl : (l : Link) → Joins Anything l → IsAtDecl l
item_decl l j = chosen l.item refl j.1 where
  chosen : (g : Goal) → l.item ≡ g → IsNamed Anything g j.0 → IsAtDecl l
  chosen (Decl a) e h = (a, e)
  chosen Outside e h = absurd h
  chosen Missing e h = absurd h
  chosen Hidden e h = absurd h
  chosen (Blur p n b) e h = absurd h

pub items_decl : (us : List UnitTree) → IsSound us → Each IsAtDecl (facts us).links
items_decl us s =
    let named = units_named Anything us none tt
    (each_map (λ e. at_place (places us) e.0 ≡ Some e.1) (PlaceNamed Anything) (places us) (λ e h. tt) (found_all (places us) (apart_of us s))) in
    each_map (Joins Anything) IsAtDecl (facts us).links item_decl (steps_join Anything (steps us) named)

-- Law: if no fault is found, the renamed project has the facts of the old one
pub no_fault_keeps_facts : NoFaultKeepsFacts
no_fault_keeps_facts us w s k h =
    let told = looks_tell_facts us w s k in
    let names = name_of (respell us (renaming w)) in
    let P : Facts → Type 0 = λ fs. IsFirstFault names (facts us) fs None in
    let none : IsFirstFault names (facts us) (would_facts w (looks w us) (facts us)) None = subst P told h in
    let new : Facts = would_facts w (looks w us) (facts us) in
    let no_clash : IsMet (IsClash names new.groups) → ⊥ = λ met. none (met.0, inl met.1) in
    let no_capture : IsMet (IsCapture (facts us).refs new.refs) → ⊥ = λ met. none (met.0, inr (no_clash, inl met.1)) in
    let no_mislink : IsMet (IsMislink (facts us).links new.links) → ⊥ = λ met. none (met.0, inr (no_clash, inr (no_capture, met.1))) in
    let refs = refs_equal (would_be w (looks w us).refs) (λ r. refl) (facts us).refs
    (none_differs of_ref keeps_ref (facts us).refs new.refs tell_ref (λ c f. no_capture (Capture c.at c.was c.would, f))) in
    let links = links_equal w (looks w us).links 0 (facts us).links (items_decl us s)
    (none_differs of_link keeps_link (facts us).links new.links tell_link (λ c f. no_mislink (Mislink (Decl c.at) c.was c.would, f))) in
    told ∙ (ap (λ (rs : List Ref). record new { refs = rs }) refs ∙ ap (λ (ls : List Link). record (facts us) { links = ls }) links)
