-- Two projects without a fault between them have the same facts.
use Rattle.std.proofs.Common.{◌≡◌, ◌⊎◌, inl, inr, ℕ, zero, suc, ◌<◌, ◌≤◌, List, [], ◌∷◌, Some, map, refl, ap, sym, subst, ◌∙◌, arith}
use Rattle.rotor_base.specs.Place.{IsBefore}
use Rattle.rotor_base.specs.declared.place.Goal.{Goal}
use Rattle.rotor_base.specs.declared.place.Goal.TheVariants.{Decl}
use Rattle.rotor_base.specs.declared.place.Link.{Link}
use Rattle.rotor_base.specs.declared.place.Place.{Place}
use Rattle.rotor_base.specs.declared.place.Ref.{Ref}
use Rattle.value_sites.specs.Each.{Each}
use Rattle.value_sites.specs.Sound.{IsSound}
use Rattle.ml_trees.specs.Tree.{UnitTree}
use Rattle.binding_model.specs.Facts.{facts}
use Rattle.binding_model.specs.Laws.{StaysPut}
use Rattle.binding_model.specs.Renaming.{name_of}
use Rattle.capture_check.specs.declared.fault.Fault.{Fault}
use Rattle.capture_check.specs.declared.fault.Fault.TheVariants.{Capture, Mislink}
use Rattle.capture_check.specs.Fault.{IsMet, Differs, IsFirstDiffering, IsClash, IsCapture, IsMislink, before, faults, of_ref, of_link}
use Rattle.capture_check.proofs.Equal.{IsAtDecl, items_decl, equal_or}
use Rattle.rename_model.specs.Ladder.{IsLeast}
use Rattle.rename_laws.proofs.Ladder.{not_first, not_rest}
use Rattle.rename_laws.proofs.Leasts.{no_least_is_none}
use Rattle.rename_verify.proofs.One.{which}

-- ---- if no first thing differs, none does

module _ {A : Type 0} (make : Place → Goal → A) (old new : List A) (none : (p : Place) (w v : Goal) → IsFirstDiffering make old new p w v → ⊥) where
  abbrev At : Place → Type 0
  At p = (k : ℕ) × (w : Goal) × (v : Goal) × Differs make old new k p w v

  none_below : (p : Place) → IsLeast At p → (n k : ℕ) → k < n → (w v : Goal) → Differs make old new k p w v → ⊥
  none_below p l zero k less w v d = omega (arith, less)
  none_below p l (suc n) k less w v d =
      none p w v (record {
        number = k;
        differs = d;
        least = λ j q x y e. order j q x y e (l.least q (j, x, y, e))
            (λ f i. none_below p l n j f x y i);
      })
    where
      order : (j : ℕ) (q : Place) (x y : Goal) → Differs make old new j q x y → (p ≡ q) ⊎ IsBefore p q → (j < n → Differs make old new j p x y → ⊥)
          → IsBefore p q ⊎ ((p ≡ q) × (k ≤ j))
      order j q x y e (inr b) more = inl b
      order j q x y e (inl s) more = elim (which j k) [
        | inl i ↦ inr (s, omega (arith, i))
        | inr o ↦ elim o [
          | inl i ↦ absurd (more (omega (arith, i, less)) (subst (λ z. Differs make old new j z x y) (sym s) e))
          | inr i ↦ inr (s, omega (arith, i))
        ]
      ]

  no_least : (p : Place) → IsLeast At p → ⊥
  no_least p l = let t = l.there in none_below p l (suc t.0) t.0 (omega arith) t.1 t.2 t.3

  pub no_differs : (k : ℕ) (p : Place) (w v : Goal) → Differs make old new k p w v → ⊥
  no_differs k p w v d = no_least_is_none At no_least p (k, w, v, d)

-- ---- references and links

place_head : (a b : Place) (u v : List Place) → a ∷ u ≡ b ∷ v → a ≡ b
place_head a b u v e = cc

place_tail : (a b : Place) (u v : List Place) → a ∷ u ≡ b ∷ v → u ≡ v
place_tail a b u v e = cc

goal_head : (a b : Goal) (u v : List Goal) → a ∷ u ≡ b ∷ v → a ≡ b
goal_head a b u v e = cc

goal_tail : (a b : Goal) (u v : List Goal) → a ∷ u ≡ b ∷ v → u ≡ v
goal_tail a b u v e = cc

behind_one : {A : Type 0} (make : Place → Goal → A) (x y : A) (xs ys : List A)
    → ((k : ℕ) (p : Place) (w v : Goal) → Differs make (x ∷ xs) (y ∷ ys) k p w v → ⊥)
    → (k : ℕ) (p : Place) (w v : Goal) → Differs make xs ys k p w v → ⊥
behind_one make x y xs ys none k p w v d = none (suc k) p w v (record { old_one = d.old_one; new_one = d.new_one; differ = d.differ })

refs_equal : (rs ss : List Ref) → map (λ r. r.at) rs ≡ map (λ r. r.at) ss → ((k : ℕ) (p : Place) (w v : Goal) → Differs of_ref rs ss k p w v → ⊥)
    → rs ≡ ss
refs_equal [] [] e none = refl
refs_equal [] (s ∷ ss) e none = cc
refs_equal (r ∷ rs) [] e none = cc
refs_equal (r ∷ rs) (s ∷ ss) e none =
    let at : r.at ≡ s.at = place_head r.at s.at (map (λ x. x.at) rs) (map (λ x. x.at) ss) e in
    let rest : rs ≡ ss = refs_equal rs ss (place_tail r.at s.at (map (λ x. x.at) rs) (map (λ x. x.at) ss) e) (behind_one of_ref r s rs ss none) in
    elim (equal_or r.goal s.goal) [
      | inl g ↦ ap (λ l. r ∷ l) rest ∙ ap (λ (x : Ref). x ∷ ss) (ap (λ (p : Place). of_ref p r.goal) at ∙ ap (of_ref s.at) g)
      | inr n ↦ absurd (none 0 r.at r.goal s.goal
          (record { old_one = refl; new_one = ap (λ (p : Place). Some (of_ref p s.goal)) (sym at); differ = n }))
    ]

abbrev link_of : Goal → Goal → Link
link_of i s = record { item = i; source = s }

links_equal : (ls ks : List Link) → Each IsAtDecl ls → map (λ l. l.item) ls ≡ map (λ l. l.item) ks
    → ((k : ℕ) (p : Place) (w v : Goal) → Differs of_link ls ks k p w v → ⊥) → ls ≡ ks
links_equal [] [] d e none = refl
links_equal [] (k ∷ ks) d e none = cc
links_equal (l ∷ ls) [] d e none = cc
links_equal (l ∷ ls) (k ∷ ks) d e none =
    let item : l.item ≡ k.item = goal_head l.item k.item (map (λ x. x.item) ls) (map (λ x. x.item) ks) e in
    let rest : ls ≡ ks = links_equal ls ks d.1 (goal_tail l.item k.item (map (λ x. x.item) ls) (map (λ x. x.item) ks) e)
    (behind_one of_link l k ls ks none) in
    elim (equal_or l.source k.source) [
      | inl g ↦ ap (λ xs. l ∷ xs) rest ∙ ap (λ (x : Link). x ∷ ks) (ap (λ (i : Goal). link_of i l.source) item ∙ ap (link_of k.item) g)
      | inr n ↦ absurd (none 0 d.0.0 l.source k.source (record {
        old_one = ap (λ (i : Goal). Some (link_of i l.source)) d.0.1;
        new_one = ap (λ (i : Goal). Some (link_of i k.source)) (sym item ∙ d.0.1);
        differ = n;
      }))
    ]

-- ---- facts

module _ (us vs : List UnitTree) (sound : IsSound us) (stays : StaysPut us vs) (none : IsMet (faults (name_of vs) (facts us) (facts vs)) → ⊥) where
  abbrev Later : Fault → Type 0
  Later = before (IsCapture (facts us).refs (facts vs).refs) (IsMislink (facts us).links (facts vs).links)

  pub no_clash : IsMet (IsClash (name_of vs) (facts vs).groups) → ⊥
  no_clash = not_first (IsClash (name_of vs) (facts vs).groups) Later none

  later : IsMet Later → ⊥
  later = not_rest (IsClash (name_of vs) (facts vs).groups) Later none

  refs_same : (facts us).refs ≡ (facts vs).refs
  refs_same =
      refs_equal (facts us).refs (facts vs).refs (sym stays.refs)
      (no_differs of_ref (facts us).refs (facts vs).refs
      (λ p w v d. not_first (IsCapture (facts us).refs (facts vs).refs) (IsMislink (facts us).links (facts vs).links) later (Capture p w v, d)))

  links_same : (facts us).links ≡ (facts vs).links
  links_same =
      links_equal (facts us).links (facts vs).links (items_decl us sound) (sym stays.items)
      (no_differs of_link (facts us).links (facts vs).links
      (λ p w v d. not_rest (IsCapture (facts us).refs (facts vs).refs) (IsMislink (facts us).links (facts vs).links) later
      (Mislink (Decl p) w v, d)))

  pub same_facts : facts vs ≡ facts us
  same_facts =
      ap (λ (rs : List Ref). record (facts vs) { refs = rs }) (sym refs_same)
      ∙ (ap (λ (ls : List Link). record (facts vs) { refs = (facts us).refs; links = ls }) (sym links_same)
      ∙ ap (λ gs. record (facts us) { groups = gs }) stays.groups)
