-- Units that are taken out of their list one by one, each position once.
use Rattle.std.proofs.Common.{◌≡◌, ◌≢◌, ℕ, ◌<◌, List, [], ◌∷◌, ◌++◌, All, map, length, get_or, set, Option, Some, None, append_assoc, refl, ap, sym}
use Rattle.std.proofs.Common.{◌∙◌, arith, length-set}
use Rattle.std.proofs.lemmas.List.{map-append, get_or-map, get_or-set_other, get_or_default, length-map}
use Rattle.std.proofs.lemmas.List.Elements.{All-head, All-tail}
use Rattle.ml_trees.specs.declared.module.UnitTree as trees
use Rattle.ml_trees.specs.View.{view_unit}
use Rattle.value_sites.specs.Sound.{AreDistinct}
use Rattle.unit_order.specs.Positions.{blank, unit_at, views}

abbrev pub IsHere : List trees.UnitTree → List (Option trees.UnitTree) → ℕ → Type 0
IsHere us left p = (d : trees.UnitTree) → get_or left p (Some d) ≡ Some (get_or us p d)

-- the units at these positions are here still, those at the positions before them are in the list
pub record TakesOut (us : List trees.UnitTree) (all ps : List ℕ) (left : List (Option trees.UnitTree)) (list : List trees.UnitTree) : Type 0 where
  pub here : All (IsHere us left) ps
  pub once : AreDistinct ps
  pub inside : All (λ p. p < length us) ps
  pub made : views list ++ map (unit_at (views us)) ps ≡ map (unit_at (views us)) all
  pub size : length left ≡ length us

some_same : (u v : trees.UnitTree) → Some u ≡ Some v → u ≡ v
some_same u v e = cc

elsewhere : (us : List trees.UnitTree) (left : List (Option trees.UnitTree)) (p : ℕ) (ps : List ℕ) → All (λ q. p ≢ q) ps → All (IsHere us left) ps
    → All (IsHere us (set left p None)) ps
elsewhere us left p ps other h = λ k d lt e. get_or-set_other left p (get_or ps k d) None (Some e) (λ same. other k d lt (sym same)) ∙ h k d lt e

pub one_taken : (us : List trees.UnitTree) (all ps : List ℕ) (p : ℕ) (left : List (Option trees.UnitTree)) (o : Option trees.UnitTree)
    (list : List trees.UnitTree) (u : trees.UnitTree)
    → TakesOut us all (p ∷ ps) left list → o ≡ get_or left p o → o ≡ Some u → TakesOut us all ps (set left p None) (list ++ u ∷ [])
one_taken us all ps p left o list u h is some =
    let inside : p < length us = All-head (λ q. q < length us) p ps h.inside in
    let within : p < length left = omega (arith, inside, h.size) in
    let found : Some u ≡ Some (get_or us p u) = sym some ∙ is ∙ get_or_default left p o (Some u) within ∙ All-head (IsHere us left) p ps h.here u in
    let same : view_unit u ≡ unit_at (views us) p = ap view_unit (some_same u (get_or us p u) found)
    ∙ sym (get_or-map view_unit us p u blank inside) in
    record {
      here = elsewhere us left p ps h.once.0 (All-tail (IsHere us left) p ps h.here);
      once = h.once.1;
      inside = All-tail (λ q. q < length us) p ps h.inside;
      made =
          ap (λ us'. us' ++ map (unit_at (views us)) ps) (map-append view_unit list (u ∷ []))
          ∙ append_assoc (views list) (view_unit u ∷ []) (map (unit_at (views us)) ps)
          ∙ ap (λ v. views list ++ v ∷ map (unit_at (views us)) ps) same
          ∙ h.made;
      size = length-set left p None ∙ h.size;
    }

pub none_taken : (us : List trees.UnitTree) (all ps : List ℕ) (p : ℕ) (left : List (Option trees.UnitTree)) (o : Option trees.UnitTree)
    (list : List trees.UnitTree)
    → TakesOut us all (p ∷ ps) left list → o ≡ get_or left p o → o ≡ None → ⊥
none_taken us all ps p left o list h is none =
    let d : trees.UnitTree = record { name = []; body = None; face = None } in
    let within : p < length left = omega (arith, All-head (λ q. q < length us) p ps h.inside, h.size) in
    let bad : None ≡ Some (get_or us p d) = sym none ∙ is ∙ get_or_default left p o (Some d) within ∙ All-head (IsHere us left) p ps h.here d in
    cc

all_here : (us : List trees.UnitTree) (ps : List ℕ) → All (λ p. p < length us) ps → All (IsHere us (map Some us)) ps
all_here us ps h = λ k d lt e. get_or-map Some us (get_or ps k d) e (Some e) (h k d lt)

pub none_out : (us : List trees.UnitTree) (ps : List ℕ) → All (λ p. p < length us) ps → AreDistinct ps → TakesOut us ps ps (map Some us) []
none_out us ps h once = record { here = all_here us ps h; once = once; inside = h; made = refl; size = length-map us Some }
