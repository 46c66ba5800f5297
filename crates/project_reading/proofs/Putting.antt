-- What the program does to the list of units is `put_part`.
use Rattle.std.proofs.Common.{◌≡◌, ℕ, zero, suc, List, [], ◌∷◌, ◌++◌, Bool, true, false, not, cond, get_or, Option, Some, None, option_map, refl, ap}
use Rattle.std.proofs.Common.{sym, ◌∙◌}
use Rattle.std.specs.Prelude.{slice_set}
use Rattle.std.specs.List.{position, insert}
use Rattle.std.specs.declared.cmp.Ordering.{Ordering}
use Rattle.std.specs.declared.cmp.Ordering.TheVariants.{Less, Equal, Greater}
use Rattle.std.specs.Ordering.{nat_cmp, is_gt, match_ordering}
use Rattle.std.specs.Cmp.Lexicographic.{slice_cmp}
use Rattle.std.specs.Str.{bytes_eq}
use Rattle.ml_trees.specs.declared.module.UnitTree as trees
use Rattle.ml_trees.specs.Tree.{FileTree, UnitTree}
use Rattle.ml_trees.specs.View.{view_unit}
use Rattle.unit_order.specs.Positions.{views}
use Rattle.unit_order.proofs.Taken.{position_cons}
use Rattle.project_reading.specs.Gathered.{with_part, empty_unit, put_part}
use Rattle.project_reading.proofs.Names.{same_name, other_before}
use Rattle.project_reading.proofs.Parts.{itself}

module _ (body : Bool) (n : List ℕ) (t : FileTree) where
  -- the unit is not before the name
  abbrev is_place : trees.UnitTree → Bool
  is_place u = not (is_gt (slice_cmp nat_cmp n u.name))

  abbrev fresh : UnitTree
  fresh = with_part body t (empty_unit n)

  abbrev put : List trees.UnitTree → List UnitTree
  put us = put_part body n t (views us)

  none_of : (o : Option ℕ) → option_map suc o ≡ None → o ≡ None
  none_of None h = refl
  none_of (Some k) h = cc

  some_of : (o : Option ℕ) (k : ℕ) → option_map suc o ≡ Some (suc k) → o ≡ Some k
  some_of None k h = cc
  some_of (Some j) k h = cc

  not_zero : (o : Option ℕ) → option_map suc o ≡ Some 0 → ⊥
  not_zero None h = cc
  not_zero (Some j) h = cc

  pub put_last : (us : List trees.UnitTree) (v : trees.UnitTree) → position is_place us ≡ None → view_unit v ≡ fresh → views (us ++ v ∷ []) ≡ put us
  put_last [] v h e = ap (λ u. u ∷ []) e
  put_last (u ∷ us) v h e = by (slice_cmp nat_cmp n u.name) (sym (position_cons is_place u us) ∙ h) (put_last us v)
    where
      by : (r : Ordering) → cond (not (is_gt r)) (Some 0) (option_map suc (position is_place us)) ≡ None
          → (position is_place us ≡ None → view_unit v ≡ fresh → views (us ++ v ∷ []) ≡ put us)
          → view_unit u ∷ views (us ++ v ∷ []) ≡ match_ordering r (fresh ∷ view_unit u ∷ views us) (with_part body t (view_unit u) ∷ views us)
          (view_unit u ∷ put us)
      by Less q rest = cc
      by Equal q rest = cc
      by Greater q rest = ap (λ vs. view_unit u ∷ vs) (rest (none_of (position is_place us) q) e)

  pub put_between : (us : List trees.UnitTree) (k : ℕ) (d v : trees.UnitTree) → position is_place us ≡ Some k
      → bytes_eq (get_or us k d).name n ≡ false → view_unit v ≡ fresh → views (insert us k v) ≡ put us
  put_between [] k d v h ne e = cc
  put_between (u ∷ us) zero d v h ne e = by (slice_cmp nat_cmp n u.name) refl (sym (position_cons is_place u us) ∙ h)
    where
      by : (r : Ordering) → slice_cmp nat_cmp n u.name ≡ r → cond (not (is_gt r)) (Some 0) (option_map suc (position is_place us)) ≡ Some 0
          → view_unit v ∷ view_unit u ∷ views us ≡ match_ordering r (fresh ∷ view_unit u ∷ views us) (with_part body t (view_unit u) ∷ views us)
          (view_unit u ∷ put us)
      by Less p q = ap (λ w. w ∷ view_unit u ∷ views us) e
      by Equal p q = let bad : true ≡ false = sym (itself u.name) ∙ ap (bytes_eq u.name) (sym (same_name n u.name p)) ∙ ne in cc
      by Greater p q = absurd (not_zero (position is_place us) q)
  put_between (u ∷ us) (suc k) d v h ne e = by (slice_cmp nat_cmp n u.name) (sym (position_cons is_place u us) ∙ h) (put_between us k d v)
    where
      by : (r : Ordering) → cond (not (is_gt r)) (Some 0) (option_map suc (position is_place us)) ≡ Some (suc k)
          → (position is_place us ≡ Some k → bytes_eq (get_or us k d).name n ≡ false → view_unit v ≡ fresh → views (insert us k v) ≡ put us)
          → view_unit u ∷ views (insert us k v) ≡ match_ordering r (fresh ∷ view_unit u ∷ views us) (with_part body t (view_unit u) ∷ views us)
          (view_unit u ∷ put us)
      by Less q rest = cc
      by Equal q rest = cc
      by Greater q rest = ap (λ vs. view_unit u ∷ vs) (rest (some_of (position is_place us) k q) ne e)

  pub put_at : (us : List trees.UnitTree) (k : ℕ) (d d' v : trees.UnitTree) → position is_place us ≡ Some k → bytes_eq (get_or us k d).name n ≡ true
      → view_unit v ≡ with_part body t (view_unit (get_or us k d')) → views (slice_set us k v) ≡ put us
  put_at [] k d d' v h eq e = cc
  put_at (u ∷ us) zero d d' v h eq e = by (slice_cmp nat_cmp n u.name) refl (sym (position_cons is_place u us) ∙ h)
    where
      by : (r : Ordering) → slice_cmp nat_cmp n u.name ≡ r → cond (not (is_gt r)) (Some 0) (option_map suc (position is_place us)) ≡ Some 0
          → view_unit v ∷ views us ≡ match_ordering r (fresh ∷ view_unit u ∷ views us) (with_part body t (view_unit u) ∷ views us)
          (view_unit u ∷ put us)
      by Less p q = let bad : true ≡ false = sym eq ∙ other_before n u.name p in cc
      by Equal p q = ap (λ w. w ∷ views us) e
      by Greater p q = absurd (not_zero (position is_place us) q)
  put_at (u ∷ us) (suc k) d d' v h eq e = by (slice_cmp nat_cmp n u.name) (sym (position_cons is_place u us) ∙ h) (put_at us k d d' v)
    where
      by : (r : Ordering) → cond (not (is_gt r)) (Some 0) (option_map suc (position is_place us)) ≡ Some (suc k)
          → (position is_place us ≡ Some k → bytes_eq (get_or us k d).name n ≡ true → view_unit v ≡ with_part body t (view_unit (get_or us k d'))
          → views (slice_set us k v) ≡ put us)
          → view_unit u ∷ views (slice_set us k v) ≡ match_ordering r (fresh ∷ view_unit u ∷ views us) (with_part body t (view_unit u) ∷ views us)
          (view_unit u ∷ put us)
      by Less q rest = cc
      by Equal q rest = cc
      by Greater q rest = ap (λ vs. view_unit u ∷ vs) (rest (some_of (position is_place us) k q) eq e)

-- the place that is found is that of this name in these units
pub placed : (n m : List ℕ) (us vs : List trees.UnitTree) (o p : Option ℕ) → o ≡ position (λ u. not (is_gt (slice_cmp nat_cmp m u.name))) vs → m ≡ n
    → vs ≡ us → o ≡ p
    → position (λ u. not (is_gt (slice_cmp nat_cmp n u.name))) us ≡ p
placed n m us vs o p found name list is =
    ap (λ x. position (λ u. not (is_gt (slice_cmp nat_cmp x u.name))) us) (sym name)
    ∙ ap (λ l. position (λ u. not (is_gt (slice_cmp nat_cmp m u.name))) l) (sym list)
    ∙ sym found ∙ is
