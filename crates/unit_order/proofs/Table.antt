-- The positions in the rows of the table of needs are those of the units that each unit needs.
use Rattle.std.proofs.Common.{◌≡◌, ℕ, suc, zero, ◌+◌, ◌<◌, ◌≤◌, length, get_or, drop, List, [], ◌∷◌, ◌++◌, All, Bool, true, false, ◌||◌, cond}
use Rattle.std.proofs.Common.{count_by, map, nat_eq, refl, sym, subst, ap, ◌∙◌, arith, append_assoc}
use Rattle.std.specs.List.{list_any}
use Rattle.std.proofs.lemmas.Bool.{eq-eqb, ne_eqb, or_left}
use Rattle.std.proofs.lemmas.List.{get_or-map, get_or_default, length-map, drop_more}
use Rattle.std.proofs.lemmas.List.Sums.{sum_by-cons, count_by-le-length}
use Rattle.std.proofs.lemmas.List.Elements.{All-nil, All-cons, All-weaker}
use Rattle.ml_trees.specs.Tree.{UnitTree}
use Rattle.ml_trees.specs.declared.module.UnitTree as trees
use Rattle.ml_trees.specs.View.{view_unit}
use Rattle.unit_order.specs.Order.{needs_unit}
use Rattle.unit_order.specs.Positions.{blank, views, unit_at}
use Rattle.unit_order.specs.Needs.{need_table, positions_from, AreNeeds, times}

pub map_through : {A B C : Type 0} (f : B → C) (g : A → B) (h : A → C) → ((x : A) → f (g x) ≡ h x) → (xs : List A) → map f (map g xs) ≡ map h xs
map_through f g h same [] = refl
map_through f g h same (x ∷ xs) = ap (λ y. y ∷ map f (map g xs)) (same x) ∙ ap (λ ys. h x ∷ ys) (map_through f g h same xs)

-- the trees have the names of what they are seen as
pub names_of : (units : List trees.UnitTree) → map (λ u. u.name) (views units) ≡ map (λ u. u.name) units
names_of units = map_through (λ u. u.name) view_unit (λ u. u.name) (λ u. refl) units

-- the table in the words of the trees
pub table_of : (units : List trees.UnitTree) → map (λ u. map (λ v. needs_unit (view_unit u) v.name) units) units ≡ need_table (views units)
table_of units =
    sym (map_through (λ u. map (λ v. needs_unit u v.name) (views units)) view_unit (λ u. map (λ v. needs_unit (view_unit u) v.name) units)
    (λ u. map_through (λ v. needs_unit (view_unit u) v.name) view_unit (λ v. needs_unit (view_unit u) v.name) (λ v. refl) units) units)

-- the positions of a row are within it
pub positions_inside : (at : ℕ) (row : List Bool) → All (λ p. p < at + length row) (positions_from at row)
positions_inside at [] = All-nil (λ p. p < at + 0)
positions_inside at (true ∷ row) =
    All-cons (λ p. p < at + suc (length row)) at (positions_from (at + 1) row) (omega arith)
    (All-weaker (λ p. p < at + 1 + length row) (λ p. p < at + suc (length row)) (λ p h. omega (arith, h)) (positions_from (at + 1) row)
    (positions_inside (at + 1) row))
positions_inside at (false ∷ row) = All-weaker (λ p. p < at + 1 + length row) (λ p. p < at + suc (length row)) (λ p h. omega (arith, h))
    (positions_from (at + 1) row) (positions_inside (at + 1) row)

-- no position before the first is among them
none_before : (at p : ℕ) (row : List Bool) → p < at → list_any (nat_eq p) (positions_from at row) ≡ false
none_before at p [] lt = refl
none_before at p (true ∷ row) lt = ap (λ b. b || list_any (nat_eq p) (positions_from (at + 1) row)) (ne_eqb p at (λ e. omega (arith, e, lt)))
    ∙ none_before (at + 1) p row (omega (arith, lt))
none_before at p (false ∷ row) lt = none_before (at + 1) p row (omega (arith, lt))

-- a position is among them exactly if the row says so
pub positions_exact : (at p : ℕ) (row : List Bool) → list_any (nat_eq (at + p)) (positions_from at row) ≡ get_or row p false
positions_exact at p [] = refl
positions_exact at zero (true ∷ row) = or_left _ _ (eq-eqb (at + 0) at (omega arith))
positions_exact at zero (false ∷ row) = none_before (at + 1) (at + 0) row (omega arith)
positions_exact at (suc p) (true ∷ row) =
    ap (λ b. b || list_any (nat_eq (at + suc p)) (positions_from (at + 1) row)) (ne_eqb (at + suc p) at (λ e. omega (arith, e)))
    ∙ ap (λ q. list_any (nat_eq q) (positions_from (at + 1) row)) (moved at p) ∙ positions_exact (at + 1) p row
  where
    moved : (at p : ℕ) → at + suc p ≡ at + 1 + p
    moved at p = omega arith
positions_exact at (suc p) (false ∷ row) = ap (λ q. list_any (nat_eq q) (positions_from (at + 1) row)) (moved at p) ∙ positions_exact (at + 1) p row
  where
    moved : (at p : ℕ) → at + suc p ≡ at + 1 + p
    moved at p = omega arith

-- the row of a unit in the table
pub table_row : (us : List UnitTree) (i : ℕ) → i < length us → get_or (need_table us) i [] ≡ map (λ v. needs_unit (unit_at us i) v.name) us
table_row us i lt = get_or-map (λ u. map (λ v. needs_unit u v.name) us) us i blank [] lt

-- the list of a unit has the positions in its row
pub list_at : (us : List UnitTree) (i : ℕ) → i < length us → get_or (map (positions_from 0) (need_table us)) i [] ≡ positions_from 0
    (map (λ v. needs_unit (unit_at us i) v.name) us)
list_at us i lt = get_or-map (positions_from 0) (need_table us) i [] [] (omega (arith, lt, length-map us (λ u. map (λ v. needs_unit u v.name) us)))
    ∙ ap (positions_from 0) (table_row us i lt)

-- there is a list for each unit
pub list_count : (us : List UnitTree) → length (map (positions_from 0) (need_table us)) ≡ length us
list_count us = length-map (need_table us) (positions_from 0) ∙ length-map us (λ u. map (λ v. needs_unit u v.name) us)

-- each item of the list of a unit is the position of a unit
pub list_inside : (us : List UnitTree) → All (All (λ at. at < length us)) (map (positions_from 0) (need_table us))
list_inside us = λ i d lt.
    let within : i < length us = omega (arith, lt, list_count us) in
    let row = map (λ v. needs_unit (unit_at us i) v.name) us in
    let width : length row ≡ length us = length-map us (λ v. needs_unit (unit_at us i) v.name) in
    subst (All (λ at. at < length us)) (sym (get_or_default (map (positions_from 0) (need_table us)) i d [] lt ∙ list_at us i within))
    (All-weaker (λ p. p < 0 + length row) (λ p. p < length us) (λ p h. omega (arith, h, width)) (positions_from 0 row) (positions_inside 0 row))

pub table_needs : (us : List UnitTree) → AreNeeds us (map (positions_from 0) (need_table us))
table_needs us = record {
  size = list_count us;
  inside = list_inside us;
  exact = λ i j lt within.
      ap (λ l. list_any (nat_eq j) l) (list_at us i lt)
      ∙ ap (λ q. list_any (nat_eq q) (positions_from 0 (map (λ v. needs_unit (unit_at us i) v.name) us))) (from_zero j)
      ∙ positions_exact 0 j (map (λ v. needs_unit (unit_at us i) v.name) us)
      ∙ get_or-map (λ v. needs_unit (unit_at us i) v.name) us j blank false within;
}
  where
    from_zero : (j : ℕ) → j ≡ 0 + j
    from_zero j = omega arith

-- one more entry of the row is gone through
pub positions_more : (row : List Bool) (list whole : List ℕ) (at : ℕ) → at < length row → list ++ positions_from at (drop at row) ≡ whole
    → cond (get_or row at false) (list ++ at ∷ []) list ++ positions_from (at + 1) (drop (at + 1) row) ≡ whole
positions_more row list whole at lt is = by (get_or row at false) (ap (λ r. list ++ positions_from at r) (sym (drop_more row at false lt)) ∙ is)
  where
    by : (b : Bool) → list ++ cond b (at ∷ positions_from (at + 1) (drop (at + 1) row)) (positions_from (at + 1) (drop (at + 1) row)) ≡ whole
        → cond b (list ++ at ∷ []) list ++ positions_from (at + 1) (drop (at + 1) row) ≡ whole
    by true h = append_assoc list (at ∷ []) (positions_from (at + 1) (drop (at + 1) row)) ∙ h
    by false h = h

none_more : (n : ℕ) → 0 + n ≡ n
none_more n = omega arith

-- a list is as long as its row has needs
pub positions_many : (at : ℕ) (row : List Bool) → length (positions_from at row) ≡ count_by (λ needed. needed) row
positions_many at [] = refl
positions_many at (true ∷ row) = omega (arith, positions_many (at + 1) row, sum_by-cons (λ (needed : Bool). cond needed 1 0) true row)
positions_many at (false ∷ row) = positions_many (at + 1) row
    ∙ sym (sum_by-cons (λ (needed : Bool). cond needed 1 0) false row ∙ none_more (count_by (λ needed. needed) row))

-- no position before the first is counted there
not_before : (at p : ℕ) (row : List Bool) → p < at → count_by (nat_eq p) (positions_from at row) ≡ 0
not_before at p [] lt = refl
not_before at p (true ∷ row) lt =
    sum_by-cons (λ q. cond (nat_eq p q) 1 0) at (positions_from (at + 1) row)
    ∙ ap (λ b. cond b 1 0 + count_by (nat_eq p) (positions_from (at + 1) row)) (ne_eqb p at (λ e. omega (arith, e, lt)))
    ∙ none_more (count_by (nat_eq p) (positions_from (at + 1) row)) ∙ not_before (at + 1) p row (omega (arith, lt))
not_before at p (false ∷ row) lt = not_before (at + 1) p row (omega (arith, lt))

-- a position is among them once if the row says so, and else never
pub positions_once : (at p : ℕ) (row : List Bool) → count_by (nat_eq (at + p)) (positions_from at row) ≡ cond (get_or row p false) 1 0
positions_once at p [] = refl
positions_once at zero (true ∷ row) =
    sum_by-cons (λ q. cond (nat_eq (at + 0) q) 1 0) at (positions_from (at + 1) row)
    ∙ ap (λ b. cond b 1 0 + count_by (nat_eq (at + 0)) (positions_from (at + 1) row)) (eq-eqb (at + 0) at (omega arith))
    ∙ ap (λ n. 1 + n) (not_before (at + 1) (at + 0) row (omega arith))
positions_once at zero (false ∷ row) = not_before (at + 1) (at + 0) row (omega arith)
positions_once at (suc p) (true ∷ row) =
    sum_by-cons (λ q. cond (nat_eq (at + suc p) q) 1 0) at (positions_from (at + 1) row)
    ∙ ap (λ b. cond b 1 0 + count_by (nat_eq (at + suc p)) (positions_from (at + 1) row)) (ne_eqb (at + suc p) at (λ e. omega (arith, e)))
    ∙ none_more (count_by (nat_eq (at + suc p)) (positions_from (at + 1) row))
    ∙ ap (λ q. count_by (nat_eq q) (positions_from (at + 1) row)) (moved at p) ∙ positions_once (at + 1) p row
  where
    moved : (at p : ℕ) → at + suc p ≡ at + 1 + p
    moved at p = omega arith
positions_once at (suc p) (false ∷ row) = ap (λ q. count_by (nat_eq q) (positions_from (at + 1) row)) (moved at p) ∙ positions_once (at + 1) p row
  where
    moved : (at p : ℕ) → at + suc p ≡ at + 1 + p
    moved at p = omega arith

-- a unit needs another once or not at all
pub needed_once : (us : List UnitTree) (i j : ℕ) → i < length us → j < length us → times (map (positions_from 0) (need_table us)) i j ≡ cond
    (needs_unit (unit_at us i) (unit_at us j).name) 1 0
needed_once us i j lt within =
    ap (count_by (nat_eq j)) (list_at us i lt)
    ∙ ap (λ q. count_by (nat_eq q) (positions_from 0 (map (λ v. needs_unit (unit_at us i) v.name) us))) (from_zero j)
    ∙ positions_once 0 j (map (λ v. needs_unit (unit_at us i) v.name) us)
    ∙ ap (λ b. cond b 1 0) (get_or-map (λ v. needs_unit (unit_at us i) v.name) us j blank false within)
  where
    from_zero : (j : ℕ) → j ≡ 0 + j
    from_zero j = omega arith

-- what holds of all that these lists are seen as holds of each list
pub All-from_map : {A B : Type 0} (P : B → Type 0) (f : A → B) (e : B) (xs : List A) → All P (map f xs) → All (λ x. P (f x)) xs
All-from_map P f e xs all = λ k d lt. subst P (get_or-map f xs k d e lt) (all k e (omega (arith, lt, length-map xs f)))

-- no list is longer than there are units
pub list_short : (us : List UnitTree) → All (λ list. length list ≤ length us) (map (positions_from 0) (need_table us))
list_short us = λ i d lt.
    let within : i < length us = omega (arith, lt, list_count us) in
    let row = map (λ v. needs_unit (unit_at us i) v.name) us in
    let short : length (positions_from 0 row) ≤ length us =
    omega (arith, positions_many 0 row, count_by-le-length (λ (needed : Bool). needed) row, length-map us (λ v. needs_unit (unit_at us i) v.name))
    in
    subst (λ (list : List ℕ). length list ≤ length us) (sym (get_or_default (map (positions_from 0) (need_table us)) i d [] lt ∙ list_at us i within))
    short
