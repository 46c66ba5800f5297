-- Reading items one after the other, as a loop does, and what a loop found, as a row.
use Rattle.std.proofs.Common.{◌≡◌, ℕ, suc, ◌-◌, ◌+◌, ◌≤◌, ◌<◌, List, [], ◌∷◌, ◌++◌, Bool, Some, None, map, refl, sym, ap, ◌∙◌, arith}
use Rattle.ml_trees.specs.declared.module.Item.{Item}
use Rattle.ml_trees.specs.declared.module.ModArgument.{ModArgument}
use Rattle.ml_trees.specs.Tok.{Tok}
use Rattle.ml_trees.specs.Tree as pure
use Rattle.ml_trees.specs.View.{view_item, view_mod_argument, items, mod_arguments}
use Rattle.ml_trees.specs.WellFormed.{is_separator}
use Rattle.token_reading.proofs.Turns.{before, before_last}
use Rattle.module_reading.specs.ModReading.{read_mod, read_type, items_of, item_of}

-- ---- what a loop found, as a row

pub arguments_before : (xs : List ModArgument) → before pure.more_mod_argument (map view_mod_argument xs) pure.no_mod_argument ≡ mod_arguments xs
arguments_before [] = refl
arguments_before (x ∷ xs) = ap (pure.more_mod_argument (view_mod_argument x)) (arguments_before xs)

pub items_before : (xs : List Item) → before pure.more_item (map view_item xs) pure.no_item ≡ items xs
items_before [] = refl
items_before (x ∷ xs) = ap (pure.more_item (view_item x)) (items_before xs)

-- ---- one turn of the loop over items

map_last : (xs : List Item) (x : Item) → map view_item (xs ++ x ∷ []) ≡ map view_item xs ++ view_item x ∷ []
map_last [] x = refl
map_last (y ∷ ys) x = ap (λ l. view_item y ∷ l) (map_last ys x)

module _ (d : ℕ) where
  -- what was found, and what is still read
  abbrev pub LeftItems : List pure.Item → ℕ → Bool → List Tok → pure.Items × List Tok → Type 0
  LeftItems found k fresh here whole =
      (before pure.more_item found (items_of (read_mod d) (read_type d) d k fresh here).0, (items_of (read_mod d) (read_type d) d k fresh here).1)
      ≡ whole

  pub item_none : (found : List pure.Item) (n i : ℕ) (fresh : Bool) (here : List Tok) (whole : pure.Items × List Tok) → i < n
      → item_of (read_mod d) (read_type d) d fresh here ≡ None → LeftItems found (n - i) fresh here whole
      → whole ≡ (before pure.more_item found pure.no_item, here)
  unfolding items_of
  item_none found n i fresh here whole lt e k =
      let s : n - i ≡ suc (n - (i + 1)) = omega arith in
      let one : items_of (read_mod d) (read_type d) d (n - i) fresh here ≡ (pure.no_item, here) = rw (s, e) refl in
      sym k ∙ ap (λ (z : pure.Items × List Tok). (before pure.more_item found z.0, z.1)) one

  pub items_end : (found : List pure.Item) (n i : ℕ) (fresh : Bool) (here : List Tok) (whole : pure.Items × List Tok) → n ≤ i
      → LeftItems found (n - i) fresh here whole → whole ≡ (before pure.more_item found pure.no_item, here)
  unfolding items_of
  items_end found n i fresh here whole le k =
      let s : n - i ≡ 0 = omega arith in
      let one : items_of (read_mod d) (read_type d) d (n - i) fresh here ≡ (pure.no_item, here) = rw s refl in
      sym k ∙ ap (λ (z : pure.Items × List Tok). (before pure.more_item found z.0, z.1)) one

  item_on : (found : List pure.Item) (x : pure.Item) (n i : ℕ) (fresh next : Bool) (here after : List Tok) (whole : pure.Items × List Tok) → i < n
      → item_of (read_mod d) (read_type d) d fresh here ≡ Some (x, after) → next ≡ is_separator x → LeftItems found (n - i) fresh here whole
      → LeftItems (found ++ x ∷ []) (n - (i + 1)) next after whole
  unfolding items_of
  item_on found x n i fresh next here after whole lt e q k =
      let s : n - i ≡ suc (n - (i + 1)) = omega arith in
      let m = items_of (read_mod d) (read_type d) d (n - (i + 1)) next after in
      let one : items_of (read_mod d) (read_type d) d (n - i) fresh here ≡ (pure.more_item x m.0, m.1) = rw (s, e, q) refl in
      ap (λ (l : pure.Items). (l, m.1)) (before_last pure.more_item found x m.0)
      ∙ sym (ap (λ (z : pure.Items × List Tok). (before pure.more_item found z.0, z.1)) one) ∙ k

  pub item_pushed : (xs ys : List Item) (x : Item) (n i : ℕ) (fresh next : Bool) (here after : List Tok) (whole : pure.Items × List Tok)
      → ys ≡ xs ++ x ∷ [] → i < n → item_of (read_mod d) (read_type d) d fresh here ≡ Some (view_item x, after) → next ≡ is_separator (view_item x)
      → LeftItems (map view_item xs) (n - i) fresh here whole → LeftItems (map view_item ys) (n - (i + 1)) next after whole
  item_pushed xs ys x n i fresh next here after whole p lt e q k =
      rw (p, map_last xs x) (item_on (map view_item xs) (view_item x) n i fresh next here after whole lt e q k)
