-- A file that is written again keeps its place among the names, and other files keep their bytes.
use Rattle.std.proofs.Common.{◌≡◌, ℕ, Bool, true, false, cond, ◌&&◌, List, [], ◌∷◌, map, Some, None, IsSome, is_some, refl, sym, ap, ◌∙◌}
use Rattle.std.proofs.Math.Dec.{T}
use Rattle.std.specs.declared.cmp.Ordering.{Ordering}
use Rattle.std.specs.declared.cmp.Ordering.TheVariants.{Less, Equal, Greater}
use Rattle.std.specs.Ordering.{nat_cmp, is_eq, is_lt}
use Rattle.std.specs.Cmp.{IsTotalOrder}
use Rattle.std.specs.Cmp.Lexicographic.{slice_cmp, nat_list_cmp_total}
use Rattle.std.specs.FinMap.{get, insert, keys, entries, entries_sorted, entries-insert, get-entries, get-insert, find, put, is_sorted}
use Rattle.std.specs.FinMap.Entries.{below_all}
use Rattle.std.specs.Str.{bytes_eq}
use Rattle.std.proofs.lemmas.Map.Text.{is_eq-slice_cmp}
use Rattle.tree_io.specs.Outside.{FileMap}

first_of_two : (a b : Bool) → T (a && b) → T a
first_of_two true b p = tt
first_of_two false b p = p

second_of_two : (a b : Bool) → T (a && b) → T b
second_of_two true b p = p
second_of_two false b p = absurd p

is_less : (o : Ordering) → T (is_lt o) → o ≡ Less
is_less Less p = refl
is_less Equal p = absurd p
is_less Greater p = absurd p

module _ {K X : Type 0} (R : K → K → Ordering) (o : IsTotalOrder R) where
  not_found : (k y : K) (es : List (K × X)) → R k y ≡ Less → T (below_all R y es) → find R k es ≡ None
  not_found k y [] p h = refl
  not_found k y (e ∷ es) p h =
      let below : R k e.0 ≡ Less = o.trans k y e.0 p (is_less _ (first_of_two _ _ h)) in
      ap (λ r. cond (is_eq r) (Some e.1) (find R k es)) below ∙ not_found k y es p (second_of_two _ _ h)

  -- a new value at a key that is there keeps the keys
  keys_put : (k : K) (v : X) (es : List (K × X)) → T (is_sorted R es) → is_some (find R k es) ≡ true
      → map (λ e. e.0) (put R k v es) ≡ map (λ e. e.0) es
  keys_put k v [] s h = cc
  keys_put k v (e ∷ es) s h = by_order_of (R k e.0) refl (keys_put k v es (second_of_two _ _ s)) where
    by_order_of : (r : Ordering) → R k e.0 ≡ r → (is_some (find R k es) ≡ true → map (λ e. e.0) (put R k v es) ≡ map (λ e. e.0) es)
        → map (λ e. e.0) (put R k v (e ∷ es)) ≡ map (λ e. e.0) (e ∷ es)
    by_order_of Less p rest =
        let none : find R k es ≡ None = not_found k e.0 es p (first_of_two _ _ s) in
        let bad : false ≡ true = sym (ap is_some none) ∙ rw p at h in
        cc
    by_order_of Equal p rest = rw p refl
    by_order_of Greater p rest = rw p (ap (λ (ks : List K). e.0 ∷ ks) (rest (rw p at h)))

-- the names stay if a file that is there is written
pub keys_kept : (files : FileMap) (name bytes : List ℕ) → IsSome (get files name) → keys (insert files name bytes) ≡ keys files
keys_kept files name bytes h =
    ap (map (λ e. e.0)) (entries-insert nat_list_cmp_total files name bytes)
    ∙ keys_put (slice_cmp nat_cmp) nat_list_cmp_total name bytes (entries files) (entries_sorted files)
    (sym (ap is_some (get-entries files name)) ∙ h)

-- a file that was written has its new bytes, and another has its old ones
pub get_written : (files : FileMap) (name bytes q : List ℕ) → get (insert files name bytes) q ≡ cond (bytes_eq q name) (Some bytes) (get files q)
get_written files name bytes q =
    get-insert nat_list_cmp_total files name bytes q ∙ ap (λ (b : Bool). cond b (Some bytes) (get files q)) (is_eq-slice_cmp q name)
