-- What a map from names to bytes has, name by name.
use Rattle.std.proofs.Common.{◌≡◌, ◌≤◌, ℕ, Bool, true, false, cond, List, [], ◌∷◌, Option, Some, None, IsSome, is_some, option_map, String, map}
use Rattle.std.proofs.Common.{string_bytes}
use Rattle.std.proofs.Common.{vec_capacity, MutBor, refl, sym, ap, subst, ◌∙◌, arith}
use Rattle.std.specs.Option.{option_or, option_copied_mut}
use Rattle.std.specs.Map.{lookup, update}
use Rattle.std.specs.List.{list_any}
use Rattle.std.specs.BTreeMap as tree
use Rattle.std.specs.String.{string_cmp}
use Rattle.std.specs.Ordering.{nat_cmp}
use Rattle.std.specs.Cmp.Lexicographic.{slice_cmp, nat_list_eq_equiv, nat_list_cmp_total}
use Rattle.std.specs.FinMap.{empty, entries, entries_sorted, get, get-empty, insert, keys, same_map, slice_cmp-IsAntisymmetric}
use Rattle.std.specs.FinMap.{nat_cmp-IsAntisymmetric}
use Rattle.std.specs.Str.{bytes_eq}
use Rattle.std.specs.declared.alloc.Global.{Global}
use Rattle.std.proofs.lemmas.Map.Text.{is_eq-slice_cmp}
use Rattle.std.proofs.lemmas.Slice.Eq.{bytes_eq-Decides}
use Rattle.tree_io.specs.Outside.{FileMap}
use Rattle.project_load.proofs.Keys.{get_written}
use Rattle.project_load.proofs.Kept.{ordered_map}
use Rattle.project_load.proofs.Sorted.{held_name, keys_rise, same_words}
use Rattle.known.specs.Held.{over, room_or}
use Rattle.known.specs.Seen.{seen_files}
use Rattle.known.specs.declared.held.Held.{Held}
use Rattle.known.specs.declared.seen.Seen.{Seen}

pub same_files : (a b : FileMap) → ((q : List ℕ) → get a q ≡ get b q) → a ≡ b
same_files a b h = same_map nat_list_cmp_total (slice_cmp-IsAntisymmetric nat_cmp-IsAntisymmetric) a b h

abbrev at_text : List ℕ → String Global → Bool
at_text q key = tree.is_at (λ k. slice_cmp nat_cmp q (string_bytes k)) key

abbrev pub bytes_of : Option Held → Option (List ℕ)
bytes_of found = option_map (λ (h : Held). h.bytes.items) found

pub is_some_bytes : (found : Option Held) → is_some (bytes_of found) ≡ is_some found
is_some_bytes None = refl
is_some_bytes (Some held) = refl

-- the file of the map, and if it has none, the one beside it
pub over_get : (beside : FileMap) (es : List (String Global × Held)) (q : List ℕ)
    → get (over beside es) q ≡ option_or (bytes_of (lookup (at_text q) es)) (get beside q)
over_get beside [] q = refl
over_get beside (e ∷ es) q =
    get_written (over beside es) (string_bytes e.0) e.1.bytes.items q
    ∙ by (bytes_eq q (string_bytes e.0)) (is_eq-slice_cmp q (string_bytes e.0)) (over_get beside es q)
  where
    by : (b : Bool) → at_text q e.0 ≡ b → get (over beside es) q ≡ option_or (bytes_of (lookup (at_text q) es)) (get beside q)
        → cond b (Some e.1.bytes.items) (get (over beside es) q) ≡ option_or (bytes_of (lookup (at_text q) (e ∷ es))) (get beside q)
    by true t rest = rw t refl
    by false t rest = rw t rest

or_none : (found : Option (List ℕ)) → option_or found None ≡ found
or_none None = refl
or_none (Some bytes) = refl

-- the bytes that were read under a name
pub seen_get : (seen : Seen) (q : List ℕ) → get (seen_files seen) q ≡ bytes_of (tree.get_by_text seen.files q)
seen_get seen q =
    over_get empty seen.files.entries q ∙ ap (option_or (bytes_of (tree.get_by_text seen.files q))) (get-empty (slice_cmp nat_cmp) q)
    ∙ or_none (bytes_of (tree.get_by_text seen.files q))

-- ---- one file is set

module _ (beside : FileMap) (a b : List (String Global × Held)) (name : List ℕ) (held : Held)
    (sets : (cs : List ℕ) → lookup (at_text cs) b ≡ update bytes_eq (λ (q : List ℕ). lookup (at_text q) a) name (Some held) cs) where
  found : (q : List ℕ) → lookup (at_text q) b ≡ cond (bytes_eq q name) (Some held) (lookup (at_text q) a)
  found q = sets q ∙ ap (λ (t : Bool). cond t (Some held) (lookup (at_text q) a)) (nat_list_eq_equiv.symm name q)

  pub over_set : over beside b ≡ insert (over beside a) name held.bytes.items
  over_set =
      same_files (over beside b) (insert (over beside a) name held.bytes.items)
      (λ q. over_get beside b q ∙ ap (λ (o : Option Held). option_or (bytes_of o) (get beside q)) (found q) ∙ by q (bytes_eq q name)
      ∙ sym (get_written (over beside a) name held.bytes.items q))
    where
      by : (q : List ℕ) (t : Bool) → option_or (bytes_of (cond t (Some held) (lookup (at_text q) a))) (get beside q)
          ≡ cond t (Some held.bytes.items) (get (over beside a) q)
      by q true = refl
      by q false = sym (over_get beside a q)

  -- with no other bytes than before
  pub over_kept : (old : Held) → lookup (at_text name) a ≡ Some old → held.bytes.items ≡ old.bytes.items → over beside b ≡ over beside a
  over_kept old was same =
      same_files (over beside b) (over beside a)
      (λ q. over_get beside b q ∙ ap (λ (o : Option Held). option_or (bytes_of o) (get beside q)) (found q) ∙ by q (bytes_eq q name) refl
      ∙ sym (over_get beside a q))
    where
      by : (q : List ℕ) (t : Bool) → bytes_eq q name ≡ t → option_or (bytes_of (cond t (Some held) (lookup (at_text q) a))) (get beside q)
          ≡ option_or (bytes_of (lookup (at_text q) a)) (get beside q)
      by q true t =
          let is : q ≡ name = (bytes_eq-Decides q name).0 t in
          let there : lookup (at_text q) a ≡ Some old = ap (λ (w : List ℕ). lookup (at_text w) a) is ∙ was in
          rw there (rw same refl)
      by q false t = refl

  -- no name has less room
  pub more_room : (old : Held) → lookup (at_text name) a ≡ Some old → vec_capacity old.bytes ≤ vec_capacity held.bytes → (n : ℕ) (q : List ℕ)
      → room_or n (lookup (at_text q) a) ≤ room_or n (lookup (at_text q) b)
  more_room old was more n q =
      subst (λ (o : Option Held). room_or n (lookup (at_text q) a) ≤ room_or n o) (sym (found q)) (by (bytes_eq q name) refl) where
        by : (t : Bool) → bytes_eq q name ≡ t → room_or n (lookup (at_text q) a) ≤ room_or n (cond t (Some held) (lookup (at_text q) a))
        by true t =
            let is : q ≡ name = (bytes_eq-Decides q name).0 t in
            let there : lookup (at_text q) a ≡ Some old = ap (λ (w : List ℕ). lookup (at_text w) a) is ∙ was in
            subst (λ (o : Option Held). room_or n o ≤ vec_capacity held.bytes) (sym there) more
        by false t = omega arith

-- ---- the names

texts_keyed : (es : List (String Global × Held)) (q : List ℕ)
    → is_some (bytes_of (lookup (at_text q) es)) ≡ list_any (bytes_eq q) (map string_bytes (map (λ e. e.0) es))
texts_keyed [] q = refl
texts_keyed (e ∷ es) q = by (bytes_eq q (string_bytes e.0)) (is_eq-slice_cmp q (string_bytes e.0)) refl (texts_keyed es q) where
  by : (b : Bool) → at_text q e.0 ≡ b → bytes_eq q (string_bytes e.0) ≡ b
      → is_some (bytes_of (lookup (at_text q) es)) ≡ list_any (bytes_eq q) (map string_bytes (map (λ e. e.0) es))
      → is_some (bytes_of (lookup (at_text q) (e ∷ es))) ≡ list_any (bytes_eq q) (map string_bytes (map (λ e. e.0) (e ∷ es)))
  by true t u rest = rw (t, u) refl
  by false t u rest = rw (t, u) rest

-- in byte order
pub seen_keys : (seen : Seen) → tree.IsOrdered string_cmp seen.files → keys (seen_files seen) ≡ map string_bytes (tree.keys seen.files)
seen_keys seen h =
    same_words (keys (seen_files seen)) (map string_bytes (tree.keys seen.files))
    (keys_rise (entries (seen_files seen)) (entries_sorted (seen_files seen)))
    (ordered_map string_bytes (slice_cmp nat_cmp) (tree.keys seen.files) h)
    (λ w. held_name (seen_files seen) w ∙ ap is_some (seen_get seen w) ∙ texts_keyed seen.files.entries w)

-- ---- a name that is looked up for a write

-- the folder has the file, so the look-up finds it
pub is_found : (seen : Seen) (name : List ℕ) (result : Option (MutBor Held)) → option_copied_mut result ≡ tree.get_by_text seen.files name
    → IsSome (get (seen_files seen) name) → IsSome result
is_found seen name None value there =
    let lacks : get (seen_files seen) name ≡ None = seen_get seen name ∙ ap bytes_of (sym value) in
    let bad = sym there ∙ ap is_some lacks in
    cc
is_found seen name (Some held) value there = refl

pub was_found : (seen : Seen) (name : List ℕ) (result : Option (MutBor Held)) (held : MutBor Held)
    → option_copied_mut result ≡ tree.get_by_text seen.files name → result ≡ Some held → tree.get_by_text seen.files name ≡ Some held.now
was_found seen name result held value is = sym value ∙ ap option_copied_mut is
