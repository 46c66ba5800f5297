-- The FILE of each SOURCE, and the folder that the entries of a list give.
use Rattle.std.proofs.Common.{◌≡◌, ℕ, Bool, true, false, cond, List, [], ◌∷◌, Option, Some, None, is_some, option_map, String, Global, map}
use Rattle.std.proofs.Common.{string_bytes, refl, sym, ap, ◌∙◌}
use Rattle.std.specs.Option.{option_and_then}
use Rattle.std.specs.List.{list_any}
use Rattle.std.specs.Map.{lookup, update}
use Rattle.std.specs.BTreeMap as tree
use Rattle.std.specs.String.{string_cmp}
use Rattle.std.specs.Ordering.{nat_cmp}
use Rattle.std.specs.Cmp.Lexicographic.{slice_cmp, nat_list_cmp_total, nat_list_eq_equiv}
use Rattle.std.specs.FinMap.{empty, entries, entries_sorted, find, get, get-empty, get-entries, get-from_entries, get-remove, insert, keys, same_map}
use Rattle.std.specs.FinMap.{slice_cmp-IsAntisymmetric, nat_cmp-IsAntisymmetric}
use Rattle.std.specs.Str.{bytes_eq}
use Rattle.std.proofs.lemmas.Map.Text.{is_eq-slice_cmp}
use Rattle.tree_io.specs.Outside.{FileMap}
use Rattle.project_load.specs.Entries.{AreHeld, given_by, given_of, set_at, table_of}
use Rattle.project_load.specs.declared.entries.Entries.{Entries}
use Rattle.project_load.proofs.Kept.{ordered_map}
use Rattle.project_load.proofs.Keys.{get_written}
use Rattle.project_load.proofs.Sorted.{held_name, keys_rise, same_words}

same_files : (a b : FileMap) → ((q : List ℕ) → get a q ≡ get b q) → a ≡ b
same_files a b h = same_map nat_list_cmp_total (slice_cmp-IsAntisymmetric nat_cmp-IsAntisymmetric) a b h

-- ---- the folder that entries give

set_found : (files : FileMap) (name : List ℕ) (o : Option (List ℕ)) (q : List ℕ)
    → get (set_at files name o) q ≡ cond (bytes_eq q name) o (get files q)
set_found files name None q = get-remove nat_list_cmp_total files name q ∙ ap (λ (b : Bool). cond b None (get files q)) (is_eq-slice_cmp q name)
set_found files name (Some bytes) q = get_written files name bytes q

found_of : (held : FileMap) (es : List (List ℕ × List ℕ)) (q : List ℕ)
    → get (given_of held es) q ≡ option_and_then (get held) (find (slice_cmp nat_cmp) q es)
found_of held [] q = get-empty (slice_cmp nat_cmp) q
found_of held (e ∷ es) q =
    set_found (given_of held es) e.0 (get held e.1) q ∙ by (bytes_eq q e.0) (found_of held es q)
    ∙ ap (λ (b : Bool). option_and_then (get held) (cond b (Some e.1) (find (slice_cmp nat_cmp) q es))) (sym (is_eq-slice_cmp q e.0))
  where
    by : (b : Bool) → get (given_of held es) q ≡ option_and_then (get held) (find (slice_cmp nat_cmp) q es)
        → cond b (get held e.1) (get (given_of held es) q) ≡ option_and_then (get held) (cond b (Some e.1) (find (slice_cmp nat_cmp) q es))
    by true rest = refl
    by false rest = rest

-- under a SOURCE the bytes of its FILE
pub given_get : (held table : FileMap) (q : List ℕ) → get (given_by held table) q ≡ option_and_then (get held) (get table q)
given_get held table q = found_of held (entries table) q ∙ ap (option_and_then (get held)) (sym (get-entries table q))

pub given_empty : (held table : FileMap) → table ≡ empty → given_by held table ≡ empty
given_empty held table e =
    same_files (given_by held table) empty (λ q. given_get held table q ∙ ap (λ (t : FileMap). option_and_then (get held) (get t q)) e
    ∙ ap (option_and_then (get held)) (get-empty (slice_cmp nat_cmp) q) ∙ sym (get-empty (slice_cmp nat_cmp) q))

-- one more entry, whose FILE is in the folder
pub given_more : (held table : FileMap) (source file bytes : List ℕ) → get held file ≡ Some bytes
    → given_by held (insert table source file) ≡ insert (given_by held table) source bytes
given_more held table source file bytes there =
    same_files (given_by held (insert table source file)) (insert (given_by held table) source bytes)
    (λ q. given_get held (insert table source file) q ∙ ap (option_and_then (get held)) (get_written table source file q) ∙ by q (bytes_eq q source)
    ∙ sym (get_written (given_by held table) source bytes q))
  where
    by : (q : List ℕ) (b : Bool) → option_and_then (get held) (cond b (Some file) (get table q)) ≡ cond b (Some bytes) (get (given_by held table) q)
    by q true = there
    by q false = sym (given_get held table q)

-- ---- the names of a folder

same_keys : (a b : FileMap) → ((q : List ℕ) → is_some (get a q) ≡ is_some (get b q)) → keys a ≡ keys b
same_keys a b h =
    same_words (keys a) (keys b) (keys_rise (entries a) (entries_sorted a)) (keys_rise (entries b) (entries_sorted b))
    (λ w. held_name a w ∙ h w ∙ sym (held_name b w))

-- each FILE is in the folder, so the folder that is given has each SOURCE
pub given_keys : (held table : FileMap) → AreHeld held table → keys (given_by held table) ≡ keys table
given_keys held table there = same_keys (given_by held table) table (λ q. ap is_some (given_get held table q) ∙ by q (get table q) refl) where
  by : (q : List ℕ) (o : Option (List ℕ)) → get table q ≡ o → is_some (option_and_then (get held) o) ≡ is_some o
  by q None e = refl
  by q (Some file) e = there q file e

-- ---- entries as a map of texts

abbrev bytes_of : List (String Global × String Global) → List (List ℕ × List ℕ)
bytes_of es = map (λ e. (string_bytes e.0, string_bytes e.1)) es

abbrev at_text : List ℕ → String Global → Bool
at_text q key = tree.is_at (λ k. slice_cmp nat_cmp q (string_bytes k)) key

texts_found : (es : List (String Global × String Global)) (q : List ℕ)
    → find (slice_cmp nat_cmp) q (bytes_of es) ≡ option_map string_bytes (lookup (at_text q) es)
texts_found [] q = refl
texts_found (e ∷ es) q = by (bytes_eq q (string_bytes e.0)) (is_eq-slice_cmp q (string_bytes e.0)) (texts_found es q) where
  by : (b : Bool) → at_text q e.0 ≡ b → find (slice_cmp nat_cmp) q (bytes_of es) ≡ option_map string_bytes (lookup (at_text q) es)
      → find (slice_cmp nat_cmp) q (bytes_of (e ∷ es)) ≡ option_map string_bytes (lookup (at_text q) (e ∷ es))
  by true t rest = rw t refl
  by false t rest = rw t rest

-- the FILE of a SOURCE
pub table_get : (list : Entries) (q : List ℕ) → get (table_of list) q ≡ option_map string_bytes (tree.get_by_text list.files q)
table_get list q =
    get-from_entries nat_list_cmp_total (bytes_of list.files.entries) q ∙ texts_found list.files.entries q

-- one more entry
pub table_more : (a b : Entries) (source file : List ℕ) (value : String Global) → string_bytes value ≡ file
    → ((cs : List ℕ) → tree.get_by_text b.files cs ≡ update bytes_eq (tree.get_by_text a.files) source (Some value) cs)
    → table_of b ≡ insert (table_of a) source file
table_more a b source file value is h =
    same_files (table_of b) (insert (table_of a) source file) (λ q. table_get b q ∙ ap (option_map string_bytes) (h q)
    ∙ ap (λ (t : Bool). option_map string_bytes (cond t (Some value) (tree.get_by_text a.files q))) (nat_list_eq_equiv.symm source q)
    ∙ by q (bytes_eq q source)
    ∙ sym (get_written (table_of a) source file q))
  where
    by : (q : List ℕ) (t : Bool)
        → option_map string_bytes (cond t (Some value) (tree.get_by_text a.files q)) ≡ cond t (Some file) (get (table_of a) q)
    by q true = ap (λ (v : List ℕ). Some v) is
    by q false = sym (table_get a q)

texts_keyed : (es : List (String Global × String Global)) (q : List ℕ)
    → is_some (option_map string_bytes (lookup (at_text q) es)) ≡ list_any (bytes_eq q) (map string_bytes (map (λ e. e.0) es))
texts_keyed [] q = refl
texts_keyed (e ∷ es) q = by (bytes_eq q (string_bytes e.0)) (is_eq-slice_cmp q (string_bytes e.0)) refl (texts_keyed es q) where
  by : (b : Bool) → at_text q e.0 ≡ b → bytes_eq q (string_bytes e.0) ≡ b
      → is_some (option_map string_bytes (lookup (at_text q) es)) ≡ list_any (bytes_eq q) (map string_bytes (map (λ e. e.0) es))
      → is_some (option_map string_bytes (lookup (at_text q) (e ∷ es))) ≡ list_any (bytes_eq q) (map string_bytes (map (λ e. e.0) (e ∷ es)))
  by true t u rest = rw (t, u) refl
  by false t u rest = rw (t, u) rest

-- the SOURCES in byte order
pub table_keys : (list : Entries) → tree.IsOrdered string_cmp list.files → keys (table_of list) ≡ map string_bytes (tree.keys list.files)
table_keys list h =
    same_words (keys (table_of list)) (map string_bytes (tree.keys list.files)) (keys_rise (entries (table_of list)) (entries_sorted (table_of list)))
    (ordered_map string_bytes (slice_cmp nat_cmp) (tree.keys list.files) h)
    (λ w. held_name (table_of list) w ∙ ap is_some (table_get list w) ∙ texts_keyed list.files.entries w)
