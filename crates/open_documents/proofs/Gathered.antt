-- The documents of a folder, name by name.
use Rattle.std.proofs.Common.{◌≡◌, ℕ, Bool, true, false, ◌&&◌, cond, List, [], ◌∷◌, Option, Some, None, MutBor, String, is_some, map, string_bytes}
use Rattle.std.proofs.Math.Dec.{T}
use Rattle.std.proofs.Common.{refl, sym, ap, ◌∙◌}
use Rattle.std.specs.Map.{lookup, update}
use Rattle.std.specs.List.{AllByRecursion, list_all, list_any, slice_get}
use Rattle.std.specs.List.Sorted.{IsStrictlySortedBy}
use Rattle.std.specs.declared.cmp.Ordering.{Ordering}
use Rattle.std.specs.declared.cmp.Ordering.TheVariants.{Less, Equal, Greater}
use Rattle.std.specs.Option.{option_copied_mut}
use Rattle.std.specs.BTreeMap as tree
use Rattle.std.specs.String.{string_cmp, string_cmp_total}
use Rattle.std.specs.Ordering.{eq_by_cmp, is_lt, nat_cmp}
use Rattle.std.specs.Cmp.Lexicographic.{slice_cmp, nat_list_cmp_total, nat_list_eq_equiv}
use Rattle.std.specs.FinMap.{contains_key-keys, entries, entries_sorted, get, get-empty, get-insert, get-remove, insert, is_sorted, keys, remove}
use Rattle.std.specs.FinMap.{same_map}
use Rattle.std.specs.FinMap.{slice_cmp-IsAntisymmetric, nat_cmp-IsAntisymmetric}
use Rattle.std.specs.FinMap.Entries.{below_all}
use Rattle.std.specs.Str.{bytes_eq}
use Rattle.std.specs.declared.alloc.Global.{Global}
use Rattle.std.proofs.lemmas.Map.Text.{is_eq-slice_cmp}
use Rattle.std.proofs.lemmas.Bool.{and_parts}
use Rattle.std.proofs.lemmas.Map.Entries.{btree_map_get_place}
use Rattle.project_load.proofs.Kept.{ordered_map}
use Rattle.project_load.proofs.Sorted.{same_words}
use Rattle.open_documents.specs.Document.{is_known}
use Rattle.open_documents.specs.Documents.{DocumentMap, documents, gathered}
use Rattle.open_documents.specs.declared.document.Document.{Document}
use Rattle.open_documents.specs.declared.documents.Documents.{Documents}

pub same_documents : (a b : DocumentMap) → ((q : List ℕ) → get a q ≡ get b q) → a ≡ b
same_documents a b h = same_map nat_list_cmp_total (slice_cmp-IsAntisymmetric nat_cmp-IsAntisymmetric) a b h

abbrev pub at_text : List ℕ → String Global → Bool
at_text q key = tree.is_at (λ k. slice_cmp nat_cmp q (string_bytes k)) key

pub gathered_get : (es : List (String Global × Document)) (q : List ℕ) → get (gathered es) q ≡ lookup (at_text q) es
gathered_get [] q = get-empty (slice_cmp nat_cmp) q
gathered_get (e ∷ es) q =
    get-insert nat_list_cmp_total (gathered es) (string_bytes e.0) e.1 q
    ∙ ap (cond (at_text q e.0) (Some e.1)) (gathered_get es q)

-- the document of a name
pub documents_get : (held : Documents) (q : List ℕ) → get (documents held) q ≡ tree.get_by_text held.held q
documents_get held q = gathered_get held.held.entries q

pub get_set : (map : DocumentMap) (name : List ℕ) (document : Document) (q : List ℕ)
    → get (insert map name document) q ≡ cond (bytes_eq q name) (Some document) (get map q)
get_set map name document q =
    get-insert nat_list_cmp_total map name document q ∙ ap (λ (b : Bool). cond b (Some document) (get map q)) (is_eq-slice_cmp q name)

pub get_removed : (map : DocumentMap) (name q : List ℕ) → get (remove map name) q ≡ cond (bytes_eq q name) None (get map q)
get_removed map name q = get-remove nat_list_cmp_total map name q ∙ ap (λ (b : Bool). cond b None (get map q)) (is_eq-slice_cmp q name)

-- ---- one document changes

module _ (a b : List (String Global × Document)) (name : List ℕ) (w : Option Document)
    (sets : (cs : List ℕ) → lookup (at_text cs) b ≡ update bytes_eq (λ (q : List ℕ). lookup (at_text q) a) name w cs) where
  found : (q : List ℕ) → get (gathered b) q ≡ cond (bytes_eq q name) w (get (gathered a) q)
  found q =
      gathered_get b q ∙ sets q ∙ ap (λ (t : Bool). cond t w (lookup (at_text q) a)) (nat_list_eq_equiv.symm name q)
      ∙ ap (cond (bytes_eq q name) w) (sym (gathered_get a q))

  pub gathered_set : (document : Document) → w ≡ Some document → gathered b ≡ insert (gathered a) name document
  gathered_set document is =
      same_documents (gathered b) (insert (gathered a) name document)
      (λ q. found q ∙ ap (λ (v : Option Document). cond (bytes_eq q name) v (get (gathered a) q)) is ∙ sym (get_set (gathered a) name document q))

  pub gathered_removed : w ≡ None → gathered b ≡ remove (gathered a) name
  gathered_removed is =
      same_documents (gathered b) (remove (gathered a) name)
      (λ q. found q ∙ ap (λ (v : Option Document). cond (bytes_eq q name) v (get (gathered a) q)) is ∙ sym (get_removed (gathered a) name q))

-- ---- all texts are known

known_entry : (es : List (String Global × Document)) (q : List ℕ) (document : Document)
    → list_all (λ (e : String Global × Document). is_known e.1) es ≡ true → lookup (at_text q) es ≡ Some document → is_known document ≡ true
known_entry [] q document all found = cc
known_entry (e ∷ es) q document all found =
    let parts = and_parts (is_known e.1) _ all in
    by (at_text q e.0) parts.0 (known_entry es q document parts.1) found
  where
    by : (b : Bool) → is_known e.1 ≡ true → (lookup (at_text q) es ≡ Some document → is_known document ≡ true)
        → cond b (Some e.1) (lookup (at_text q) es) ≡ Some document → is_known document ≡ true
    by true known rest found = cc
    by false known rest found = rest found

pub all_known : (held : Documents) (q : List ℕ) (document : Document)
    → list_all (λ (e : String Global × Document). is_known e.1) held.held.entries ≡ true → get (documents held) q ≡ Some document
    → is_known document ≡ true
all_known held q document all found = known_entry held.held.entries q document all (sym (gathered_get held.held.entries q) ∙ found)

-- ---- a document that is looked up

-- the document of an entry
pub entry_held : (held : Documents) (i : ℕ) (name : String Global) (document : Document) → tree.IsOrdered string_cmp held.held
    → slice_get held.held.entries i ≡ Some (name, document) → get (documents held) (string_bytes name) ≡ Some document
entry_held held i name document ordered is =
    documents_get held (string_bytes name) ∙ btree_map_get_place string_cmp_total held.held i name document ordered is

pub was_held : (held : Documents) (name : List ℕ) (result : Option (MutBor Document)) (document : MutBor Document)
    → option_copied_mut result ≡ tree.get_by_text held.held name → result ≡ Some document → get (documents held) name ≡ Some document.now
was_held held name result document value is = documents_get held name ∙ sym value ∙ ap option_copied_mut is

pub was_missing : (held : Documents) (name : List ℕ) (result : Option (MutBor Document))
    → option_copied_mut result ≡ tree.get_by_text held.held name → result ≡ None → get (documents held) name ≡ None
was_missing held name result value is = documents_get held name ∙ sym value ∙ ap option_copied_mut is

-- ---- the names

first_of_two : (a b : Bool) → T (a && b) → T a
first_of_two true b p = tt
first_of_two false b p = p

second_of_two : (a b : Bool) → T (a && b) → T b
second_of_two true b p = p
second_of_two false b p = absurd p

is_less : (o : Ordering) → T (is_lt o) → o ≡ Less
is_less Less p = refl
is_less Equal p = absurd p
is_less Greater p = absurd p

below_names : (k : List ℕ) (es : List (List ℕ × Document)) → T (below_all (slice_cmp nat_cmp) k es)
    → AllByRecursion (λ y. slice_cmp nat_cmp k y ≡ Less) (map (λ e. e.0) es)
below_names k [] h = tt
below_names k (e ∷ es) h = (is_less _ (first_of_two _ _ h), below_names k es (second_of_two _ _ h))

names_rise : (es : List (List ℕ × Document)) → T (is_sorted (slice_cmp nat_cmp) es) → IsStrictlySortedBy (slice_cmp nat_cmp) (map (λ e. e.0) es)
unfolding IsStrictlySortedBy
names_rise [] h = tt
names_rise (e ∷ es) h = (below_names e.0 es (first_of_two _ _ h), names_rise es (second_of_two _ _ h))

any_same : (p q : List ℕ → Bool) (xs : List (List ℕ)) → ((w : List ℕ) → p w ≡ q w) → list_any p xs ≡ list_any q xs
any_same p q [] h = refl
any_same p q (x ∷ xs) h = rw (h x, any_same p q xs h) refl

pub held_name : (map : DocumentMap) (w : List ℕ) → list_any (bytes_eq w) (keys map) ≡ is_some (get map w)
held_name map w = any_same (bytes_eq w) (eq_by_cmp (slice_cmp nat_cmp) w) (keys map) (λ x. sym (is_eq-slice_cmp w x))
    ∙ sym (contains_key-keys map w)

texts_keyed : (es : List (String Global × Document)) (q : List ℕ)
    → is_some (lookup (at_text q) es) ≡ list_any (bytes_eq q) (map string_bytes (map (λ e. e.0) es))
texts_keyed [] q = refl
texts_keyed (e ∷ es) q = by (bytes_eq q (string_bytes e.0)) (is_eq-slice_cmp q (string_bytes e.0)) refl (texts_keyed es q) where
  by : (b : Bool) → at_text q e.0 ≡ b → bytes_eq q (string_bytes e.0) ≡ b
      → is_some (lookup (at_text q) es) ≡ list_any (bytes_eq q) (map string_bytes (map (λ e. e.0) es))
      → is_some (lookup (at_text q) (e ∷ es)) ≡ list_any (bytes_eq q) (map string_bytes (map (λ e. e.0) (e ∷ es)))
  by true t u rest = rw (t, u) refl
  by false t u rest = rw (t, u) rest

-- in byte order
pub held_keys : (held : Documents) → tree.IsOrdered string_cmp held.held → keys (documents held) ≡ map string_bytes (tree.keys held.held)
held_keys held h =
    same_words (keys (documents held)) (map string_bytes (tree.keys held.held))
    (names_rise (entries (documents held)) (entries_sorted (documents held)))
    (ordered_map string_bytes (slice_cmp nat_cmp) (tree.keys held.held) h)
    (λ w. held_name (documents held) w ∙ ap is_some (documents_get held w) ∙ texts_keyed held.held.entries w)
