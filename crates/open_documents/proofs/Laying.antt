-- A folder with the texts of documents in place of its files, name by name.
use Rattle.std.proofs.Common.{◌≡◌, ℕ, ◌≤◌, Bool, true, false, cond, ◌||◌, List, [], ◌∷◌, Option, Some, None, is_some, option_map, take}
use Rattle.std.proofs.Common.{IsPermutation, IfSome, IsNone, IsSome, arith, refl, sym, ap, subst, ◌∙◌}
use Rattle.std.specs.Option.{option_or}
use Rattle.std.specs.List.{list_any}
use Rattle.std.specs.List.Sorted.{IsStrictlySortedBy}
use Rattle.std.specs.Ordering.{nat_cmp}
use Rattle.std.specs.Cmp.Lexicographic.{slice_cmp, nat_list_cmp_total}
use Rattle.std.specs.FinMap.{entries, entries_sorted, find, get, get-entries, insert, keys, same_map, slice_cmp-IsAntisymmetric}
use Rattle.std.specs.FinMap.{nat_cmp-IsAntisymmetric}
use Rattle.std.specs.Str.{bytes_eq}
use Rattle.std.proofs.lemmas.Map.Text.{is_eq-slice_cmp}
use Rattle.std.proofs.lemmas.List.Sorted.{list_any-IsPermutation, IsPermutation-refl}
use Rattle.std.proofs.lemmas.Slice.Eq.{bytes_eq-Decides}
use Rattle.tree_io.specs.Outside.{FileMap, IsFront, Spoils}
use Rattle.project_load.proofs.Keys.{get_written}
use Rattle.project_load.proofs.Sorted.{held_name, keys_rise, same_words}
use Rattle.open_documents.proofs.Gathered as documents
use Rattle.open_documents.specs.Document.{text_bytes}
use Rattle.open_documents.specs.Documents.{DocumentMap, laid, set_texts}
use Rattle.open_documents.specs.declared.document.Document.{Document}

pub same_files : (a b : FileMap) → ((q : List ℕ) → get a q ≡ get b q) → a ≡ b
same_files a b h = same_map nat_list_cmp_total (slice_cmp-IsAntisymmetric nat_cmp-IsAntisymmetric) a b h

abbrev pub bytes_of : Option Document → Option (List ℕ)
bytes_of found = option_map (λ (d : Document). text_bytes d.text) found

set_get : (files : FileMap) (es : List (List ℕ × Document)) (q : List ℕ)
    → get (set_texts files es) q ≡ option_or (bytes_of (find (slice_cmp nat_cmp) q es)) (get files q)
set_get files [] q = refl
set_get files (e ∷ es) q =
    get_written (set_texts files es) e.0 (text_bytes e.1.text) q ∙ by (bytes_eq q e.0) (set_get files es q)
    ∙ ap (λ (b : Bool). option_or (bytes_of (cond b (Some e.1) (find (slice_cmp nat_cmp) q es))) (get files q)) (sym (is_eq-slice_cmp q e.0))
  where
    by : (b : Bool) → get (set_texts files es) q ≡ option_or (bytes_of (find (slice_cmp nat_cmp) q es)) (get files q)
        → cond b (Some (text_bytes e.1.text)) (get (set_texts files es) q)
        ≡ option_or (bytes_of (cond b (Some e.1) (find (slice_cmp nat_cmp) q es))) (get files q)
    by true rest = refl
    by false rest = rest

-- the text of the document of a name; if there is none, the file
pub laid_get : (map : DocumentMap) (files : FileMap) (q : List ℕ) → get (laid map files) q ≡ option_or (bytes_of (get map q)) (get files q)
laid_get map files q = set_get files (entries map) q ∙ ap (λ (f : Option Document). option_or (bytes_of f) (get files q)) (sym (get-entries map q))

-- ---- the names

either : (found : Option Document) (file : Option (List ℕ)) → is_some (option_or (bytes_of found) file) ≡ (is_some file || is_some found)
either None None = refl
either None (Some bytes) = refl
either (Some document) None = refl
either (Some document) (Some bytes) = refl

-- names in strict order that are those of the folder and of the documents are those of the folder with the documents
names_are : (map : DocumentMap) (files : FileMap) (listed all : List (List ℕ)) → IsPermutation (keys files) listed
    → IsStrictlySortedBy (slice_cmp nat_cmp) all
    → ((test : List ℕ → Bool) → list_any test all ≡ (list_any test listed || list_any test (keys map)))
    → keys (laid map files) ≡ all
names_are map files listed all moved order same =
    same_words (keys (laid map files)) all (keys_rise (entries (laid map files)) (entries_sorted (laid map files))) order
    (λ w. held_name (laid map files) w ∙ ap is_some (laid_get map files w) ∙ either (get map w) (get files w)
    ∙ ap (λ (b : Bool). b || is_some (get map w)) (sym (held_name files w) ∙ list_any-IsPermutation (bytes_eq w) (keys files) listed moved)
    ∙ ap (λ (b : Bool). list_any (bytes_eq w) listed || b) (sym (documents.held_name map w))
    ∙ sym (same (bytes_eq w)))

pub names_laid : (map : DocumentMap) (content : Option FileMap) (listed more all : List (List ℕ))
    → IfSome content (λ files. IsPermutation (keys files) listed) → more ≡ keys map → IsStrictlySortedBy (slice_cmp nat_cmp) all
    → ((test : List ℕ → Bool) → list_any test all ≡ (list_any test listed || list_any test more))
    → IfSome (option_map (laid map) content) (λ files. IsPermutation (keys files) all)
names_laid map None listed more all moved is order same = tt
names_laid map (Some files) listed more all moved is order same =
    subst (λ (names : List (List ℕ)). IsPermutation names all)
    (sym (names_are map files listed all moved order (λ test. same test ∙ ap (λ (ks : List (List ℕ)). list_any test listed || list_any test ks) is)))
    (IsPermutation-refl all)

-- ---- a document, or a file

front_of : (limit : ℕ) (bytes : List ℕ) (document : Document) → bytes ≡ take limit (text_bytes document.text)
    → IsFront limit (Some (text_bytes document.text)) bytes
front_of limit bytes document is = ap (λ (b : List ℕ). Some b) (sym is)

-- the text of a document
pub laid_front : (map : DocumentMap) (content : Option FileMap) (name bytes : List ℕ) (limit : ℕ) (document : Document) → get map name ≡ Some document
    → bytes ≡ take limit (text_bytes document.text) → IfSome (option_map (laid map) content) (λ files. IsFront limit (get files name) bytes)
laid_front map None name bytes limit document held is = tt
laid_front map (Some files) name bytes limit document held is =
    subst (λ (f : Option (List ℕ)). IsFront limit f bytes)
    (sym (laid_get map files name ∙ ap (λ (d : Option Document). option_or (bytes_of d) (get files name)) held)) (front_of limit bytes document is)

-- a name without a document has its file
pub laid_file : (map : DocumentMap) (files : FileMap) (name : List ℕ) → get map name ≡ None → get (laid map files) name ≡ get files name
laid_file map files name none = laid_get map files name ∙ ap (λ (d : Option Document). option_or (bytes_of d) (get files name)) none

pub laid_read : (map : DocumentMap) (content : Option FileMap) (name bytes : List ℕ) (limit : ℕ) → get map name ≡ None
    → IfSome content (λ files. IsFront limit (get files name) bytes)
    → IfSome (option_map (laid map) content) (λ files. IsFront limit (get files name) bytes)
laid_read map None name bytes limit none front = tt
laid_read map (Some files) name bytes limit none front =
    subst (λ (f : Option (List ℕ)). IsFront limit f bytes) (sym (laid_file map files name none)) front

-- a file that the folder with the documents has, and that is no document, is in the folder
pub below_there : (map : DocumentMap) (content : Option FileMap) (name : List ℕ) → get map name ≡ None
    → ((files : FileMap) → option_map (laid map) content ≡ Some files → IsSome (get files name))
    → (files : FileMap) → content ≡ Some files → IsSome (get files name)
below_there map content name none there files is =
    ap is_some (sym (laid_file map files name none)) ∙ there (laid map files) (ap (option_map (laid map)) is)

-- ---- a write that is refused

-- a file that is written as it is stays
pub written_same : (files : FileMap) (name bytes : List ℕ) → get files name ≡ Some bytes → insert files name bytes ≡ files
written_same files name bytes there =
    same_files (insert files name bytes) files (λ q. get_written files name bytes q ∙ by q (bytes_eq q name) refl)
  where
    by : (q : List ℕ) (t : Bool) → bytes_eq q name ≡ t → cond t (Some bytes) (get files q) ≡ get files q
    by q true t =
        let is : q ≡ name = (bytes_eq-Decides q name).0 t in
        sym (ap (get files) is ∙ there)
    by q false t = refl

-- where there is no room, a write names a file that is there, and the refused write leaves it as it is
pub spoils_nothing : (content : Option FileMap) (name : List ℕ)
    → ((files : FileMap) → content ≡ Some files → IsNone (get files name) → 1 ≤ 0) → Spoils name content content
spoils_nothing None name placed = ([], refl)
spoils_nothing (Some files) name placed = by (get files name) refl where
  by : (found : Option (List ℕ)) → get files name ≡ found → Spoils name (Some files) (Some files)
  by None is =
      let bad : 1 ≤ 0 = placed files refl (ap is_some is) in
      absurd (omega (arith, bad))
  by (Some bytes) is = (bytes, ap (λ (f : FileMap). Some f) (sym (written_same files name bytes is)))
