-- The project in a folder depends on its sources and its manifest alone.
use Rattle.std.proofs.Common.{◌≡◌, ℕ, List, [], ◌∷◌, ◌++◌, Bool, true, false, ◌&&◌, ◌||◌, cond, Option, Some, option_map, filter, codes, refl, sym}
use Rattle.std.proofs.Common.{ap, subst, ◌∙◌}
use Rattle.std.specs.Option.{is_some}
use Rattle.std.specs.List.{list_any, cons_option}
use Rattle.std.specs.Cmp.Lexicographic.{slice_cmp, nat_list_cmp_total, bytes_decides, texts_ties}
use Rattle.std.specs.FinMap.{get, keys, insert, get-insert, contains_key-keys}
use Rattle.std.specs.Ordering.{nat_cmp, eq_by_cmp}
use Rattle.std.specs.Str.{bytes_eq}
use Rattle.rotor_base.specs.Stem.{is_source_name}
use Rattle.rotor_base.specs.Files.{names_of}
use Rattle.rotor_base.specs.declared.source.SourceFile.{SourceFile}
use Rattle.tree_io.specs.Outside.{FileMap}
use Rattle.project_load.specs.Load.{file_in, files_in, source_names, sources_of, manifest_of}
use Rattle.tree_io.specs.Writes.{after}
use Rattle.project_load.proofs.Sorted.{same_words, names_rise}
use Rattle.apply_journal.specs.Recovered.{project_in}

abbrev pub Words : Type 0
Words = List ℕ

-- the file that was written, and the others
pub get_here : (m : FileMap) (name bytes : Words) → get (insert m name bytes) name ≡ Some bytes
get_here m name bytes = get-insert nat_list_cmp_total m name bytes name
    ∙ ap (λ b. cond b (Some bytes) (get m name)) (sym (texts_ties name name) ∙ (bytes_decides name name).1 refl)

pub get_other : (m : FileMap) (name bytes q : Words) → bytes_eq q name ≡ false → get (insert m name bytes) q ≡ get m q
get_other m name bytes q e = get-insert nat_list_cmp_total m name bytes q ∙ ap (λ b. cond b (Some bytes) (get m q)) (sym (texts_ties q name) ∙ e)

-- a word that passes a test, and one that does not, are two
pub apart : (p : Words → Bool) (q name : Words) → p q ≡ true → p name ≡ false → bytes_eq q name ≡ false
apart p q name t f = by (bytes_eq q name) refl where
  by : (b : Bool) → bytes_eq q name ≡ b → bytes_eq q name ≡ false
  by true e = let same : q ≡ name = (bytes_decides q name).0 e in let bad : true ≡ false = sym t ∙ ap p same ∙ f in cc
  by false e = e

-- the names of sources, and that of the manifest
abbrev pub counts : Words → Bool
counts name = is_source_name name || bytes_eq name (codes "rotor.units")

abbrev pub Agree : FileMap → FileMap → Type 0
Agree one other = (q : Words) → counts q ≡ true → get one q ≡ get other q

source_counts : (q : Words) → is_source_name q ≡ true → counts q ≡ true
source_counts q e = ap (λ b. b || bytes_eq q (codes "rotor.units")) e

any_of_test : (p : Words → Bool) (w : Words) (xs : List Words) → list_any (λ x. p x && bytes_eq w x) xs ≡ (p w && list_any (bytes_eq w) xs)
any_of_test p w [] = none (p w) where
  none : (b : Bool) → false ≡ (b && false)
  none true = refl
  none false = refl
any_of_test p w (x ∷ xs) = by (bytes_eq w x) refl (any_of_test p w xs) where
  here : (a b c : Bool) → ((a && true) || c) ≡ (a && (true || b)) → ((a && true) || c) ≡ (a && (true || b))
  here a b c e = e

  hit : (a b : Bool) → ((a && true) || (a && b)) ≡ (a && (true || b))
  hit true b = refl
  hit false b = refl

  miss : (a b : Bool) → ((a && false) || (p w && b)) ≡ (p w && b)
  miss true b = refl
  miss false b = refl

  by : (t : Bool) → bytes_eq w x ≡ t → list_any (λ x. p x && bytes_eq w x) xs ≡ (p w && list_any (bytes_eq w) xs)
      → ((p x && bytes_eq w x) || list_any (λ x. p x && bytes_eq w x) xs) ≡ (p w && (bytes_eq w x || list_any (bytes_eq w) xs))
  by true e rest =
      let same : w ≡ x = (bytes_decides w x).0 e in
      ap (λ t. (p x && t) || list_any (λ x. p x && bytes_eq w x) xs) e ∙ ap (λ t. (p x && true) || t) rest
      ∙ ap (λ v. (p v && true) || (p w && list_any (bytes_eq w) xs)) (sym same) ∙ hit (p w) (list_any (bytes_eq w) xs)
      ∙ ap (λ t. p w && (t || list_any (bytes_eq w) xs)) (sym e)
  by false e rest =
      ap (λ t. (p x && t) || list_any (λ x. p x && bytes_eq w x) xs) e ∙ ap (λ t. (p x && false) || t) rest ∙ miss (p x) (list_any (bytes_eq w) xs)
      ∙ ap (λ t. p w && (t || list_any (bytes_eq w) xs)) (sym e)

pub any_same : (p q : Words → Bool) (xs : List Words) → ((w : Words) → p w ≡ q w) → list_any p xs ≡ list_any q xs
any_same p q [] h = refl
any_same p q (x ∷ xs) h = rw (h x, any_same p q xs h) refl

any_filtered : (p : Words → Bool) (w : Words) (xs : List Words) → list_any (bytes_eq w) (filter p xs) ≡ list_any (λ x. p x && bytes_eq w x) xs
any_filtered p w [] = refl
any_filtered p w (x ∷ xs) = by (p x) (any_filtered p w xs) where
  by : (b : Bool) → list_any (bytes_eq w) (filter p xs) ≡ list_any (λ x. p x && bytes_eq w x) xs
      → list_any (bytes_eq w) (cond b (x ∷ filter p xs) (filter p xs)) ≡ ((b && bytes_eq w x) || list_any (λ x. p x && bytes_eq w x) xs)
  by true rest = ap (λ b. bytes_eq w x || b) rest
  by false rest = rest

-- the names of a folder are those that it has
pub held_name : (held : FileMap) (w : Words) → list_any (bytes_eq w) (keys held) ≡ is_some (get held w)
held_name held w = any_same (bytes_eq w) (eq_by_cmp (slice_cmp nat_cmp) w) (keys held) (λ x. texts_ties w x) ∙ sym (contains_key-keys held w)

among_sources : (m : FileMap) (w : Words) → list_any (bytes_eq w) (source_names m) ≡ (is_source_name w && is_some (get m w))
among_sources m w = any_filtered is_source_name w (keys m) ∙ any_of_test is_source_name w (keys m) ∙ ap (λ b. is_source_name w && b) (held_name m w)

same_sources : (one other : FileMap) → Agree one other → source_names one ≡ source_names other
same_sources one other a = same_words (source_names one) (source_names other) (names_rise one) (names_rise other)
    (λ w. among_sources one w ∙ by w (is_source_name w) refl ∙ sym (among_sources other w)) where
      by : (w : Words) (b : Bool) → is_source_name w ≡ b → (is_source_name w && is_some (get one w)) ≡ (is_source_name w && is_some (get other w))
      by w true e = ap (λ f. is_source_name w && is_some f) (a w (source_counts w e))
      by w false e = ap (λ b. b && is_some (get one w)) e ∙ ap (λ b. b && is_some (get other w)) (sym e)

same_files : (one other : FileMap) → Agree one other → (names : List Words) → files_in one (filter is_source_name names) ≡ files_in other
    (filter is_source_name names)
same_files one other a [] = refl
same_files one other a (n ∷ names) = by (is_source_name n) refl (same_files one other a names) where
  by : (b : Bool) → is_source_name n ≡ b → files_in one (filter is_source_name names) ≡ files_in other (filter is_source_name names)
      → files_in one (cond b (n ∷ filter is_source_name names) (filter is_source_name names)) ≡ files_in other
      (cond b (n ∷ filter is_source_name names) (filter is_source_name names))
  by true e rest =
      ap (λ f. cons_option (option_map (λ bytes. record { name = n; bytes = bytes }) f) (files_in one (filter is_source_name names)))
      (a n (source_counts n e))
      ∙ ap (λ fs. cons_option (file_in other n) fs) rest
  by false e rest = rest

manifest_counts : counts (codes "rotor.units") ≡ true
manifest_counts = by (is_source_name (codes "rotor.units")) where
  by : (b : Bool) → (b || bytes_eq (codes "rotor.units") (codes "rotor.units")) ≡ true
  by true = refl
  by false = (bytes_decides (codes "rotor.units") (codes "rotor.units")).1 refl

-- folders that agree on these names hold one project
pub same_project : (one other : FileMap) → Agree one other → project_in one ≡ project_in other
same_project one other a =
    let entries : sources_of one ≡ sources_of other = same_files one other a (keys one) ∙ ap (files_in other) (same_sources one other a) in
    let manifest : manifest_of one ≡ manifest_of other = a (codes "rotor.units") manifest_counts in
    ap (λ (es : List SourceFile). record { entries = es; manifest = manifest_of one }) entries
    ∙ ap (λ (m : Option Words). record { entries = sources_of other; manifest = m }) manifest

-- ---- files written one after another

abbrev pub named : Words → List SourceFile → Bool
named q files = list_any (bytes_eq q) (names_of files)

pub after-append : (fs gs : List SourceFile) (m : FileMap) → after (fs ++ gs) m ≡ after gs (after fs m)
after-append [] gs m = refl
after-append (f ∷ fs) gs m = after-append fs gs (insert m f.name f.bytes)

-- a file that is not written stays
pub get_after_other : (fs : List SourceFile) (m : FileMap) (q : Words) → named q fs ≡ false → get (after fs m) q ≡ get m q
get_after_other [] m q e = refl
get_after_other (f ∷ fs) m q e = by (bytes_eq q f.name) refl e (get_after_other fs (insert m f.name f.bytes) q) where
  by : (b : Bool) → bytes_eq q f.name ≡ b → (b || named q fs) ≡ false
      → (named q fs ≡ false → get (after fs (insert m f.name f.bytes)) q ≡ get (insert m f.name f.bytes) q)
      → get (after fs (insert m f.name f.bytes)) q ≡ get m q
  by true t h rest = cc
  by false t h rest = rest h ∙ get_other m f.name f.bytes q t

-- two folders that hold the same at a name that is not written over hold the same there afterwards
pub get_after_same : (fs : List SourceFile) (m n : FileMap) (q : Words) → (named q fs ≡ false → get m q ≡ get n q)
    → get (after fs m) q ≡ get (after fs n) q
get_after_same [] m n q h = h refl
get_after_same (f ∷ fs) m n q h = get_after_same fs (insert m f.name f.bytes) (insert n f.name f.bytes) q (by (bytes_eq q f.name) refl) where
  by : (b : Bool) → bytes_eq q f.name ≡ b → named q fs ≡ false → get (insert m f.name f.bytes) q ≡ get (insert n f.name f.bytes) q
  by true t none =
      let same : q ≡ f.name = (bytes_decides q f.name).0 t in
      (subst (λ w. get (insert m f.name f.bytes) w ≡ get (insert n f.name f.bytes) w) (sym same)
      (get_here m f.name f.bytes ∙ sym (get_here n f.name f.bytes)))
  by false t none =
      (get_other m f.name f.bytes q t ∙ h (ap (λ b. b || named q fs) t ∙ none) ∙ sym (get_other n f.name f.bytes q t))

pub named-append : (q : Words) (fs gs : List SourceFile) → named q (fs ++ gs) ≡ (named q fs || named q gs)
named-append q [] gs = refl
named-append q (f ∷ fs) gs = by (bytes_eq q f.name) (named-append q fs gs) where
  by : (b : Bool) → named q (fs ++ gs) ≡ (named q fs || named q gs) → (b || named q (fs ++ gs)) ≡ ((b || named q fs) || named q gs)
  by true rest = refl
  by false rest = rest
