-- Loading after sources were written, and after the old ones were written again.
use Rattle.std.proofs.Common.{◌≡◌, ℕ, zero, suc, ◌⊎◌, Bool, true, false, cond, ◌&&◌, ◌||◌, List, [], ◌∷◌, filter, Option, Some, None, IsSome, is_some}
use Rattle.std.proofs.Common.{option_map, Ok, slice_get, Contains, codes, refl, sym, ap, subst, ◌∙◌, inl, inr, arith}
use Rattle.std.specs.List.{AllByRecursion, cons_option, list_any, list_all}
use Rattle.std.specs.List.Sorted.{IsStrictlySortedBy}
use Rattle.std.specs.Ordering.{nat_cmp}
use Rattle.std.specs.Cmp.Lexicographic.{slice_cmp, nat_list_cmp_total}
use Rattle.std.specs.FinMap.{get, insert, keys, same_map, slice_cmp-IsAntisymmetric, nat_cmp-IsAntisymmetric}
use Rattle.std.specs.Str.{bytes_eq}
use Rattle.std.proofs.lemmas.Slice.Eq.{bytes_eq-Decides}
use Rattle.rotor_base.specs.Stem.{is_source_name, ends_stem}
use Rattle.rotor_base.specs.Files.{FileSet, IsProject, names_of, load_refusal}
use Rattle.rotor_base.specs.declared.source.SourceFile.{SourceFile}
use Rattle.rotor_base.specs.declared.refusal.LoadError.{LoadError}
use Rattle.rotor_base.proofs.Rising.{some_is, not_named}
use Rattle.tree_io.specs.Outside.{FileMap}
use Rattle.project_load.specs.Load.{files_in, source_names, sources_of, manifest_of, unless_refused, loaded}
use Rattle.project_load.specs.Rewritten.{files_at, Covers, AreOthers, LoadedFilesAreAProject, NewSourcesAreLoaded, OldSourcesAreRestored}
use Rattle.tree_io.specs.Writes.{after}
use Rattle.project_load.proofs.Keys.{keys_kept, get_written}
use Rattle.project_load.proofs.Sorted.{names_rise, all_there}
use Rattle.project_load.proofs.Loaded.{names_read, loaded_is}

-- ---- files of other names

-- two sources of one name are one
distinct : (fs : List SourceFile) → IsStrictlySortedBy (slice_cmp nat_cmp) (names_of fs) → (j k : ℕ) (g f : SourceFile) → slice_get fs j ≡ Some g
    → slice_get fs k ≡ Some f → g.name ≡ f.name → g ≡ f
unfolding IsStrictlySortedBy
distinct [] h j k g f a b e = cc
distinct (x ∷ fs) h zero zero g f a b e = sym (some_is x g a) ∙ some_is x f b
distinct (x ∷ fs) h zero (suc k) g f a b e = absurd (not_named x.name fs k f h.0 b (ap (λ (y : SourceFile). y.name) (some_is x g a) ∙ e))
distinct (x ∷ fs) h (suc j) zero g f a b e = absurd (not_named x.name fs j g h.0 a (ap (λ (y : SourceFile). y.name) (some_is x f b) ∙ sym e))
distinct (x ∷ fs) h (suc j) (suc k) g f a b e = distinct fs h.1 j k g f a b e

-- ---- what a file holds after the writes

module _ (fs : List SourceFile) (order : IsStrictlySortedBy (slice_cmp nat_cmp) (names_of fs)) where
  module _ (k : ℕ) (f : SourceFile) (here : slice_get fs k ≡ Some f) where
    Holds : FileMap → Type 0
    Holds held = get held f.name ≡ Some f.bytes

    -- a write of a source of that name is that source's
    written : (held : FileMap) (j : ℕ) (g : SourceFile) (js : List ℕ) → slice_get fs j ≡ Some g → (get held f.name ≡ Some f.bytes)
        ⊎ Contains (j ∷ js) k
        → (get (insert held g.name g.bytes) f.name ≡ Some f.bytes) ⊎ Contains js k
    written held j g js a h = by (bytes_eq f.name g.name) refl h where
      by : (b : Bool) → bytes_eq f.name g.name ≡ b → (get held f.name ≡ Some f.bytes) ⊎ Contains (j ∷ js) k
          → (get (insert held g.name g.bytes) f.name ≡ Some f.bytes) ⊎ Contains js k
      by true e h =
          let same : g ≡ f = distinct fs order j k g f a here (sym ((bytes_eq-Decides f.name g.name).0 e)) in
          inl (get_written held g.name g.bytes f.name
          ∙ (ap (λ (b : Bool). cond b (Some g.bytes) (get held f.name)) e ∙ ap (λ (x : SourceFile). Some x.bytes) same))
      by false e (inl h) = inl (get_written held g.name g.bytes f.name ∙ (ap (λ (b : Bool). cond b (Some g.bytes) (get held f.name)) e ∙ h))
      by false e (inr (zero, l, i)) =
          let at : slice_get fs j ≡ slice_get fs k = ap (slice_get fs) i in
          let same : g ≡ f = some_is g f (sym a ∙ (at ∙ here)) in
          let names : bytes_eq f.name g.name ≡ true = (bytes_eq-Decides f.name g.name).1 (ap (λ (x : SourceFile). x.name) (sym same)) in
          let bad : true ≡ false = sym names ∙ e in
          absurd cc
      by false e (inr (suc i, l, q)) = inr (i, omega (arith, l), q)

    passed : (held : FileMap) (j : ℕ) (js : List ℕ) → slice_get fs j ≡ None → (get held f.name ≡ Some f.bytes) ⊎ Contains (j ∷ js) k
        → (get held f.name ≡ Some f.bytes) ⊎ Contains js k
    passed held j js a (inl h) = inl h
    passed held j js a (inr (zero, l, i)) = let no : None ≡ Some f = sym a ∙ (ap (slice_get fs) i ∙ here) in absurd cc
    passed held j js a (inr (suc i, l, q)) = inr (i, omega (arith, l), q)

    holds : (numbers : List ℕ) (held : FileMap) → (get held f.name ≡ Some f.bytes) ⊎ Contains numbers k
        → get (after (files_at fs numbers) held) f.name ≡ Some f.bytes
    holds [] held (inl h) = h
    holds [] held (inr c) = absurd (omega (arith, c.1))
    holds (j ∷ js) held h = by (slice_get fs j) refl (λ (m : FileMap). holds js m) where
      by : (o : Option SourceFile) → slice_get fs j ≡ o
          → ((m : FileMap) → (get m f.name ≡ Some f.bytes) ⊎ Contains js k → get (after (files_at fs js) m) f.name ≡ Some f.bytes)
          → get (after (cons_option o (files_at fs js)) held) f.name ≡ Some f.bytes
      by None e rest = rest held (passed held j js e h)
      by (Some g) e rest = rest (insert held g.name g.bytes) (written held j g js e h)

-- a name of none of the sources keeps its bytes
among_at : (q : List ℕ) (fs : List SourceFile) (j : ℕ) (g : SourceFile) → list_any (bytes_eq q) (names_of fs) ≡ false → slice_get fs j ≡ Some g
    → bytes_eq q g.name ≡ false
among_at q [] j g h e = cc
among_at q (x ∷ fs) zero g h e = subst (λ (y : SourceFile). bytes_eq q y.name ≡ false) (some_is x g e)
    (neither_first (bytes_eq q x.name) (list_any (bytes_eq q) (names_of fs)) h) where
      neither_first : (a b : Bool) → (a || b) ≡ false → a ≡ false
      neither_first true b h = h
      neither_first false b h = refl
among_at q (x ∷ fs) (suc j) g h e = among_at q fs j g (neither_second (bytes_eq q x.name) (list_any (bytes_eq q) (names_of fs)) h) e where
  neither_second : (a b : Bool) → (a || b) ≡ false → b ≡ false
  neither_second true b h = absurd cc
  neither_second false b h = h

others_stay : (fs : List SourceFile) (q : List ℕ) → list_any (bytes_eq q) (names_of fs) ≡ false → (numbers : List ℕ) (held : FileMap)
    → get (after (files_at fs numbers) held) q ≡ get held q
others_stay fs q h [] held = refl
others_stay fs q h (j ∷ js) held = by (slice_get fs j) refl (λ (m : FileMap). others_stay fs q h js m) where
  by : (o : Option SourceFile) → slice_get fs j ≡ o → ((m : FileMap) → get (after (files_at fs js) m) q ≡ get m q)
      → get (after (cons_option o (files_at fs js)) held) q ≡ get held q
  by None e rest = rest held
  by (Some g) e rest = rest (insert held g.name g.bytes)
      ∙ (get_written held g.name g.bytes q ∙ ap (λ (b : Bool). cond b (Some g.bytes) (get held q)) (among_at q fs j g h e))

-- sources that are there keep the names of the folder
there_at : (held : FileMap) (fs : List SourceFile) (j : ℕ) (g : SourceFile) → AllByRecursion (λ n. IsSome (get held n)) (names_of fs)
    → slice_get fs j ≡ Some g → IsSome (get held g.name)
there_at held [] j g h e = cc
there_at held (x ∷ fs) zero g h e = subst (λ (y : SourceFile). IsSome (get held y.name)) (some_is x g e) h.0
there_at held (x ∷ fs) (suc j) g h e = there_at held fs j g h.1 e

still_there : (held : FileMap) (g : SourceFile) (ns : List (List ℕ)) → AllByRecursion (λ n. IsSome (get held n)) ns
    → AllByRecursion (λ n. IsSome (get (insert held g.name g.bytes) n)) ns
still_there held g [] h = tt
still_there held g (n ∷ ns) h = (by (bytes_eq n g.name) refl, still_there held g ns h.1) where
  by : (b : Bool) → bytes_eq n g.name ≡ b → IsSome (get (insert held g.name g.bytes) n)
  by true e = ap is_some (get_written held g.name g.bytes n ∙ ap (λ (b : Bool). cond b (Some g.bytes) (get held n)) e)
  by false e = ap is_some (get_written held g.name g.bytes n ∙ ap (λ (b : Bool). cond b (Some g.bytes) (get held n)) e) ∙ h.0

names_stay : (fs : List SourceFile) (numbers : List ℕ) (held : FileMap) → AllByRecursion (λ n. IsSome (get held n)) (names_of fs)
    → keys (after (files_at fs numbers) held) ≡ keys held
names_stay fs [] held h = refl
names_stay fs (j ∷ js) held h = by (slice_get fs j) refl (λ (m : FileMap). names_stay fs js m) where
  by : (o : Option SourceFile) → slice_get fs j ≡ o
      → ((m : FileMap) → AllByRecursion (λ n. IsSome (get m n)) (names_of fs) → keys (after (files_at fs js) m) ≡ keys m)
      → keys (after (cons_option o (files_at fs js)) held) ≡ keys held
  by None e rest = rest held h
  by (Some g) e rest = rest (insert held g.name g.bytes) (still_there held g (names_of fs) h)
      ∙ keys_kept held g.name g.bytes (there_at held fs j g h e)

-- ---- the sources of a folder

-- files that a folder holds are those of their names
read_back : (held : FileMap) (fs : List SourceFile) → ((k : ℕ) (f : SourceFile) → slice_get fs k ≡ Some f → get held f.name ≡ Some f.bytes)
    → files_in held (names_of fs) ≡ fs
read_back held [] h = refl
read_back held (f ∷ fs) h =
    ap (λ (o : Option (List ℕ)). cons_option (option_map (λ bytes. record { name = f.name; bytes = bytes }) o) (files_in held (names_of fs)))
    (h 0 f refl)
    ∙ ap (λ (gs : List SourceFile). f ∷ gs) (read_back held fs (λ k g e. h (suc k) g e))

-- and a folder holds its sources
held_at : (held : FileMap) (ns : List (List ℕ)) (k : ℕ) (f : SourceFile) → AllByRecursion (λ n. IsSome (get held n)) ns
    → slice_get (files_in held ns) k ≡ Some f → get held f.name ≡ Some f.bytes
held_at held [] k f h e = cc
held_at held (n ∷ ns) k f h e = by (get held n) refl h.0 (λ j i. held_at held ns j f h.1 i) k e where
  by : (o : Option (List ℕ)) → get held n ≡ o → IsSome o → ((j : ℕ) → slice_get (files_in held ns) j ≡ Some f → get held f.name ≡ Some f.bytes)
      → (k : ℕ) → slice_get (cons_option (option_map (λ bytes. record { name = n; bytes = bytes }) o) (files_in held ns)) k ≡ Some f
      → get held f.name ≡ Some f.bytes
  by None g there rest k e = absurd cc
  by (Some bytes) g there rest zero e =
      let same : record { name = n; bytes = bytes } ≡ f = some_is _ f e in
      subst (λ (x : SourceFile). get held x.name ≡ Some x.bytes) same g
  by (Some bytes) g there rest (suc k) e = rest k e

no_source : is_source_name (codes "rotor.units") ≡ true → ⊥
unfolding ends_stem
no_source e = cc

all_sources : (ns : List (List ℕ)) → list_any (bytes_eq (codes "rotor.units")) (filter is_source_name ns) ≡ false
all_sources [] = refl
all_sources (n ∷ ns) = by (is_source_name n) refl (all_sources ns) where
  by : (b : Bool) → is_source_name n ≡ b → list_any (bytes_eq (codes "rotor.units")) (filter is_source_name ns) ≡ false
      → list_any (bytes_eq (codes "rotor.units")) (cond b (n ∷ filter is_source_name ns) (filter is_source_name ns)) ≡ false
  by false e rest = rest
  by true e rest = other (bytes_eq (codes "rotor.units") n) refl where
    other : (c : Bool) → bytes_eq (codes "rotor.units") n ≡ c → (c || list_any (bytes_eq (codes "rotor.units")) (filter is_source_name ns)) ≡ false
    other true f = absurd (no_source (subst (λ (x : List ℕ). is_source_name x ≡ true) (sym ((bytes_eq-Decides (codes "rotor.units") n).0 f)) e))
    other false f = rest

module _ (held : FileMap) (old new : FileSet) (numbers : List ℕ) (is : loaded held ≡ Ok old) (others : AreOthers old new)
    (covers : Covers old.entries new.entries numbers) where
  abbrev now : FileMap
  now = after (files_at new.entries numbers) held

  old_is : old ≡ record { entries = sources_of held; manifest = manifest_of held }
  old_is = loaded_is held old is

  old_names : names_of old.entries ≡ source_names held
  old_names = ap (λ (o : FileSet). names_of o.entries) old_is ∙ names_read held (source_names held) (all_there held)

  new_names : names_of new.entries ≡ source_names held
  new_names = others.names ∙ old_names

  order : IsStrictlySortedBy (slice_cmp nat_cmp) (names_of new.entries)
  order = subst (IsStrictlySortedBy (slice_cmp nat_cmp)) (sym new_names) (names_rise held)

  there : AllByRecursion (λ n. IsSome (get held n)) (names_of new.entries)
  there = subst (AllByRecursion (λ n. IsSome (get held n))) (sym new_names) (all_there held)

  old_holds : (k : ℕ) (f : SourceFile) → slice_get old.entries k ≡ Some f → get held f.name ≡ Some f.bytes
  old_holds k f e = held_at held (source_names held) k f (all_there held) (sym (ap (λ (o : FileSet). slice_get o.entries k) old_is) ∙ e)

  -- the folder holds the new sources
  new_holds : (k : ℕ) (f : SourceFile) → slice_get new.entries k ≡ Some f → get now f.name ≡ Some f.bytes
  new_holds k f e = holds new.entries order k f e numbers held (by (covers k)) where
    by : (slice_get old.entries k ≡ slice_get new.entries k) ⊎ Contains numbers k → (get held f.name ≡ Some f.bytes) ⊎ Contains numbers k
    by (inl same) = inl (old_holds k f (same ∙ e))
    by (inr c) = inr c

  names_now : source_names now ≡ names_of new.entries
  names_now = ap (filter is_source_name) (names_stay new.entries numbers held there) ∙ sym new_names

  sources_now : sources_of now ≡ new.entries
  sources_now = ap (files_in now) names_now ∙ read_back now new.entries new_holds

  manifest_now : manifest_of now ≡ new.manifest
  manifest_now =
      others_stay new.entries (codes "rotor.units") (ap (list_any (bytes_eq (codes "rotor.units"))) new_names ∙ all_sources (keys held)) numbers held
      ∙ (sym (ap (λ (o : FileSet). o.manifest) old_is) ∙ sym others.manifest)

  loads : load_refusal new.entries new.manifest ≡ None → loaded now ≡ Ok new
  unfolding loaded
  loads taken =
      ap (λ (fs : List SourceFile). unless_refused (load_refusal fs (manifest_of now)) (record { entries = fs; manifest = manifest_of now }))
      sources_now
      ∙ (ap (λ (m : Option (List ℕ)). unless_refused (load_refusal new.entries m) (record { entries = new.entries; manifest = m })) manifest_now
      ∙ ap (λ (o : Option LoadError). unless_refused o new) taken)

  module _ (back : List ℕ) (returns : Covers new.entries old.entries back) where
    abbrev again : FileMap
    again = after (files_at old.entries back) now

    old_order : IsStrictlySortedBy (slice_cmp nat_cmp) (names_of old.entries)
    old_order = subst (IsStrictlySortedBy (slice_cmp nat_cmp)) (sym old_names) (names_rise held)

    again_holds : (k : ℕ) (f : SourceFile) → slice_get old.entries k ≡ Some f → get again f.name ≡ Some f.bytes
    again_holds k f e = holds old.entries old_order k f e back now (by (returns k)) where
      by : (slice_get new.entries k ≡ slice_get old.entries k) ⊎ Contains back k → (get now f.name ≡ Some f.bytes) ⊎ Contains back k
      by (inl same) = inl (new_holds k f (same ∙ e))
      by (inr c) = inr c

    at_name : (q : List ℕ) (fs : List SourceFile)
        → ((k : ℕ) (f : SourceFile) → slice_get fs k ≡ Some f → (get again f.name ≡ Some f.bytes) × (get held f.name ≡ Some f.bytes))
        → list_any (bytes_eq q) (names_of fs) ≡ true
        → get again q ≡ get held q
    at_name q [] h e = absurd cc
    at_name q (f ∷ fs) h e = by (bytes_eq q f.name) refl e (λ j. at_name q fs (λ k g i. h (suc k) g i) j) where
      by : (b : Bool) → bytes_eq q f.name ≡ b → (b || list_any (bytes_eq q) (names_of fs)) ≡ true
          → (list_any (bytes_eq q) (names_of fs) ≡ true → get again q ≡ get held q) → get again q ≡ get held q
      by true g e rest =
          let both = h 0 f refl in
          let same : get again f.name ≡ get held f.name = both.0 ∙ sym both.1 in
          subst (λ (n : List ℕ). get again n ≡ get held n) (sym ((bytes_eq-Decides q f.name).0 g)) same
      by false g e rest = rest e

    gets : (q : List ℕ) → get again q ≡ get held q
    gets q = by (list_any (bytes_eq q) (names_of old.entries)) refl where
      by : (b : Bool) → list_any (bytes_eq q) (names_of old.entries) ≡ b → get again q ≡ get held q
      by true e = at_name q old.entries (λ k f i. (again_holds k f i, old_holds k f i)) e
      by false e = others_stay old.entries q e back now ∙ others_stay new.entries q (ap (list_any (bytes_eq q)) others.names ∙ e) numbers held

    comes_back : again ≡ held
    comes_back = same_map nat_list_cmp_total (slice_cmp-IsAntisymmetric nat_cmp-IsAntisymmetric) _ _ gets

pub new_sources_are_loaded : NewSourcesAreLoaded
new_sources_are_loaded held old new numbers is others taken covers = loads held old new numbers is others covers taken

pub old_sources_are_restored : OldSourcesAreRestored
old_sources_are_restored held old new numbers back is others covers returns = comes_back held old new numbers is others covers back returns

-- what is loaded is a project
filtered : (ns : List (List ℕ)) → list_all is_source_name (filter is_source_name ns) ≡ true
filtered [] = refl
filtered (n ∷ ns) = by (is_source_name n) refl (filtered ns) where
  by : (b : Bool) → is_source_name n ≡ b → list_all is_source_name (filter is_source_name ns) ≡ true
      → list_all is_source_name (cond b (n ∷ filter is_source_name ns) (filter is_source_name ns)) ≡ true
  by true e h = ap (λ (c : Bool). c && list_all is_source_name (filter is_source_name ns)) e ∙ h
  by false e h = h

not_refused : (found : Option LoadError) (said files : FileSet) → unless_refused found said ≡ Ok files → found ≡ None
not_refused None said files e = refl
not_refused (Some error) said files e = absurd cc

taken_none : (held : FileMap) (files : FileSet) → loaded held ≡ Ok files → load_refusal (sources_of held) (manifest_of held) ≡ None
unfolding loaded
taken_none held files e = not_refused (load_refusal (sources_of held) (manifest_of held))
    (record { entries = sources_of held; manifest = manifest_of held }) files e

pub loaded_files_are_a_project : LoadedFilesAreAProject
loaded_files_are_a_project held files e =
    let names : names_of (sources_of held) ≡ source_names held = names_read held (source_names held) (all_there held) in
    subst IsProject (sym (loaded_is held files e)) (record {
      sources = record {
        named = ap (list_all is_source_name) names ∙ filtered (keys held);
        ordered = subst (IsStrictlySortedBy (slice_cmp nat_cmp)) (sym names) (names_rise held);
      };
      taken = taken_none held files e;
    })
