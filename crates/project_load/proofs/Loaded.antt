-- What was read of a folder is what Load says of it.
use Rattle.std.proofs.Common.{◌≡◌, ◌⊎◌, ℕ, ◌<◌, ◌≤◌, List, [], ◌∷◌, Bool, true, false, ◌&&◌, cond, Option, Some, None, IfSome, IsSome, Result, Ok}
use Rattle.std.proofs.Common.{Err, IfOk, IfErr, OnOk, option_map, length, take, codes, refl, sym, ap, subst, ◌∙◌, inl, inr, ⊎_elim, nat_lt, arith}
use Rattle.std.proofs.Common.{IsPermutation}
use Rattle.std.specs.Option.{option_or, is_some}
use Rattle.std.specs.List.{AllByRecursion, cons_option, list_any}
use Rattle.std.specs.List.Sorted.{IsStrictlySortedBy}
use Rattle.std.specs.Ordering.{nat_cmp}
use Rattle.std.specs.Cmp.Lexicographic.{slice_cmp}
use Rattle.std.specs.Str.{bytes_eq}
use Rattle.std.specs.Str.Lines.{lines}
use Rattle.std.specs.FinMap.{get, keys}
use Rattle.std.proofs.lemmas.Bool.{cases_lt}
use Rattle.std.proofs.lemmas.Grind.{common_steps}
use Rattle.rotor_base.specs.Stem.{is_source_name}
use Rattle.rotor_base.specs.declared.unit.SourceUnit.{SourceUnit}
use Rattle.project_load.proofs.Sorted.{names_are, all_there, manifest_listed}
use Rattle.std.proofs.lemmas.List.{take_all, length-take}
use Rattle.rotor_base.specs.Files.{FileSet, too_many, too_large, long_manifest, double_unit, bad_manifest, load_refusal, names_of, units_of}
use Rattle.rotor_base.specs.Files.{first_with, are_over, least_word, doubled_units, bad_line, IsRefusedBy}
use Rattle.rotor_base.specs.declared.source.SourceFile.{SourceFile}
use Rattle.rotor_base.specs.declared.refusal.LoadError.{LoadError}
use Rattle.rotor_base.specs.declared.refusal.LoadError.TheVariants.{Read, TooMany, TooLarge, DoubleUnit, BadManifest, Memory}
use Rattle.rotor_base.proofs.Kept.{neither}
use Rattle.rotor_base.proofs.Loads.{is_short}
use Rattle.tree_io.specs.Outside.{FileMap, IsFront}
use Rattle.project_load.specs.Load.{files_in, source_names, sources_of, manifest_of, unless_refused, loaded, IsOutside, IsLoad}

-- the manifest was read
pub manifest_read : (content : Option FileMap) (bytes : List ℕ) → IfSome content (λ held. IsFront 1048577 (get held (codes "rotor.units")) bytes)
    → IfSome content (λ held. ◌≡◌ {A = Option (List ℕ)} (Some bytes) (option_map (take 1048577) (manifest_of held)))
manifest_read None bytes h = tt
manifest_read (Some held) bytes h = sym h

-- there is none
pub no_manifest : (content : Option FileMap) (is_there : Bool) → is_there ≡ false
    → ((held : FileMap) → content ≡ Some held → is_there ≡ is_some (manifest_of held))
    → IfSome content (λ held. ◌≡◌ {A = Option (List ℕ)} None (option_map (take 1048577) (manifest_of held)))
no_manifest None is_there e h = tt
no_manifest (Some held) is_there e h = absent (manifest_of held) (sym (h held refl) ∙ e) where
  absent : (file : Option (List ℕ)) → is_some file ≡ false → ◌≡◌ {A = Option (List ℕ)} None (option_map (take 1048577) file)
  absent None e = refl
  absent (Some bytes) e = cc

-- the names of files that are there
pub names_read : (held : FileMap) (names : List (List ℕ)) → AllByRecursion (λ name. IsSome (get held name)) names
    → names_of (files_in held names) ≡ names
names_read held [] h = refl
names_read held (name ∷ names) h = by (get held name) h.0 (names_read held names h.1) where
  by : (file : Option (List ℕ)) → IsSome file → names_of (files_in held names) ≡ names
      → names_of (cons_option (option_map (λ bytes. record { name = name; bytes = bytes }) file) (files_in held names)) ≡ name ∷ names
  by None there rest = cc
  by (Some bytes) there rest = ap (λ (ns : List (List ℕ)). name ∷ ns) rest

count_read : (held : FileMap) (names : List (List ℕ)) → AllByRecursion (λ name. IsSome (get held name)) names
    → length (files_in held names) ≡ length names
count_read held names h = let mapped : length (names_of (files_in held names)) ≡ length (files_in held names) = grind (arith, common_steps) in
    sym mapped ∙ ap length (names_read held names h)

is_long_by : (w : List ℕ) (t : Bool) → nat_lt 1048576 (length w) ≡ t → 1048576 < length w
    → ◌≡◌ {A = Option LoadError} (cond t (Some (TooLarge (codes "rotor.units"))) None) (Some (TooLarge (codes "rotor.units")))
is_long_by w true e l = refl
is_long_by w false e l = absurd (grind arith)

is_long : (w : List ℕ) → 1048576 < length w → long_manifest (Some w) ≡ Some (TooLarge (codes "rotor.units"))
unfolding long_manifest
is_long w l = is_long_by w (nat_lt 1048576 (length w)) refl l

long_refusal : (files : List SourceFile) (w : List ℕ) → 1048576 < length w
    → load_refusal files (Some w) ≡ option_or (too_many files) (option_or (too_large files) (Some (TooLarge (codes "rotor.units"))))
long_refusal files w l =
    ap (λ (c : Option LoadError). option_or (too_many files)
    (option_or (too_large files) (option_or c (option_or (double_unit (units_of files)) (bad_manifest (units_of files) (Some w)))))) (is_long w l)

-- a manifest that is too long is refused so, however it goes on
refusal_cut_by : (files : List SourceFile) (w : List ℕ) → (length w ≤ 1048577) ⊎ (1048577 < length w)
    → load_refusal files (Some (take 1048577 w)) ≡ load_refusal files (Some w)
refusal_cut_by files w (inl l) = ap (λ (v : List ℕ). load_refusal files (Some v)) (take_all 1048577 w l)
refusal_cut_by files w (inr l) = long_refusal files (take 1048577 w) (omega (arith, length-take 1048577 w)) ∙ sym (long_refusal files w (omega arith))

refusal_cut : (files : List SourceFile) (manifest : Option (List ℕ))
    → load_refusal files (option_map (take 1048577) manifest) ≡ load_refusal files manifest
refusal_cut files None = refl
refusal_cut files (Some w) = refusal_cut_by files w (by (cases_lt 1048577 (length w))) where
  by : (1048577 < length w) ⊎ (length w ≤ 1048577) → (length w ≤ 1048577) ⊎ (1048577 < length w)
  by (inl l) = inr l
  by (inr l) = inl l

-- one that is not refused is whole
whole_manifest : (files : List SourceFile) (manifest : Option (List ℕ)) → load_refusal files (option_map (take 1048577) manifest) ≡ None
    → option_map (take 1048577) manifest ≡ manifest
whole_manifest files None e = refl
whole_manifest files (Some w) e =
    let short : length (take 1048577 w) ≤ 1048576 = is_short (Some (take 1048577 w)) (neither _ _ (neither _ _ (neither _ _ e).1).1).0
    (take 1048577 w) refl in
    ap (λ (v : List ℕ). Some v) (take_all 1048577 w (omega (arith, length-take 1048577 w)))

refused : (held : FileMap) (error : LoadError) → load_refusal (sources_of held) (manifest_of held) ≡ Some error → loaded held ≡ Err error
unfolding loaded
refused held error e = ap (λ (r : Option LoadError). unless_refused r (record { entries = sources_of held; manifest = manifest_of held })) e

pub accepted : (held : FileMap) → load_refusal (sources_of held) (manifest_of held) ≡ None
    → loaded held ≡ Ok (record { entries = sources_of held; manifest = manifest_of held })
unfolding loaded
accepted held e = ap (λ (r : Option LoadError). unless_refused r (record { entries = sources_of held; manifest = manifest_of held })) e

many_by : (n : ℕ) (t : Bool) → nat_lt 2000 n ≡ t → 2000 < n → ◌≡◌ {A = Option LoadError} (cond t (Some (TooMany n)) None) (Some (TooMany n))
many_by n true e l = refl
many_by n false e l = absurd (grind arith)

few_by : (n : ℕ) (t : Bool) → nat_lt 2000 n ≡ t → n ≤ 2000 → ◌≡◌ {A = Option LoadError} (cond t (Some (TooMany n)) None) None
few_by n true e l = absurd (grind arith)
few_by n false e l = refl

too_many_of : (files : List SourceFile) → 2000 < length files → too_many files ≡ Some (TooMany (length files))
unfolding too_many
too_many_of files l = many_by (length files) (nat_lt 2000 (length files)) refl l

pub not_too_many : (files : List SourceFile) → length files ≤ 2000 → too_many files ≡ None
unfolding too_many
not_too_many files l = few_by (length files) (nat_lt 2000 (length files)) refl l

many_refusal : (files : List SourceFile) (manifest : Option (List ℕ)) → 2000 < length files
    → load_refusal files manifest ≡ Some (TooMany (length files))
many_refusal files manifest l =
    ap (λ (c : Option LoadError). option_or c
    (option_or (too_large files)
    (option_or (long_manifest manifest) (option_or (double_unit (units_of files)) (bad_manifest (units_of files) manifest))))) (too_many_of files l)

large_refusal : (files : List SourceFile) (manifest : Option (List ℕ)) (error : LoadError) → length files ≤ 2000 → too_large files ≡ Some error
    → load_refusal files manifest ≡ Some error
large_refusal files manifest error l e =
    ap (λ (c : Option LoadError). option_or c
    (option_or (too_large files)
    (option_or (long_manifest manifest) (option_or (double_unit (units_of files)) (bad_manifest (units_of files) manifest)))))
    (not_too_many files l)
    ∙ ap (λ (c : Option LoadError). option_or c
    (option_or (long_manifest manifest) (option_or (double_unit (units_of files)) (bad_manifest (units_of files) manifest)))) e

-- what the names of a folder are, from its listing
pub record IsListing (content : Option FileMap) (listed names : List (List ℕ)) : Type 0 where
  pub moved : IfSome content (λ held. IsPermutation (keys held) listed)
  pub ordered : IsStrictlySortedBy (slice_cmp nat_cmp) names
  pub same : (test : List ℕ → Bool) → list_any test names ≡ list_any (λ name. is_source_name name && test name) listed

the_names : (held : FileMap) (listed names : List (List ℕ)) → IsListing (Some held) listed names → names ≡ source_names held
the_names held listed names h = names_are held listed names h.moved h.ordered h.same

there_in : (held : FileMap) (listed names : List (List ℕ)) → IsListing (Some held) listed names
    → AllByRecursion (λ name. IsSome (get held name)) names
there_in held listed names h = subst (AllByRecursion (λ name. IsSome (get held name))) (sym (the_names held listed names h)) (all_there held)

-- each name is in the folder
pub listing_there : (content : Option FileMap) (listed names : List (List ℕ)) → IsListing content listed names → (held : FileMap)
    → content ≡ Some held → AllByRecursion (λ name. IsSome (get held name)) names
listing_there None listed names h held e = cc
listing_there (Some held) listed names h other e = let same : held ≡ other = cc in
    subst (λ v. AllByRecursion (λ name. IsSome (get v name)) names) same (there_in held listed names h)

pub listing_manifest : (content : Option FileMap) (listed names : List (List ℕ)) (is_there : Bool) → IsListing content listed names
    → is_there ≡ list_any (bytes_eq (codes "rotor.units")) listed
    → (held : FileMap) → content ≡ Some held → is_there ≡ is_some (manifest_of held)
listing_manifest None listed names is_there h t held e = cc
listing_manifest (Some held) listed names is_there h t other e = let same : held ≡ other = cc in
    subst (λ v. is_there ≡ is_some (manifest_of v)) same (t ∙ manifest_listed held listed h.moved)

-- there are too many sources
pub many_answer : (content : Option FileMap) (listed names : List (List ℕ)) → IsListing content listed names → 2000 < length names
    → IfSome content (λ held. IsLoad held (Err (TooMany (length names))))
many_answer None listed names h l = tt
many_answer (Some held) listed names h l =
    let count : length (files_in held names) ≡ length names = count_read held names (there_in held listed names h) in
    let is : files_in held names ≡ sources_of held = ap (files_in held) (the_names held listed names h) in
    inr (refused held (TooMany (length names)) (rw (← is, ← count) (many_refusal (files_in held names) (manifest_of held) (rw count l))))

-- one is too large, or the folder failed, or there was no memory
pub large_answer : (content : Option FileMap) (listed names : List (List ℕ)) (error : LoadError) → IsListing content listed names
    → length names ≤ 2000
    → IfSome content (λ held. IsOutside error ⊎ (too_large (files_in held names) ≡ Some error)) → IfSome content (λ held. IsLoad held (Err error))
large_answer None listed names error h l e = tt
large_answer (Some held) listed names error h l (inl o) = inl o
large_answer (Some held) listed names error h l (inr e) =
    let count : length (files_in held names) ≡ length names = count_read held names (there_in held listed names h) in
    let is : files_in held names ≡ sources_of held = ap (files_in held) (the_names held listed names h) in
    inr (refused held error (rw (← is) (large_refusal (files_in held names) (manifest_of held) error (omega (arith, count)) e)))

-- what is made of the files that were read
pub made_answer : (content : Option FileMap) (listed names : List (List ℕ)) (entries : List SourceFile) (manifest : Option (List ℕ))
    (result : Result FileSet LoadError) → IsListing content listed names
    → IfSome content (λ held. entries ≡ files_in held names) → IfSome content (λ held. manifest ≡ option_map (take 1048577) (manifest_of held))
    → IfOk result (λ files. files ≡ record { entries = entries; manifest = manifest }) → OnOk result (load_refusal entries manifest ≡ None)
    → IfErr result (IsRefusedBy (load_refusal entries manifest))
    → IfSome content (λ held. IsLoad held result)
made_answer None listed names entries manifest result h r m ok taken err = tt
made_answer (Some held) listed names entries manifest (Ok files) h r m ok taken err =
    let is : entries ≡ sources_of held = r ∙ ap (files_in held) (the_names held listed names h) in
    let none : load_refusal (sources_of held) (option_map (take 1048577) (manifest_of held)) ≡ None = rw (is, m) at taken in
    let whole : manifest ≡ manifest_of held = m ∙ whole_manifest (sources_of held) (manifest_of held) none in
    let same : ◌≡◌ {A = FileSet} (record { entries = sources_of held; manifest = manifest_of held })
    (record { entries = entries; manifest = manifest }) = λ i. record { entries = sym is i; manifest = sym whole i } in
    accepted held (sym (refusal_cut (sources_of held) (manifest_of held)) ∙ none) ∙ ap (λ (files : FileSet). Ok files) (same ∙ sym ok)
made_answer (Some held) listed names entries manifest (Err error) h r m ok taken (inl e) =
    let is : entries ≡ sources_of held = r ∙ ap (files_in held) (the_names held listed names h) in
    let some : load_refusal (sources_of held) (option_map (take 1048577) (manifest_of held)) ≡ Some error = rw (is, m) at e in
    inr (refused held error (sym (refusal_cut (sources_of held) (manifest_of held)) ∙ some))
made_answer (Some held) listed names entries manifest (Err error) h r m ok taken (inr e) = inl (inr e)

either_some : (a b : Option LoadError) (x : LoadError) → option_or a b ≡ Some x → (a ≡ Some x) ⊎ (b ≡ Some x)
either_some None b x e = inr e
either_some (Some y) b x e = inl e

never : {X : Type 0} (found : Option X) (f : X → LoadError) → ((x : X) → f x ≡ Read → ⊥) → option_map f found ≡ Some Read → ⊥
never None f h e = cc
never (Some x) f h e = h x (let same : f x ≡ Read = cc in same)

never_if : (t : Bool) (error : LoadError) → (error ≡ Read → ⊥) → cond t (Some error) None ≡ Some Read → ⊥
never_if true error h e = h (let same : error ≡ Read = cc in same)
never_if false error h e = cc

many_never : (files : List SourceFile) → too_many files ≡ Some Read → ⊥
unfolding too_many
many_never files e = never_if (nat_lt 2000 (length files)) (TooMany (length files)) (λ h. cc) e

large_never : (files : List SourceFile) → too_large files ≡ Some Read → ⊥
unfolding too_large
large_never files e = never (first_with are_over files) (λ file. TooLarge file.name) (λ x h. cc) e

long_never : (manifest : Option (List ℕ)) → long_manifest manifest ≡ Some Read → ⊥
unfolding long_manifest
long_never None e = cc
long_never (Some bytes) e = never_if (nat_lt 1048576 (length bytes)) (TooLarge (codes "rotor.units")) (λ h. cc) e

double_never : (units : List SourceUnit) → double_unit units ≡ Some Read → ⊥
unfolding double_unit
double_never units e = never (least_word (doubled_units units)) DoubleUnit (λ x h. cc) e

bad_never : (units : List SourceUnit) (manifest : Option (List ℕ)) → bad_manifest units manifest ≡ Some Read → ⊥
unfolding bad_manifest
bad_never units None e = cc
bad_never units (Some bytes) e = never (bad_line (lines bytes) units) BadManifest (λ x h. cc) e

-- no set of files is refused as one that was not read
never_read : (files : List SourceFile) (manifest : Option (List ℕ)) → load_refusal files manifest ≡ Some Read → ⊥
never_read files manifest e = ⊎_elim (many_never files)
    (λ e. ⊎_elim (large_never files)
    (λ e. ⊎_elim (long_never manifest) (λ e. ⊎_elim (double_never (units_of files)) (bad_never (units_of files) manifest) (either_some _ _ _ e))
    (either_some _ _ _ e)) (either_some _ _ _ e)) (either_some _ _ _ e)

-- making files answers no fault of the folder
pub made_not_read : {T : Type 0} (files : List SourceFile) (manifest : Option (List ℕ)) (result : Result T LoadError)
    → IfErr result (IsRefusedBy (load_refusal files manifest)) → result ≡ Err Read → ⊥
made_not_read files manifest (Ok x) h e = cc
made_not_read files manifest (Err error) (inl h) e =
    never_read files manifest (h ∙ ap (λ (x : LoadError). Some x) (let same : error ≡ Read = cc in same))
made_not_read files manifest (Err error) (inr h) e = let same : error ≡ Read = cc in let no : Memory ≡ Read = sym h ∙ same in cc

-- the same of a count
pub many_answer_at : (content : Option FileMap) (listed names : List (List ℕ)) (count : ℕ) → IsListing content listed names → count ≡ length names
    → 2000 < count → IfSome content (λ held. IsLoad held (Err (TooMany count)))
many_answer_at content listed names count h e l = subst (λ n. IfSome content (λ held. IsLoad held (Err (TooMany n)))) (sym e)
    (many_answer content listed names h (omega arith))

same_ok : (x y : FileSet) → ◌≡◌ {A = Result FileSet LoadError} (Ok x) (Ok y) → x ≡ y
same_ok x y e = cc

taken_is : (found : Option LoadError) (said files : FileSet) → unless_refused found said ≡ Ok files → files ≡ said
taken_is None said files e = sym (same_ok said files e)
taken_is (Some error) said files e = cc

-- the files that Load gives
pub loaded_is : (held : FileMap) (files : FileSet) → loaded held ≡ Ok files
    → files ≡ record { entries = sources_of held; manifest = manifest_of held }
unfolding loaded
loaded_is held files e = taken_is (load_refusal (sources_of held) (manifest_of held))
    (record { entries = sources_of held; manifest = manifest_of held }) files e
