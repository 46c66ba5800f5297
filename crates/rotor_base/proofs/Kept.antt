-- What is known of the files of a project.
use Rattle.std.proofs.Common.{◌≡◌, ℕ, ◌≤◌, List, [], ◌∷◌, Bool, true, false, ◌||◌, cond, Option, Some, None, option_map, refl, length, sum_by, nat_lt}
use Rattle.std.proofs.Common.{All, arith}
use Rattle.std.specs.Option.{option_or}
use Rattle.std.specs.List.{list_any, AllByRecursion}
use Rattle.std.proofs.lemmas.List.Elements.{All-from_recursion}
use Rattle.rotor_base.specs.Files.{FileSet, IsProject, first_with, are_over, too_many, too_large}
use Rattle.rotor_base.specs.declared.refusal.LoadError.{LoadError}
use Rattle.rotor_base.specs.declared.source.SourceFile.{SourceFile}

-- neither of two is there
pub neither : (a b : Option LoadError) → option_or a b ≡ None → (a ≡ None) × (b ≡ None)
neither None b e = (refl, e)
neither (Some x) b e = cc

no_error : {X : Type 0} (b : Bool) (x : X) → cond b (Some x) None ≡ None → b ≡ false
no_error true x e = cc
no_error false x e = refl

not_yet : {X : Type 0} (b : Bool) (x : X) (later : Option X) → cond b (Some x) later ≡ None → later ≡ None
not_yet true x later e = cc
not_yet false x later e = e

-- a test that no front meets is not met by the whole list
none_first : {X : Type 0} (test : List X → Bool) (x : X) (xs : List X) → first_with test (x ∷ xs) ≡ None → test (x ∷ xs) ≡ false
none_first test x [] e = no_error (test (x ∷ [])) x e
none_first test x (y ∷ ys) e =
    none_first (λ front. test (x ∷ front)) y ys (not_yet (test (x ∷ [])) x (first_with (λ front. test (x ∷ front)) (y ∷ ys)) e)

both_false : (a b : Bool) → (a || b) ≡ false → (a ≡ false) × (b ≡ false)
both_false true b e = cc
both_false false b e = (refl, e)

at_most : (m n : ℕ) → nat_lt m n ≡ false → n ≤ m
at_most m n e = grind arith

each_small : (files : List SourceFile) → list_any (λ file. nat_lt 1048576 (length file.bytes)) files ≡ false
    → AllByRecursion (λ file. length file.bytes ≤ 1048576) files
each_small [] e = tt
each_small (x ∷ xs) e =
    let h = both_false (nat_lt 1048576 (length x.bytes)) (list_any (λ file. nat_lt 1048576 (length file.bytes)) xs) e in
    (at_most 1048576 (length x.bytes) h.0, each_small xs h.1)

no_more : (found : Option SourceFile) (f : SourceFile → LoadError) → option_map f found ≡ None → found ≡ None
no_more None f e = refl
no_more (Some x) f e = cc

-- sources that are not too large keep the limits on bytes
pub keep_limits : (files : List SourceFile) → too_large files ≡ None → are_over files ≡ false
unfolding too_large
keep_limits [] e = refl
keep_limits (x ∷ xs) e = none_first are_over x xs (no_more _ _ e)

pub few_of : (files : List SourceFile) → too_many files ≡ None → length files ≤ 2000
unfolding too_many
few_of files e = at_most 2000 (length files) (no_error (nat_lt 2000 (length files)) _ e)

-- the files of a project keep the limits
pub few_files : (files : FileSet) → IsProject files → length files.entries ≤ 2000
few_files files h = few_of files.entries (neither _ _ h.taken).0

project_fits : (files : FileSet) → IsProject files → are_over files.entries ≡ false
project_fits files h = keep_limits files.entries (neither _ _ (neither _ _ h.taken).1).0

pub small_files : (files : FileSet) → IsProject files → All (λ file. length file.bytes ≤ 1048576) files.entries
small_files files h = All-from_recursion (λ file. length file.bytes ≤ 1048576) files.entries
    (each_small files.entries (both_false _ _ (project_fits files h)).0)

pub total_fits : (files : FileSet) → IsProject files → sum_by (λ file. length file.bytes) files.entries ≤ 8388608
total_fits files h = at_most 8388608 (sum_by (λ file. length file.bytes) files.entries) (both_false _ _ (project_fits files h)).1
