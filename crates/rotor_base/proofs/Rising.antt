-- Sources in strict byte order of their names have each name once.
use Rattle.std.proofs.Common.{◌≡◌, ℕ, zero, suc, true, false, List, [], ◌∷◌, Some, slice_get, refl, sym, ap, subst, ◌∙◌}
use Rattle.std.specs.List.{AllByRecursion}
use Rattle.std.specs.declared.cmp.Ordering.TheVariants.{Less}
use Rattle.std.specs.Ordering.{nat_cmp, is_eq}
use Rattle.std.specs.Cmp.Lexicographic.{slice_cmp}
use Rattle.std.proofs.lemmas.Map.Text.{is_eq-slice_cmp}
use Rattle.std.proofs.lemmas.Slice.Eq.{bytes_eq-Decides}
use Rattle.rotor_base.specs.Files.{names_of}
use Rattle.rotor_base.specs.declared.source.SourceFile.{SourceFile}

pub some_is : {A : Type 0} (x y : A) → Some x ≡ Some y → x ≡ y
some_is x y e = cc

-- a word that is below the names of sources is below each of them
below_at : (x : List ℕ) (fs : List SourceFile) (k : ℕ) (f : SourceFile) → AllByRecursion (λ y. slice_cmp nat_cmp x y ≡ Less) (names_of fs)
    → slice_get fs k ≡ Some f
    → slice_cmp nat_cmp x f.name ≡ Less
below_at x [] k f h e = cc
below_at x (g ∷ fs) zero f h e = subst (λ (y : SourceFile). slice_cmp nat_cmp x y.name ≡ Less) (some_is g f e) h.0
below_at x (g ∷ fs) (suc k) f h e = below_at x fs k f h.1 e

not_below : (x : List ℕ) → slice_cmp nat_cmp x x ≡ Less → ⊥
not_below x e =
    let same : is_eq (slice_cmp nat_cmp x x) ≡ true = is_eq-slice_cmp x x ∙ (bytes_eq-Decides x x).1 refl in
    let bad : false ≡ true = sym (ap is_eq e) ∙ same in
    absurd cc

-- and so it is the name of none
pub not_named : (x : List ℕ) (fs : List SourceFile) (k : ℕ) (f : SourceFile) → AllByRecursion (λ y. slice_cmp nat_cmp x y ≡ Less) (names_of fs)
    → slice_get fs k ≡ Some f
    → x ≡ f.name → ⊥
not_named x fs k f h e same = not_below x (subst (λ (n : List ℕ). slice_cmp nat_cmp x n ≡ Less) (sym same) (below_at x fs k f h e))
