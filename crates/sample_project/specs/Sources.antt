-- The files that `sample` renames in (own).
use Rattle.std.specs.Prelude.{ℕ, zero, suc, ◌+◌, ◌*◌, List, [], ◌∷◌, ◌++◌, None, map, filter, flat_map, nat_lt, codes}
use Rattle.std.specs.Fmt.{decimal}
use Rattle.rotor_base.specs.Files.{FileSet}
use Rattle.rotor_base.specs.declared.source.SourceFile.{SourceFile}

abbrev pub nonzero_digits : List ℕ
nonzero_digits = 1 ∷ 2 ∷ 3 ∷ 4 ∷ 5 ∷ 6 ∷ 7 ∷ 8 ∷ 9 ∷ []

abbrev pub digits : List ℕ
digits = 0 ∷ nonzero_digits

-- a number, and then the numbers with one digit more
abbrev pub with_digit : ℕ → List ℕ
with_digit m = m ∷ map (λ digit. 10 * m + digit) digits

-- a number, and then the numbers with one digit or two more
abbrev pub with_digits : ℕ → List ℕ
with_digits m = m ∷ flat_map (λ digit. with_digit (10 * m + digit)) digits

-- the numbers below 1,000, in byte order of their decimals
abbrev pub numbers : List ℕ
numbers = 0 ∷ flat_map with_digits nonzero_digits

-- the name of a unit's source
abbrev pub source_name : ℕ → List ℕ
source_name k = codes "u" ++ (decimal k ++ codes ".ml")

-- the text of the first unit, and of each other one
abbrev pub source_text : ℕ → List ℕ
source_text zero = codes "module type S = sig val f : int end\nmodule Base = struct let f = 1 end\n"
source_text (suc k) = codes "module M (X : U0.S) = struct include X let g = f + f end\nmodule A = M (U0.Base)\nlet h = A.f\n"

abbrev pub source_of : ℕ → SourceFile
source_of k = record { name = source_name k; bytes = source_text k }

-- the sources of those numbers that are below a bound
abbrev pub sources_below : ℕ → List ℕ → List SourceFile
sources_below n ks = map source_of (filter (λ k. nat_lt k n) ks)

-- the sources of the units below a number, in byte order of their names, without a manifest
abbrev pub sample_files : ℕ → FileSet
sample_files n = record { entries = sources_below n numbers; manifest = None }
