-- Units with the name of OCaml's standard library: OCaml opens such a unit first in every other (the OCaml manual, "The core
-- library", the initially opened module).
use Rattle.std.specs.Prelude.{ℕ, List, [], ◌∷◌, ◌++◌, Bool, Option, Some, None, codes, cond}
use Rattle.std.specs.Str.{bytes_eq}
use Rattle.rotor_base.specs.declared.place.Place.{Place}
use Rattle.ml_lexer.specs.Lexed.{Lexeme}
use Rattle.ml_trees.specs.Tree.{FileTree, UnitTree}
use Rattle.shape_core.specs.Shape.{or_else}
use Rattle.module_openings.specs.Sources.{file_of, lexemes_of}
use Rattle.reading_differences.specs.declared.difference.Difference.{Difference}
use Rattle.reading_differences.specs.declared.difference.Parting.TheVariants.{Standard}

abbrev pub is_standard : UnitTree → Bool
is_standard u = bytes_eq u.name (codes "Stdlib")

-- the first of the lexemes of a file, if it has one
abbrev pub first_of : ℕ → List Lexeme → Option Place
first_of file [] = None
first_of file (x ∷ xs) = Some (record { file = file; token = 1 })

abbrev pub first_in : List (List Lexeme) → Option FileTree → Option Place
first_in lists None = None
first_in lists (Some tree) = first_of (file_of tree) (lexemes_of lists (file_of tree))

-- in the interface of a unit, or else in its body
abbrev pub unit_first : List (List Lexeme) → UnitTree → Option Place
unit_first lists u = or_else (first_in lists u.face) (first_in lists u.body)

-- the same, if the unit has that name
abbrev pub standard_start : List (List Lexeme) → UnitTree → Option Place
standard_start lists u = cond (is_standard u) (unit_first lists u) None

abbrev pub opened_first : Option Place → List Difference
opened_first None = []
opened_first (Some at) = record { at = at; how = Standard } ∷ []

-- of all units
abbrev pub standard_units : List (List Lexeme) → List UnitTree → List Difference
standard_units lists [] = []
standard_units lists (u ∷ us) = opened_first (standard_start lists u) ++ standard_units lists us
