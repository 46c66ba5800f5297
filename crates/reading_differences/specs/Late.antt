-- Units that are linked behind a unit that needs them (the OCaml manual, "Batch compilation": no linker takes that order).
use Rattle.std.specs.Prelude.{ℕ, ◌+◌, List, [], ◌∷◌, ◌++◌, Bool, false, ◌&&◌, not, Option, Some, None, cond}
use Rattle.std.specs.Str.{bytes_eq}
use Rattle.rotor_base.specs.declared.place.Place.{Place}
use Rattle.ml_lexer.specs.Lexed.{Lexeme}
use Rattle.ml_trees.specs.Tree.{FileTree, UnitTree}
use Rattle.unit_heads.specs.Heads.{is_among, unit_heads}
use Rattle.shape_core.specs.Shape.{or_else}
use Rattle.module_openings.specs.Lexemes.{is, is_upper}
use Rattle.module_openings.specs.Sources.{file_of, lexemes_of}
use Rattle.reading_differences.specs.declared.difference.Difference.{Difference}
use Rattle.reading_differences.specs.declared.difference.Parting.TheVariants.{Order}

-- The number of the first lexeme that is this name and no later step of a path. `named`: the lexeme before is a name of a
-- module or a constructor. `stepped`: it is a `.` behind one.
abbrev pub first_head : List ℕ → Bool → Bool → ℕ → List Lexeme → Option ℕ
first_head name named stepped number [] = None
first_head name named stepped number (x ∷ xs) =
    cond (not stepped && is_upper x && bytes_eq x.bytes name) (Some number) (first_head name (is_upper x) (named && is "." x) (number + 1) xs)

abbrev pub in_file : ℕ → Option ℕ → Option Place
in_file file None = None
in_file file (Some number) = Some (record { file = file; token = number })

-- its place in a file
abbrev pub head_in : List (List Lexeme) → Option FileTree → List ℕ → Option Place
head_in lists None name = None
head_in lists (Some tree) name = in_file (file_of tree) (first_head name false false 1 (lexemes_of lists (file_of tree)))

-- in the body of a unit, or else in its interface
abbrev pub needed_head : List (List Lexeme) → UnitTree → List ℕ → Option Place
needed_head lists u name = or_else (head_in lists u.body name) (head_in lists u.face name)

-- the same, if the unit needs the unit of this name
abbrev pub late_head : List (List Lexeme) → UnitTree → List ℕ → Option Place
late_head lists u name = cond (is_among (unit_heads u) name) (needed_head lists u name) None

abbrev pub late : List ℕ → List ℕ → Option Place → List Difference
late name needed None = []
late name needed (Some at) = record { at = at; how = Order name needed } ∷ []

-- those of later units that a unit needs
abbrev pub late_behind : List (List Lexeme) → UnitTree → List UnitTree → List Difference
late_behind lists u [] = []
late_behind lists u (other ∷ others) = late u.name other.name (late_head lists u other.name) ++ late_behind lists u others

-- of all units, in link order
abbrev pub late_needs : List (List Lexeme) → List UnitTree → List Difference
late_needs lists [] = []
late_needs lists (u ∷ us) = late_behind lists u us ++ late_needs lists us
