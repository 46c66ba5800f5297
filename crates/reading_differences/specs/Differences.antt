-- The places at which OCaml may read a project otherwise than the book (its decisions, "Where this reading differs from
-- OCaml's own").
use Rattle.std.specs.Prelude.{◌≡◌, ℕ, ◌+◌, List, [], ◌∷◌, ◌++◌, Bool, true, false, is_some, map}
use Rattle.rotor_base.specs.Files.{FileSet}
use Rattle.rotor_base.specs.declared.source.SourceFile.{SourceFile}
use Rattle.ml_lexer.specs.Lexed.{Lexeme}
use Rattle.ml_trees.specs.Tree.{UnitTree}
use Rattle.binding_model.specs.Facts.{in_order}
use Rattle.project_reading.specs.Reads.{Reads}
use Rattle.project_reading.specs.Sources.{AreCut}
use Rattle.reading_differences.specs.Applied.{applications_in}
use Rattle.reading_differences.specs.Comments.{comments_in}
use Rattle.reading_differences.specs.Indexed.{indexing}
use Rattle.module_openings.specs.Opened.{opened_modules}
use Rattle.module_openings.specs.Sources.{lexemes_of}
use Rattle.module_openings.specs.declared.opened.OpenedUse.{OpenedUse}
use Rattle.reading_differences.specs.Late.{late_needs}
use Rattle.reading_differences.specs.Standard.{standard_units}
use Rattle.reading_differences.specs.declared.difference.Difference.{Difference}
use Rattle.reading_differences.specs.declared.difference.Indexed.TheVariants.{Array, String}
use Rattle.reading_differences.specs.declared.difference.Parting.TheVariants.{Opened}

-- the functors that are applied in types, of sources from this number on
abbrev pub applications : ℕ → List (List Lexeme) → List Difference
applications file [] = []
applications file (xs ∷ lists) = applications_in file [] 1 xs ++ applications (file + 1) lists

-- the quotes behind names in comments
abbrev pub comments : List (List Lexeme) → ℕ → List SourceFile → List Difference
comments lists file [] = []
comments lists file (source ∷ sources) = comments_in file source.bytes 0 0 (lexemes_of lists file) ++ comments lists (file + 1) sources

-- a list of units may have them in any order, and without one each unit is linked behind those that it needs
abbrev pub late_if : Bool → List (List Lexeme) → List UnitTree → List Difference
late_if true lists us = late_needs lists us
late_if false lists us = []

-- the use of a module behind an opening
abbrev pub opened_use : OpenedUse → Difference
opened_use u = record { at = u.at; how = Opened u.name u.by }

-- of all kinds
abbrev pub found_among : Bool → List SourceFile → List UnitTree → List (List Lexeme) → List Difference
found_among listed sources us lists =
    indexing Array lists us ++ indexing String lists us ++ map opened_use (opened_modules lists us) ++ applications 0 lists
    ++ comments lists 0 sources ++ late_if listed lists us ++ standard_units lists us

-- in the order of their places
abbrev pub differences_of : FileSet → List UnitTree → List (List Lexeme) → List Difference
differences_of files us lists = in_order (λ d. d.at) (found_among (is_some files.manifest) files.entries us lists)

-- those of files that are read as a project
pub record AreDifferences (files : FileSet) (list : List Difference) : Type 0 where
  pub project : List UnitTree
  pub lists : List (List Lexeme)
  pub reads : Reads files project
  pub cut : AreCut files.entries lists
  pub are : list ≡ differences_of files project lists
