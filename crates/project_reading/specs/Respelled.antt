-- Respelled files, and the project that they are read as (the OCaml manual, "Names").
use Rattle.std.specs.Prelude.{◌≡◌, ℕ, suc, List, [], ◌∷◌, Option, Some, None, All, map}
use Rattle.rotor_base.specs.Files.{FileSet, IsProject}
use Rattle.ml_lexer.specs.Lexed.{Lexeme}
use Rattle.ml_lexer.specs.Respelled.{respelled_lexemes}
use Rattle.value_sites.specs.Places.{sites}
use Rattle.value_sites.specs.Respelled.{spell_file}
use Rattle.ml_syntax.specs.RespelledFile.{new_words, ChangesNames}
use Rattle.ml_syntax.specs.RespelledSource.{Spellings, AreRespelled}
use Rattle.ml_trees.specs.Tree.{FileTree, Body, Face, UnitTree}
use Rattle.project_reading.specs.Reads.{Reads}
use Rattle.project_reading.specs.Sources.{AreCut}

-- a tree with the words of its file
abbrev pub spell_tree : Spellings → FileTree → FileTree
spell_tree w (Body file is) = spell_file (w file) (Body file is)
spell_tree w (Face file is) = spell_file (w file) (Face file is)

-- a body or an interface so, or none
abbrev pub spell_part : Spellings → Option FileTree → Option FileTree
spell_part w None = None
spell_part w (Some tree) = Some (spell_tree w tree)

-- a unit whose trees are respelled
abbrev pub spell_unit : Spellings → UnitTree → UnitTree
spell_unit w u = record { name = u.name; body = spell_part w u.body; face = spell_part w u.face }

-- in this tree names of places alone are changed, to value names
abbrev pub ChangesNamesIn : Spellings → Option FileTree → Type 0
ChangesNamesIn w None = Unit {0}
ChangesNamesIn w (Some (Body file is)) = ChangesNames (w file) (sites (Body file is))
ChangesNamesIn w (Some (Face file is)) = ChangesNames (w file) (sites (Face file is))

-- the lexemes of these sources, numbered from here, respelled: as many, of the same classes
abbrev pub respelled_lists : Spellings → ℕ → List (List Lexeme) → List (List Lexeme)
respelled_lists w number [] = []
respelled_lists w number (xs ∷ lists) = respelled_lexemes xs (new_words (w number) 1 xs) ∷ respelled_lists w (suc number) lists

-- Respelling keeps the lexemes. If names of places alone are changed, to value names, the respelled sources are cut
-- into the respelled lexemes.
abbrev pub RespellingKeepsTheLexemes : Type 0
RespellingKeepsTheLexemes =
    (w : Spellings) (old new : FileSet) (project : List UnitTree) (lists : List (List Lexeme))
    → IsProject old → Reads old project → All (λ u. ChangesNamesIn w u.body × ChangesNamesIn w u.face) project
    → AreRespelled w 0 old.entries new.entries → AreCut old.entries lists
    → AreCut new.entries (respelled_lists w 0 lists)

-- Respelling keeps the reading. If names of places alone are changed, to value names, the respelled files are read as
-- the respelled project. Its units have the same order.
abbrev pub RespellingKeepsTheReading : Type 0
RespellingKeepsTheReading =
    (w : Spellings) (old new : FileSet) (project : List UnitTree)
    → IsProject old → Reads old project → All (λ u. ChangesNamesIn w u.body × ChangesNamesIn w u.face) project
    → AreRespelled w 0 old.entries new.entries → new.manifest ≡ old.manifest
    → Reads new (map (spell_unit w) project)
