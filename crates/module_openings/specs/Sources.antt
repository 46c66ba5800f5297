-- The lexemes of the files of a unit (own).
use Rattle.std.specs.Prelude.{ℕ, List, [], slice_get, unwrap_or}
use Rattle.ml_lexer.specs.Lexed.{Lexeme}
use Rattle.ml_trees.specs.Tree.{FileTree, Body, Face}

-- the number of a file
abbrev pub file_of : FileTree → ℕ
file_of (Body file is) = file
file_of (Face file is) = file

-- the lexemes of the source of a number, among those of all sources
abbrev pub lexemes_of : List (List Lexeme) → ℕ → List Lexeme
lexemes_of lists file = unwrap_or (slice_get lists file) []
