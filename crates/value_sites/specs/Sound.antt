-- Sound projects: what the trees that were read have in common (own; the lexemes are those of the OCaml manual,
-- "Lexical conventions").
use Rattle.std.specs.Prelude.{◌≡◌, ◌≢◌, ℕ, ◌+◌, ◌≤◌, List, [], ◌∷◌, ◌++◌, All, length, map, Option, Some, None}
use Rattle.rotor_base.specs.Limits.{max_file_bytes}
use Rattle.rotor_base.specs.declared.token.Class.{Class}
use Rattle.ml_lexer.specs.declared.piece.Piece.TheVariants as piece
use Rattle.ml_lexer.specs.Pieces.{piece_at}
use Rattle.ml_trees.specs.Tok.{Tok, toks_from}
use Rattle.ml_trees.specs.Tree.{Expr, FileTree, Body, Face, UnitTree}
use Rattle.ml_trees.specs.Words.{words, expr_words}
use Rattle.ml_trees.specs.WellFormed.{WfFile}

-- a whole lexeme of this class
abbrev pub IsLexeme : Class × List ℕ → Type 0
IsLexeme x = piece_at x.1 ≡ piece.Lexeme x.0 (length x.1)

-- lexemes of their classes, numbered one by one from this token
abbrev pub AreNumbered : ℕ → List Tok → Type 0
AreNumbered at ts = (xs : List (Class × List ℕ)) × (ts ≡ toks_from at xs) × All IsLexeme xs

-- the words of an expression are numbered within a file
abbrev pub IsWithinFile : Expr → Type 0
IsWithinFile e = (at : ℕ) × (1 ≤ at) × AreNumbered at (expr_words e) × (at + length (expr_words e) ≤ 1048577)

abbrev pub IsSoundFile : FileTree → Type 0
IsSoundFile t = WfFile t × AreNumbered 1 (words t) × (length (words t) ≤ max_file_bytes)

-- none, or a sound body
abbrev pub IsBodyPart : Option FileTree → Type 0
IsBodyPart None = Unit {0}
IsBodyPart (Some (Body file is)) = IsSoundFile (Body file is)
IsBodyPart (Some (Face file is)) = ⊥

-- none, or a sound interface
abbrev pub IsFacePart : Option FileTree → Type 0
IsFacePart None = Unit {0}
IsFacePart (Some (Body file is)) = ⊥
IsFacePart (Some (Face file is)) = IsSoundFile (Face file is)

abbrev pub HasPart : Option FileTree → Option FileTree → Type 0
HasPart None None = ⊥
HasPart _ _ = Unit {0}

abbrev pub IsSoundUnit : UnitTree → Type 0
IsSoundUnit u = IsBodyPart u.body × IsFacePart u.face × HasPart u.body u.face

-- the numbers of the files
abbrev pub part_files : Option FileTree → List ℕ
part_files None = []
part_files (Some (Body file is)) = file ∷ []
part_files (Some (Face file is)) = file ∷ []

abbrev pub unit_files : List UnitTree → List ℕ
unit_files [] = []
unit_files (u ∷ us) = part_files u.body ++ (part_files u.face ++ unit_files us)

-- none of these is one of those behind it
abbrev pub AreDistinct : {A : Type 0} → List A → Type 0
AreDistinct [] = Unit {0}
AreDistinct (x ∷ xs) = All (λ y. x ≢ y) xs × AreDistinct xs

-- Sound project: sound trees, no two of one file number, and no two units of one name
abbrev pub IsSound : List UnitTree → Type 0
IsSound us = All IsSoundUnit us × AreDistinct (unit_files us) × AreDistinct (map (λ u. u.name) us)
