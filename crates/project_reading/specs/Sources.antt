-- What the sources of a project are read as, one after another, each with its number (own).
use Rattle.std.specs.Prelude.{◌≡◌, ◌⊎◌, ℕ, suc, List, [], ◌∷◌}
use Rattle.rotor_base.specs.declared.refusal.Refusal.{Refusal}
use Rattle.rotor_base.specs.declared.refusal.Refusal.TheVariants as refusal
use Rattle.rotor_base.specs.declared.source.SourceFile.{SourceFile}
use Rattle.ml_lexer.specs.Lexed.{Lexeme, Lexed}
use Rattle.ml_trees.specs.Tree.{FileTree}
use Rattle.project_reading.specs.Source.{ReadsAs, IsUnread}

-- the sources, numbered from here, are read as these trees
abbrev pub ReadAll : ℕ → List SourceFile → List FileTree → Type 0
ReadAll number [] [] = Unit {0}
ReadAll number [] (tree ∷ trees) = ⊥
ReadAll number (source ∷ sources) [] = ⊥
ReadAll number (source ∷ sources) (tree ∷ trees) = ReadsAs number source tree × ReadAll (suc number) sources trees

-- of the sources, numbered from here, one is not read, those before it are, and this says why
abbrev pub FirstUnread : ℕ → List SourceFile → Refusal → Type 0
FirstUnread number [] refusal = ⊥
FirstUnread number (source ∷ sources) refusal =
    IsUnread number source refusal ⊎ ((tree : FileTree) × ReadsAs number source tree × FirstUnread (suc number) sources refusal)

-- each source is cut into one of these lists of lexemes
abbrev pub AreCut : List SourceFile → List (List Lexeme) → Type 0
AreCut [] [] = Unit {0}
AreCut [] (xs ∷ lists) = ⊥
AreCut (source ∷ sources) [] = ⊥
AreCut (source ∷ sources) (xs ∷ lists) = Lexed source.bytes xs × AreCut sources lists

-- sources, numbered from 0, are refused so: rightly, or for want of memory
abbrev pub AreSourcesRefused : List SourceFile → Refusal → Type 0
AreSourcesRefused sources why = FirstUnread 0 sources why ⊎ (why ≡ refusal.Memory)
