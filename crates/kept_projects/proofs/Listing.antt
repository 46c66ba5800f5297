-- The tokens of the sources of a project.
use Rattle.std.proofs.Common.{ℕ, suc, inl, inr, List, [], ◌∷◌, map}
use Rattle.rotor_base.specs.declared.source.SourceFile.{SourceFile}
use Rattle.ml_lexer.specs.Lexed.{Lexed, Lexeme, view_tokens}
use Rattle.ml_lexer.proofs.OneCutting.{not_both}
use Rattle.ml_trees.specs.Tree.{FileTree}
use Rattle.project_reading.specs.Source.{ReadsAs}
use Rattle.project_reading.specs.Sources.{AreCut, ReadAll}
use Rattle.refusal_words.specs.Cut.{AreCuts, AreLexemes, view_cut}
use Rattle.refusal_words.specs.declared.cut.CutSource.{CutSource}

-- a source that is read is cut into its lexemes
read_is_cut : (number : ℕ) (source : SourceFile) (tree : FileTree) (xs : List Lexeme) → ReadsAs number source tree → AreLexemes source.bytes xs
    → Lexed source.bytes xs
read_is_cut number source tree xs read (inl cut) = cut
read_is_cut number source tree xs read (inr fault) = absurd (not_both read.plain.cut fault.1)

pub cut_lists : (number : ℕ) (sources : List SourceFile) (cuts : List CutSource) (trees : List FileTree) → AreCuts sources (map view_cut cuts)
    → ReadAll number sources trees → AreCut sources (map (λ cut. view_tokens cut.tokens.items) cuts)
cut_lists number [] [] trees cut read = tt
cut_lists number [] (c ∷ cuts) trees cut read = absurd cut
cut_lists number (source ∷ sources) [] trees cut read = absurd cut
cut_lists number (source ∷ sources) (c ∷ cuts) [] cut read = absurd read
cut_lists number (source ∷ sources) (c ∷ cuts) (tree ∷ trees) cut read =
    (read_is_cut number source tree (view_tokens c.tokens.items) read.0 cut.0.lexemes, cut_lists (suc number) sources cuts trees cut.1 read.1)
