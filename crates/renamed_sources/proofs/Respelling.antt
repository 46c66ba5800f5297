-- Respelled sources keep their names, and are there if the sources are cut.
use Rattle.std.proofs.Common.{ℕ, suc, List, [], ◌∷◌, refl, ap, ◌∙◌}
use Rattle.rotor_base.specs.declared.source.SourceFile.{SourceFile}
use Rattle.rotor_base.specs.Files.{names_of}
use Rattle.ml_lexer.specs.Lexed.{Lexeme, Lexed}
use Rattle.ml_lexer.specs.Respelled.{respelled}
use Rattle.ml_syntax.specs.RespelledFile.{new_words}
use Rattle.ml_syntax.specs.RespelledSource.{IsRespelled}
use Rattle.shape_core.specs.Respell.{Words}
use Rattle.binding_model.specs.Renaming.{in_file}
use Rattle.renamed_sources.specs.Laws.{RenamedKeepNames, SourcesCanBeRespelled}

pub renamed_keep_names : RenamedKeepNames
renamed_keep_names w n [] [] h = refl
renamed_keep_names w n [] (new ∷ news) h = absurd h
renamed_keep_names w n (old ∷ olds) [] h = absurd h
renamed_keep_names w n (old ∷ olds) (new ∷ news) h =
    ap (λ x. x ∷ names_of news) h.0.name ∙ ap (λ xs. old.name ∷ xs) (renamed_keep_names w (suc n) olds news h.1)

-- ---- respelled sources

-- a source, respelled along these lexemes
abbrev respelled_source : Words → ℕ → SourceFile → List Lexeme → SourceFile
respelled_source w n old xs = record { name = old.name; bytes = respelled old.bytes xs (new_words (in_file w n) 1 xs) }

is_so : (w : Words) (n : ℕ) (old : SourceFile) (xs : List Lexeme) → Lexed old.bytes xs → IsRespelled (in_file w n) old (respelled_source w n old xs)
is_so w n old xs cut = record { lexemes = xs; cut = cut; name = refl; bytes = refl }

pub sources_can_be_respelled : SourcesCanBeRespelled
sources_can_be_respelled w n [] lists h = ([], tt)
sources_can_be_respelled w n (old ∷ olds) [] h = absurd h
sources_can_be_respelled w n (old ∷ olds) (xs ∷ lists) h =
    let rest = sources_can_be_respelled w (suc n) olds lists h.1 in
    (respelled_source w n old xs ∷ rest.0, (is_so w n old xs h.0, rest.1))
