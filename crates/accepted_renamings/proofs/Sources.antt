-- Sources that are respelled twice.
use Rattle.std.proofs.Common.{◌≡◌, ℕ, suc, List, [], ◌∷◌}
use Rattle.rotor_base.specs.declared.source.SourceFile.{SourceFile}
use Rattle.ml_lexer.specs.Lexed.{Lexeme}
use Rattle.ml_syntax.specs.RespelledSource.{Spellings, AreRespelled}
use Rattle.project_reading.specs.Respelled.{respelled_lists}
use Rattle.project_reading.specs.Sources.{AreCut}
use Rattle.accepted_renamings.proofs.Lexemes.{source_twice}

-- words that are those of two spellings, one after the other
module _ (c u w : Spellings) (same : (file at : ℕ) (x : List ℕ) → c file at x ≡ u file at (w file at x)) where
  pub sources_twice : (n : ℕ) (olds mids news : List SourceFile) (lists : List (List Lexeme)) → AreCut olds lists
      → AreCut mids (respelled_lists w n lists) → AreRespelled w n olds mids → AreRespelled u n mids news → AreRespelled c n olds news
  sources_twice n [] [] [] lists h k i j = tt
  sources_twice n [] [] (x ∷ news) lists h k i j = absurd j
  sources_twice n [] (m ∷ mids) news lists h k i j = absurd i
  sources_twice n (o ∷ olds) [] news lists h k i j = absurd i
  sources_twice n (o ∷ olds) (m ∷ mids) [] lists h k i j = absurd j
  sources_twice n (o ∷ olds) (m ∷ mids) (x ∷ news) [] h k i j = absurd h
  sources_twice n (o ∷ olds) (m ∷ mids) (x ∷ news) (xs ∷ lists) h k i j = (
    source_twice (c n) (u n) (w n) (same n) o m x xs h.0 k.0 i.0 j.0,
    sources_twice (suc n) olds mids news lists h.1 k.1 i.1 j.1,
  )
