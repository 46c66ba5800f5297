-- Sources that are read are cut.
use Rattle.std.proofs.Common.{◌≡◌, ℕ, zero, suc, List, [], ◌∷◌, Some, None, slice_get, subst}
use Rattle.rotor_base.specs.declared.source.SourceFile.{SourceFile}
use Rattle.ml_lexer.specs.Lexed.{Lexeme, Lexed}
use Rattle.ml_trees.specs.Tree.{FileTree}
use Rattle.project_reading.specs.Sources.{ReadAll, AreCut}

-- each source is cut into lexemes
abbrev pub HaveCuts : List SourceFile → Type 0
HaveCuts ss = (lists : List (List Lexeme)) × AreCut ss lists

pub all_cut : (n : ℕ) (ss : List SourceFile) (ts : List FileTree) → ReadAll n ss ts → HaveCuts ss
all_cut n [] [] h = ([], tt)
all_cut n [] (t ∷ ts) h = absurd h
all_cut n (s ∷ ss) [] h = absurd h
all_cut n (s ∷ ss) (t ∷ ts) h = let r = all_cut (suc n) ss ts h.1 in (h.0.lexemes ∷ r.0, (h.0.plain.cut, r.1))

some_source : {a b : SourceFile} → Some a ≡ Some b → a ≡ b
some_source e = cc

pub cut_at : (ss : List SourceFile) (n : ℕ) (s : SourceFile) → HaveCuts ss → slice_get ss n ≡ Some s → (xs : List Lexeme) × Lexed s.bytes xs
cut_at [] n s cuts e = let bad : None ≡ Some s = e in cc
cut_at (x ∷ ss) n s ([], h) e = absurd h
cut_at (x ∷ ss) zero s (xs ∷ lists, h) e = subst (λ (s : SourceFile). (xs : List Lexeme) × Lexed s.bytes xs) (some_source e) (xs, h.0)
cut_at (x ∷ ss) (suc n) s (xs ∷ lists, h) e = cut_at ss n s (lists, h.1) e
