-- A fixed word is found among the spellings that begin with its first byte.
use Rattle.std.proofs.Common.{◌≡◌, ℕ, List, [], ◌∷◌, Option, Some, None, slice_get, refl, ap, sym, ◌∙◌}
use Rattle.ml_trees.specs.declared.fixed.Fixed.{Fixed}
use Rattle.ml_trees.specs.Tok.{fixed_of, fixed_among}

pub none_empty : (bytes : List ℕ) → None ≡ slice_get bytes 0 → None ≡ fixed_of bytes
unfolding fixed_of
none_empty [] e = refl
none_empty (b ∷ bytes) e = cc

module _ {A : Type 0} (text : A → List ℕ) (meant : A → Fixed) (table : List A) (first : ℕ) (found : Option Fixed) where
  pub found_there : (bytes : List ℕ) → ((rest : List ℕ) → fixed_among text meant (first ∷ rest) table ≡ fixed_of (first ∷ rest))
      → Some first ≡ slice_get bytes 0 → found ≡ fixed_among text meant bytes table → found ≡ fixed_of bytes
  found_there [] all e f = cc
  found_there (b ∷ bytes) all e f =
      let same : first ≡ b = cc in
      f ∙ ap (λ x. fixed_among text meant (x ∷ bytes) table) (sym same) ∙ all bytes ∙ ap (λ x. fixed_of (x ∷ bytes)) same
