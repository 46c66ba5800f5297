-- Reading the parts before arrows one after the other, as the loops do.
use Rattle.std.proofs.Common.{◌≡◌, ◌∙◌, refl, sym, ap, ℕ, suc, ◌-◌, ◌+◌, ◌<◌, List, [], ◌∷◌, ◌++◌, Option, arith}
use Rattle.rotor_base.specs.declared.token.Token.{Token}
use Rattle.ml_trees.specs.Tok.{Tok}
use Rattle.ml_trees.specs.Tree.{ModType}
use Rattle.token_reading.specs.Tokens.{from}
use Rattle.module_parts.specs.declared.arrows.Domain.{Domain}
use Rattle.module_reading.specs.ModReading.{read_mod, read_type, mod_type}
use Rattle.module_parts.specs.Arrows.{before_arrow, before_arrows}

-- one more arrow
pub arrows_last : (end : ℕ → List Tok) (xs : List Domain) (x : Domain) (r : Option (ModType × List Tok))
    → before_arrows end (xs ++ x ∷ []) r ≡ before_arrows end xs (before_arrow end x r)
arrows_last end [] x r = refl
arrows_last end (y ∷ xs) x r = ap (before_arrow end y) (arrows_last end xs x r)

-- the readers of a turn, with the levels of depth that are left
abbrev pub turn_type : ℕ → List Tok → Option (ModType × List Tok)
turn_type d ts = mod_type (read_mod d) (read_type d) d ts

module _ (ts : List Token) (whole : Option (ModType × List Tok)) (xs : List Domain) (n i at : ℕ) where
  -- what a turn reads is what is still to read
  pub turned : (o : Option (ModType × List Tok)) → i < n → turn_type (n - i - 1) (from ts at) ≡ o
      → whole ≡ before_arrows (from ts) xs (read_type (n - i) (from ts at)) → whole ≡ before_arrows (from ts) xs o
  unfolding read_type
  turned o lt e w =
      let s : n - i ≡ suc (n - i - 1) = omega arith in
      let one : read_type (n - i) (from ts at) ≡ o = rw s e in
      w ∙ ap (before_arrows (from ts) xs) one

  -- a turn reads the part before an arrow
  pub turned_on : (ys : List Domain) (x : Domain) (after : ℕ) → ys ≡ xs ++ x ∷ [] → i < n
      → turn_type (n - i - 1) (from ts at) ≡ before_arrow (from ts) x (read_type (n - i - 1) (from ts after))
      → whole ≡ before_arrows (from ts) xs (read_type (n - i) (from ts at))
      → whole ≡ before_arrows (from ts) ys (read_type (n - (i + 1)) (from ts after))
  turned_on ys x after p lt e w =
      let s : n - (i + 1) ≡ n - i - 1 = omega arith in
      rw (p, s) (turned (before_arrow (from ts) x (read_type (n - i - 1) (from ts after))) lt e w
      ∙ sym (arrows_last (from ts) xs x (read_type (n - i - 1) (from ts after))))

-- a loop that goes back takes one more
pub taken_back : (end : ℕ → List Tok) (xs ys : List Domain) (x : Domain) (behind whole : Option (ModType × List Tok)) → xs ≡ ys ++ x ∷ []
    → whole ≡ before_arrow end x behind → before_arrows end xs behind ≡ before_arrows end ys whole
taken_back end xs ys x behind whole p q = rw p (arrows_last end ys x behind ∙ ap (before_arrows end ys) (sym q))
