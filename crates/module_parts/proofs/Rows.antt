-- Readings that depend on whether a list is empty, or on more than one token.
use Rattle.std.proofs.Common.{◌≡◌, ℕ, ◌<◌, List, [], ◌∷◌, length, true, false, Some, None, refl, arith}
use Rattle.rotor_base.specs.declared.token.Class.TheVariants as class
use Rattle.ml_trees.specs.declared.word.Word.{Word}
use Rattle.ml_trees.specs.declared.fixed.Fixed.TheVariants as key
use Rattle.ml_trees.specs.Tok.{Tok, fixed, placed, word}
use Rattle.ml_trees.specs.Tree as pure
use Rattle.ml_trees.specs.View.{view_words}
use Rattle.ml_trees.specs.WellFormed.{is_constraint_sign}
use Rattle.token_reading.specs.Gives.{starts}
use Rattle.token_reading.specs.Rows.{first_is}
use Rattle.module_reading.specs.ModReading as r
use Rattle.module_reading.specs.ModReading.{read_mod, read_type}
use Rattle.module_parts.specs.Parts.{names_module, module_type_sig, alias_sig}

-- ---- rows that have a part, or none

pub external_none : (x : pure.ValueName) (run : List Tok) (at : ℕ) (xs : List Word) (ts : List Tok) → length xs ≡ 0
    → r.external_end x run at (view_words xs, ts) ≡ None
external_none x run at [] ts h = refl
external_none x run at (y ∷ ys) ts h = absurd (omega arith)

pub external_some : (x : pure.ValueName) (run : List Tok) (at : ℕ) (xs : List Word) (ts : List Tok) → 0 < length xs
    → r.external_end x run at (view_words xs, ts) ≡ Some (record { name = x; run = run; at = at; texts = view_words xs }, ts)
external_some x run at [] ts h = absurd (omega arith)
external_some x run at (y ∷ ys) ts h = refl

pub ruleset externals = (external_none, external_some)

-- ---- the sign of a constraint

pub sign_none : (ts : List Tok) → first_is is_constraint_sign ts ≡ false → r.constraint_sign ts ≡ None
sign_none [] h = refl
sign_none (t ∷ ts) h = rw h refl

pub sign_some : (t : Tok) (ts : List Tok) → is_constraint_sign t ≡ true → r.constraint_sign (t ∷ ts) ≡ Some (t, ts)
sign_some t ts h = rw h refl

pub ruleset signs = (sign_none, sign_some)

-- ---- what a `module` begins

module _ (d : ℕ) where
  pub sig_type : (at : ℕ) (ts : List Tok) → r.sig_item (read_mod d) (read_type d) d (placed key.Module at ∷ fixed key.Type ∷ ts) ≡ module_type_sig d
      at ts
  unfolding r.sig_item
  sig_type at (word class.Upper x ∷ placed key.Equals q ∷ ts) = refl
  sig_type at (word class.Upper x ∷ _) = refl
  sig_type at _ = refl

  pub sig_alias : (at : ℕ) (ts : List Tok) → names_module ts ≡ true
      → r.sig_item (read_mod d) (read_type d) d (placed key.Module at ∷ ts) ≡ alias_sig d at ts
  unfolding r.sig_item
  sig_alias at (word class.Upper x ∷ placed key.Equals q ∷ ts) h = refl
  sig_alias at _ h = absurd cc

  pub sig_rest : (at : ℕ) (ts : List Tok) → starts key.Type ts ≡ false → names_module ts ≡ false
      → r.sig_item (read_mod d) (read_type d) d (placed key.Module at ∷ ts) ≡ r.module_sig_rest (read_mod d) (read_type d) d at ts
  unfolding r.sig_item
  sig_rest at (fixed key.Type ∷ ts) h k = absurd cc
  sig_rest at (word class.Upper x ∷ placed key.Equals q ∷ ts) h k = absurd cc
  sig_rest at _ h k = refl

pub ruleset module_sigs = (sig_type, sig_alias, sig_rest)
