-- Readings that depend on whether a list is empty, or on more than one token.
use Rattle.std.proofs.Common.{◌≡◌, ℕ, ◌<◌, List, [], ◌∷◌, length, map, true, false, Some, None, refl, arith}
use Rattle.rotor_base.specs.declared.token.Class.TheVariants as class
use Rattle.ml_trees.specs.declared.module.WithClause.{WithClause}
use Rattle.ml_trees.specs.declared.module.ModArgument.{ModArgument}
use Rattle.ml_trees.specs.declared.module.FunctorParam.{FunctorParam}
use Rattle.ml_trees.specs.declared.fixed.Fixed.TheVariants as key
use Rattle.ml_trees.specs.Tok.{Tok, fixed, placed, word}
use Rattle.ml_trees.specs.Tree as pure
use Rattle.ml_trees.specs.View.{view_with, mod_arguments, functor_params}
use Rattle.token_reading.specs.Steps.{◌>>=◌, expect}
use Rattle.token_reading.specs.Gives.{starts}
use Rattle.module_reading.specs.ModReading as r
use Rattle.module_reading.specs.ModReading.{read_mod, read_type}
use Rattle.parse_module.specs.Parts.{module_type_item, type_of}

-- ---- rows that have a part, or none

pub apply_none : (m : pure.ModExpr) (xs : List ModArgument) → length xs ≡ 0 → r.grown_mod m (mod_arguments xs) ≡ m
apply_none m [] h = refl
apply_none m (x ∷ xs) h = absurd (omega arith)

pub apply_some : (m : pure.ModExpr) (xs : List ModArgument) → 0 < length xs → r.grown_mod m (mod_arguments xs) ≡ pure.ModApply m (mod_arguments xs)
apply_some m [] h = absurd (omega arith)
apply_some m (x ∷ xs) h = refl

pub ruleset applications = (apply_none, apply_some)

module _ (d : ℕ) where
  -- ---- parameters behind `functor`

  pub functor_none : (at : ℕ) (ps : List FunctorParam) (ts : List Tok) → length ps ≡ 0
      → r.functor_end (read_mod d) (read_type d) d at (functor_params ps) ts ≡ None
  functor_none at [] ts h = refl
  functor_none at (p ∷ ps) ts h = absurd (omega arith)

  pub functor_some : (at : ℕ) (ps : List FunctorParam) (ts : List Tok) → 0 < length ps
      → r.functor_end (read_mod d) (read_type d) d at (functor_params ps) ts
      ≡ (expect key.Arrow ts >>= λ q. read_mod d q >>= λ m. Some (pure.Functor at (functor_params ps) m.0, m.1))
  functor_some at [] ts h = absurd (omega arith)
  functor_some at (p ∷ ps) ts h = refl

  pub functor_type_none : (at : ℕ) (ps : List FunctorParam) (ts : List Tok) → length ps ≡ 0
      → r.functor_type_end (read_mod d) (read_type d) d at (functor_params ps) ts ≡ None
  functor_type_none at [] ts h = refl
  functor_type_none at (p ∷ ps) ts h = absurd (omega arith)

  pub functor_type_some : (at : ℕ) (ps : List FunctorParam) (ts : List Tok) → 0 < length ps
      → r.functor_type_end (read_mod d) (read_type d) d at (functor_params ps) ts
      ≡ (expect key.Arrow ts >>= λ q. read_type d q >>= λ s. Some (pure.FunctorType at (functor_params ps) s.0, s.1))
  functor_type_some at [] ts h = absurd (omega arith)
  functor_type_some at (p ∷ ps) ts h = refl

  -- ---- behind a module type

  pub with_none : (s : pure.ModType) (ts : List Tok) (ws : List WithClause) (rest : List Tok) → length ws ≡ 0
      → r.with_or (read_mod d) (read_type d) d s ts (map view_with ws, rest) ≡ r.arrow_or (read_mod d) (read_type d) d s ts
      (expect key.Arrow ts >>= read_type d)
  with_none s ts [] rest h = refl
  with_none s ts (w ∷ ws) rest h = absurd (omega arith)

  pub with_some : (s : pure.ModType) (ts : List Tok) (ws : List WithClause) (rest : List Tok) → 0 < length ws
      → r.with_or (read_mod d) (read_type d) d s ts (map view_with ws, rest) ≡ (pure.With s (map view_with ws), rest)
  with_some s ts [] rest h = absurd (omega arith)
  with_some s ts (w ∷ ws) rest h = refl

  -- ---- what a `module` begins

  pub item_type : (at : ℕ) (ts : List Tok) → r.plain_item (read_mod d) (read_type d) d (placed key.Module at ∷ fixed key.Type ∷ ts)
      ≡ module_type_item d at ts
  unfolding r.plain_item
  item_type at (word class.Upper x ∷ placed key.Equals q ∷ ts) = refl
  item_type at (word class.Upper x ∷ _) = refl
  item_type at _ = refl

  pub item_rest : (at : ℕ) (ts : List Tok) → starts key.Type ts ≡ false
      → r.plain_item (read_mod d) (read_type d) d (placed key.Module at ∷ ts) ≡ r.module_rest (read_mod d) (read_type d) d at ts
  unfolding r.plain_item
  item_rest at (fixed key.Type ∷ ts) h = absurd cc
  item_rest at _ h = refl

  pub of_type : (at : ℕ) (ts : List Tok) → r.simple_type (read_mod d) (read_type d) d (placed key.Module at ∷ fixed key.Type ∷ ts) ≡ type_of d at ts
  unfolding r.simple_type
  of_type at (fixed key.Of ∷ ts) = refl
  of_type at _ = refl

  pub of_none : (at : ℕ) (ts : List Tok) → starts key.Type ts ≡ false → r.simple_type (read_mod d) (read_type d) d (placed key.Module at ∷ ts) ≡ None
  unfolding r.simple_type
  of_none at (fixed key.Type ∷ ts) h = absurd cc
  of_none at _ h = refl

  -- ---- how a module type begins

  pub type_functor : (at : ℕ) (ts : List Tok) → r.mod_type (read_mod d) (read_type d) d (placed key.Functor at ∷ ts) ≡ r.functor_type_end (read_mod d)
      (read_type d) d at (r.functor_params (read_mod d) (read_type d) d ts).0 (r.functor_params (read_mod d) (read_type d) d ts).1
  unfolding r.mod_type
  type_functor at ts = refl

  pub type_other : (ts : List Tok) → starts key.Functor ts ≡ false → r.mod_type (read_mod d) (read_type d) d ts ≡ r.param_or (read_mod d)
      (read_type d) d ts (r.functor_param (read_mod d) (read_type d) d ts)
  unfolding r.mod_type
  type_other (placed key.Functor at ∷ ts) h = absurd cc
  type_other _ h = refl

pub ruleset functors = (functor_none, functor_some)

pub ruleset functor_types = (functor_type_none, functor_type_some)

pub ruleset withs = (with_none, with_some)

pub ruleset module_items = (item_type, item_rest)

pub ruleset module_types_of = (of_type, of_none)

pub ruleset module_types = (type_functor, type_other)
