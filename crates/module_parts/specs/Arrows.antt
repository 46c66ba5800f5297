-- Module types with arrows, as the code reads them: the part before each arrow, and what is read
-- behind the last (the OCaml manual, "Module types").
use Rattle.std.specs.Prelude.{◌≡◌, ℕ, List, [], ◌∷◌, Option, Some, None, Result, Ok, Err}
use Rattle.rotor_base.specs.declared.token.Token.{Token}
use Rattle.ml_trees.specs.declared.module.ModType.{ModType as Source}
use Rattle.ml_trees.specs.Tok.{Tok}
use Rattle.ml_trees.specs.Tree.{ModType, FunctorType, ParamArrow, Arrow}
use Rattle.ml_trees.specs.View.{view_mod_type, view_functor_param, functor_params}
use Rattle.token_reading.specs.declared.error.ReadError.{ReadError}
use Rattle.token_reading.specs.Gives.{Fails}
use Rattle.token_reading.specs.Tokens.{from}
use Rattle.token_reading.specs.Steps.{◌>>=◌}
use Rattle.module_parts.specs.declared.arrows.Domain.{Domain}
use Rattle.module_parts.specs.declared.arrows.Domain.TheVariants as domain
use Rattle.module_parts.specs.declared.arrows.Step.{Step}
use Rattle.module_parts.specs.declared.arrows.Step.TheVariants as step
use Rattle.module_reading.specs.ModReading.{read_type}

-- what the code has read, with the tokens after it
abbrev pub read_so : (ℕ → List Tok) → Option (Source × ℕ) → Option (ModType × List Tok)
read_so end None = None
read_so end (Some x) = Some (view_mod_type x.0, end x.1)

-- the part before an arrow, and what is read behind it; if that is nothing, a module type ends before the arrow
abbrev pub before_arrow : (ℕ → List Tok) → Domain → Option (ModType × List Tok) → Option (ModType × List Tok)
before_arrow end (domain.Functor at ps) r = r >>= λ s. Some (FunctorType at (functor_params ps.items) s.0, s.1)
before_arrow end (domain.Param p) r = r >>= λ s. Some (ParamArrow (view_functor_param p) s.0, s.1)
before_arrow end (domain.Plain s at) None = Some (view_mod_type s, end at)
before_arrow end (domain.Plain s at) (Some x) = Some (Arrow (view_mod_type s) x.0, x.1)

-- the same for each arrow
abbrev pub before_arrows : (ℕ → List Tok) → List Domain → Option (ModType × List Tok) → Option (ModType × List Tok)
before_arrows end [] r = r
before_arrows end (x ∷ xs) r = before_arrow end x (before_arrows end xs r)

-- a module type up to its first arrow, the place after that, and what is read from there
abbrev pub go_on : ℕ → List Token → Step → ℕ → Option (ModType × List Tok)
go_on d ts (step.Whole s) at = Some (view_mod_type s, from ts at)
go_on d ts (step.Before x) at = before_arrow (from ts) x (read_type d (from ts at))

-- a step, with what is read behind it, is the reading
abbrev pub Steps : ℕ → List Token → Result (Step × ℕ) ReadError → Option (ModType × List Tok) → Type 0
Steps d ts (Ok x) read = read ≡ go_on d ts x.0 x.1
Steps d ts (Err e) read = Fails e read
