-- What the function values that read modules and module types do, to a depth (own).
use Rattle.std.specs.Prelude.{ℕ, ◌≤◌, length, List, Result}
use Rattle.std.specs.declared.alloc.Global.{Global}
use Rattle.rotor_base.specs.Limits.{max_file_bytes}
use denote.Ref.{Bor}
use Rattle.rotor_base.specs.declared.token.Token.{Token}
use Rattle.ml_trees.specs.declared.module.ModExpr.{ModExpr}
use Rattle.ml_trees.specs.declared.module.ModType.{ModType}
use Rattle.ml_trees.specs.View.{view_mod, view_mod_type}
use Rattle.token_reading.specs.declared.error.ReadError.{ReadError}
use Rattle.token_reading.specs.Gives.{Gives}
use Rattle.token_reading.specs.Tokens.{from}
use Rattle.module_reading.specs.ModReading.{read_mod, read_type}

pub record ReadsModules (depth : ℕ) (pre : Global → Bor (List Token) → ℕ → ℕ → ℕ → Type 0)
    (post : Global → Bor (List Token) → ℕ → ℕ → ℕ → Result (ModExpr × ℕ) ReadError → Type 0) : Type 0 where
  pub callable : (alloc : Global) (ts : Bor (List Token)) (levels at : ℕ) → length ts.now ≤ max_file_bytes → pre alloc ts depth levels at
  pub reads : (alloc : Global) (ts : Bor (List Token)) (levels at : ℕ) (r : Result (ModExpr × ℕ) ReadError) → post alloc ts depth levels at r
      → Gives (λ x. (view_mod x.0, from ts.now x.1)) r (read_mod depth (from ts.now at))

pub record ReadsTypes (depth : ℕ) (pre : Global → Bor (List Token) → ℕ → ℕ → ℕ → Type 0)
    (post : Global → Bor (List Token) → ℕ → ℕ → ℕ → Result (ModType × ℕ) ReadError → Type 0) : Type 0 where
  pub callable : (alloc : Global) (ts : Bor (List Token)) (levels at : ℕ) → length ts.now ≤ max_file_bytes → pre alloc ts depth levels at
  pub reads : (alloc : Global) (ts : Bor (List Token)) (levels at : ℕ) (r : Result (ModType × ℕ) ReadError) → post alloc ts depth levels at r
      → Gives (λ x. (view_mod_type x.0, from ts.now x.1)) r (read_type depth (from ts.now at))
