-- Which `let` has its `in`: each `in` is that of the last `let` before it that has none yet, if no token between them
-- is one that no expression has (own).
use Rattle.std.specs.Prelude.{ℕ, ◌+◌, ◌-◌, List, [], ◌∷◌, Bool, true, false, ◌==◌, if◌then◌else◌}
use Rattle.ml_trees.specs.declared.fixed.Fixed.TheVariants as key
use Rattle.ml_trees.specs.Tok.{Tok, fixed, placed}
use Rattle.token_reading.specs.declared.tokens.Kind.{Kind}
use Rattle.token_reading.specs.declared.tokens.Kind.TheVariants as kind

-- no expression has this token: it begins an item or the body of a module, or it separates items
abbrev pub is_apart : Tok → Bool
is_apart (fixed key.DoubleSemicolon) = true
is_apart (fixed key.External) = true
is_apart (placed key.Include at) = true
is_apart (placed key.Sig at) = true
is_apart (placed key.Struct at) = true
is_apart _ = false

-- one more token before some with so many such `in`
abbrev pub ins_before : Tok → ℕ → ℕ
ins_before (placed key.Let at) n = n - 1
ins_before (fixed key.In) n = n + 1
ins_before t n = if is_apart t then 0 else n

-- how many `in` there are before the first token that no expression has, and no `let` among these tokens takes
abbrev pub open_ins : List Tok → ℕ
open_ins [] = 0
open_ins (t ∷ ts) = ins_before t (open_ins ts)

-- a `let` begins the tokens, and no `in` behind it is its own
abbrev pub lacks_in : List Tok → Bool
lacks_in (placed key.Let at ∷ ts) = open_ins ts == 0
lacks_in ts = false

-- ---- the same by kinds

-- a token of this kind is a `let`, and no `in` is left for it if so many are free behind it
abbrev pub lacks_by : Kind → ℕ → Bool
lacks_by (kind.Fixed key.Let) n = n == 0
lacks_by _ n = false

-- one more token of this kind before some with so many such `in`
abbrev pub ins_by : Kind → ℕ → ℕ
ins_by (kind.Fixed key.Let) n = n - 1
ins_by (kind.Fixed key.In) n = n + 1
ins_by (kind.Fixed key.DoubleSemicolon) n = 0
ins_by (kind.Fixed key.External) n = 0
ins_by (kind.Fixed key.Include) n = 0
ins_by (kind.Fixed key.Sig) n = 0
ins_by (kind.Fixed key.Struct) n = 0
ins_by _ n = n
