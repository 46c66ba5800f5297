-- What follows a `.`, as the code reads it (own).
use Rattle.std.specs.Prelude.{ℕ, ◌∷◌, Some}
use Rattle.ml_trees.specs.declared.fixed.Fixed.TheVariants as key
use Rattle.ml_trees.specs.Tok.{placed}
use Rattle.ml_trees.specs.Tree.{Part, IndexPart, CharPart}
use Rattle.token_reading.specs.Steps.{Read, ◌>>=◌, expect}
use Rattle.expr_reading.specs.declared.wanted.Wanted.TheVariants as wanted
use Rattle.expr_reading.specs.ExprReading.{read_expr, label_part}

-- after the `.`
abbrev pub part_after : ℕ → Read Part
part_after d (placed key.LeftParen at ∷ ts) = read_expr d wanted.Sequence ts >>= λ e. expect key.RightParen e.1 >>= λ r. Some (IndexPart at e.0, r)
part_after d (placed key.LeftBracket at ∷ ts) = read_expr d wanted.Sequence ts >>= λ e. expect key.RightBracket e.1 >>= λ r. Some (CharPart at e.0, r)
part_after d ts = label_part (read_expr d) d ts
