-- The parts of a reading, as the functions of the code read them (own).
use Rattle.std.specs.Prelude.{ℕ, ◌-◌, List, [], ◌∷◌, Bool, true, false, not, Option, Some, None}
use Rattle.rotor_base.specs.declared.token.Class.TheVariants as class
use Rattle.ml_trees.specs.declared.expression.Expr.{Expr as Source}
use Rattle.ml_trees.specs.declared.expression.Branch.{Branch}
use Rattle.ml_trees.specs.declared.expression.LocalArgument.{LocalArgument}
use Rattle.ml_trees.specs.declared.expression.LocalArgument.TheBlock as l
use Rattle.ml_trees.specs.declared.fixed.Fixed.TheVariants as key
use Rattle.ml_trees.specs.Tok.{Name, Tok, fixed, word}
use Rattle.ml_trees.specs.Tree.{Parts, no_part, more_part, Expr, Constr, Tag, ConstrApply, TagApply, LocalPath, Links, no_link, Field, Fields}
use Rattle.ml_trees.specs.Tree.{no_field}
use Rattle.ml_trees.specs.Tree.{more_field}
use Rattle.ml_trees.specs.WellFormed.{op_level, is_constr}
use Rattle.ml_trees.specs.View.{view, view_path, view_locals}
use Rattle.token_reading.specs.Steps.{Read, ◌>>=◌, expect, many, many_if, always}
use Rattle.expr_reading.specs.declared.wanted.Wanted.TheVariants as wanted
use Rattle.expr_reading.specs.ExprReading.{part_behind, grown_postfix, grown_seq, tier, operator_part, goes_on, cons_operand, grown_chain, read_expr}
use Rattle.expr_reading.specs.ExprReading.{expr, enclosed, closed_by, no_form, last_of, ends_field, last_field, next_field, semicolon_if}
use Rattle.expr_reading.specs.ExprReading.{semicolon_part, cons_link, LocalPart, given_module, given_none, Otherwise, if_branch}

-- a name of class Upper
abbrev pub upper_word : Read Name
upper_word (word class.Upper x ∷ ts) = Some (x, ts)
upper_word _ = None

-- the level of the operator that begins the tokens, or 0
abbrev pub first_level : List Tok → ℕ
first_level [] = 0
first_level (t ∷ ts) = op_level t

-- an argument of a local module
unfoldable pub local_of : LocalArgument → LocalPart
local_of (l.Module' at path _ ms) = given_module at (LocalPath (view_path path) (view_locals ms))
local_of (l.Nothing at) = given_none at

-- an expression behind a `;`
abbrev pub link_of : Source → Tok × Expr
link_of e = (fixed key.Semicolon, view e)

-- an `else if`
abbrev pub branch_of : Branch → Otherwise
branch_of b = if_branch b.at (view b.test) (view b.then)

-- ---- further readings that a function has to itself

-- an item of a list is read through the knot, one of a sequence is not
abbrev pub item_of : ℕ → Bool → Read Expr
item_of d true = read_expr d wanted.Expression
item_of d false = expr (read_expr d) d

-- further items of a list, or of a sequence
abbrev pub more_items : ℕ → Bool → List Tok → Links × List Tok
more_items d deep ts = many no_link cons_link (λ x. no_form x.1) (semicolon_part (read_expr d) d (item_of d deep)) d ts

-- what follows the first item
abbrev pub row_rest : ℕ → Bool → Expr → List Tok → (Links × Bool) × List Tok
row_rest d deep e ts =
    let more = many_if (no_form e) no_link cons_link (λ x. no_form x.1) (semicolon_part (read_expr d) d (item_of d deep)) d ts in
    let last = semicolon_if (no_form (last_of e more.0)) more.1 in
    ((more.0, last.0), last.1)

-- further fields of a record
abbrev pub more_fields : ℕ → List Tok → Fields × List Tok
more_fields d ts = many no_field more_field ends_field (next_field (read_expr d) d) d ts

-- what follows the first field
abbrev pub fields_rest : ℕ → Field → List Tok → (Fields × Bool) × List Tok
fields_rest d f ts =
    let more = many_if (ends_field f) no_field more_field ends_field (next_field (read_expr d) d) d ts in
    let last = semicolon_if (ends_field (last_field f more.0)) more.1 in
    ((more.0, last.0), last.1)

-- an expression, and what closes the parenthesis before it
abbrev pub paren_of : ℕ → Option (Expr × List Tok) → Option (Expr × List Tok)
paren_of at o = o >>= λ e. closed_by at e.0 e.1

-- an expression and `with`
abbrev pub base_with : Option (Expr × List Tok) → Option (Expr × List Tok)
base_with o = o >>= λ e. expect key.With e.1 >>= λ r. Some (e.0, r)

-- behind a `.`
abbrev pub dot_enclosed : ℕ → Read Expr
dot_enclosed d ts = expect key.Dot ts >>= λ r. enclosed (read_expr d) d r

-- a constructor or a tag with its argument
abbrev pub given : Expr → Expr → Expr
given (Constr path) e = ConstrApply path e
given (Tag y) e = TagApply y e
given f e = f

-- a keyword or an operator before what is read
abbrev pub wrapped_by : (Expr → Expr) → Option (Expr × List Tok) → Option (Expr × List Tok)
wrapped_by grown o = o >>= λ e. Some (grown e.0, e.1)

-- the operators of one level behind an expression of the levels above, and their operands
abbrev pub grown_tier : ℕ → ℕ → Expr → List Tok → Expr × List Tok
grown_tier d m e ts =
    let more = many_if (goes_on e ts) no_link cons_operand (λ x. x.2) (operator_part (read_expr d) d (12 - m) (tier (read_expr d) d m)) d ts in
    (grown_chain (12 - m) e more.0, more.1)

-- further parts behind an expression
abbrev pub more_parts : ℕ → List Tok → Parts × List Tok
more_parts d ts = many no_part more_part always (part_behind (read_expr d) d) d ts

-- the parts behind an expression
abbrev pub with_parts : ℕ → Expr → List Tok → Expr × List Tok
with_parts d e ts =
    let more = many_if (not (is_constr e)) no_part more_part always (part_behind (read_expr d) d) d ts in
    (grown_postfix e more.0, more.1)

-- the expressions behind the first of a sequence, and a last `;`
abbrev pub with_steps : ℕ → Expr → List Tok → Expr × List Tok
with_steps d e ts = (grown_seq e (row_rest d false e ts).0.0 (row_rest d false e ts).0.1, (row_rest d false e ts).1)
