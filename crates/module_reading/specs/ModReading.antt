-- Reading modules, module types and files (the OCaml manual, "Module expressions", "Module types"
-- and "Compilation units").
use Rattle.std.specs.Prelude.{ℕ, zero, suc, List, [], ◌∷◌, Bool, true, false, if◌then◌else◌, Option, Some, None}
use Rattle.rotor_base.specs.declared.token.Class.TheVariants as class
use Rattle.ml_trees.specs.declared.fixed.Fixed.TheVariants as key
use Rattle.ml_trees.specs.Tok.{Name, Tok, fixed, placed, word}
use Rattle.ml_trees.specs.WellFormed.{is_separator, is_constraint_sign}
use Rattle.ml_trees.specs.Tree.{ValueName, Expr, ModuleName, UpperName, AnyName, Constraint, ConstraintOf, WithClause, WithOf, ModExpr, ModPath}
use Rattle.ml_trees.specs.Tree.{Struct, Functor, ModApply, ModParen, Sealed, ModArgument, ModuleArgument, SealedArgument, NoArgument, ModArguments}
use Rattle.ml_trees.specs.Tree.{no_mod_argument, more_mod_argument, FunctorParam, NamedParam, NoParam, FunctorParams, no_functor_param}
use Rattle.ml_trees.specs.Tree.{more_functor_param, ModType, TypePath, Sig, TypeOf, TypeParen, With, FunctorType, ParamArrow, Arrow, MaybeType}
use Rattle.ml_trees.specs.Tree.{no_type, some_type, Item, ExprItem, SeparatorItem, ValueItem, ExternalItem, TypeItem, ExceptionItem, ModuleItem}
use Rattle.ml_trees.specs.Tree.{ModuleTypeItem, OpenItem, IncludeItem, Items, no_item, more_item, SigItem, SeparatorSig, ValSig, ExternalSig}
use Rattle.ml_trees.specs.Tree.{TypeSig, ExceptionSig, ModuleSig, AliasSig, ModuleTypeSig, OpenSig, IncludeSig, SigItems, no_sig_item, more_sig_item}
use Rattle.ml_trees.specs.Tree.{FileTree, Body, Face}
use Rattle.token_reading.specs.Steps.{Read, ◌>>=◌, expect, expect_at, many, always}
use Rattle.token_reading.specs.Pieces.{value_name, type_run, declaration_run}
use Rattle.expr_reading.specs.ExprReading.{optional_bang, upper_path, bindings, read_expr}
use Rattle.expr_reading.specs.declared.wanted.Wanted.TheVariants as wanted

-- ---- what is read, put together

abbrev pub grown_mod : ModExpr → ModArguments → ModExpr
grown_mod m no_mod_argument = m
grown_mod m (more_mod_argument a as') = ModApply m (more_mod_argument a as')

-- ---- small parts

abbrev pub module_name : Read ModuleName
module_name (word class.Upper x ∷ ts) = Some (UpperName x, ts)
module_name (placed key.Underscore at ∷ ts) = Some (AnyName at, ts)
module_name _ = None

abbrev pub text_word : Read Name
text_word (word class.Text x ∷ ts) = Some (x, ts)
text_word _ = None

-- `=` or `:=`
abbrev pub constraint_sign : Read Tok
constraint_sign (t ∷ ts) = if is_constraint_sign t then Some (t, ts) else None
constraint_sign [] = None

abbrev pub optional_private : List Tok → Bool × List Tok
optional_private (fixed key.Private ∷ ts) = (true, ts)
optional_private ts = (false, ts)

-- after a constraint's `type`
abbrev pub constraint_rest : Read Constraint
constraint_rest ts = do
  a ← type_run ts
  s ← constraint_sign a.1
  let private = optional_private s.1
  b ← type_run private.1
  Some (ConstraintOf a.0 s.0 private.0 b.0, b.1)

unfoldable pub constraint : Read Constraint
constraint ts = expect key.Type ts >>= constraint_rest

abbrev pub next_constraint : Read Constraint
next_constraint ts = expect key.And ts >>= constraint

abbrev pub more_constraints : ℕ → List Tok → List Constraint × List Tok
more_constraints n ts = many [] ◌∷◌ always next_constraint n ts

-- a `with` and constraints between `and`
unfoldable pub with_clause : ℕ → Read WithClause
with_clause n ts = expect key.With ts >>= constraint >>= λ c. Some (WithOf c.0 (more_constraints n c.1).0, (more_constraints n c.1).1)

abbrev pub with_clauses : ℕ → List Tok → List WithClause × List Tok
with_clauses n ts = many [] ◌∷◌ always (with_clause n) n ts

-- a name, its type and texts, after `external`
pub record External : Type 0 where
  pub name : ValueName
  pub run : List Tok
  pub at : ℕ
  pub texts : List Name

abbrev pub external_end : ValueName → List Tok → ℕ → List Name × List Tok → Option (External × List Tok)
external_end x run at ([], r) = None
external_end x run at (y ∷ ys, r) = Some (record { name = x; run = run; at = at; texts = y ∷ ys }, r)

unfoldable pub external_rest : ℕ → Read External
external_rest n ts = do
  x ← value_name ts
  r ← expect key.Colon x.1
  run ← type_run r
  q ← expect_at key.Equals run.1
  external_end x.0 run.0 q.0 (many [] ◌∷◌ always text_word n q.1)

-- an optional `!` and a module path, after `open`
unfoldable pub open_rest : ℕ → Read (Option Name × List Name)
open_rest n ts = upper_path n (optional_bang ts).1 >>= λ p. Some (((optional_bang ts).0, p.0), p.1)

-- an optional `rec` and bindings, after `let`
abbrev pub some_bindings : ℕ → Bool → ℕ → Read Item
some_bindings n recursive at ts = bindings (read_expr n) n ts >>= λ b. Some (ValueItem at recursive b.0.0 b.0.1, b.1)

unfoldable pub value_rest : ℕ → ℕ → Read Item
value_rest n at (fixed key.Rec ∷ ts) = some_bindings n true at ts
value_rest n at ts = some_bindings n false at ts

-- ---- modules and module types

module _ (sub_mod : Read ModExpr) (sub_type : Read ModType) (n : ℕ) where
  -- ---- parameters of functors

  abbrev pub named_param : ℕ → Read FunctorParam
  named_param at ts = do
    x ← module_name ts
    r ← expect key.Colon x.1
    s ← sub_type r
    r ← expect key.RightParen s.1
    Some (NamedParam at x.0 s.0, r)

  unfoldable pub functor_param : Read FunctorParam
  functor_param (placed key.LeftParen at ∷ fixed key.RightParen ∷ ts) = Some (NoParam at, ts)
  functor_param (placed key.LeftParen at ∷ ts) = named_param at ts
  functor_param _ = None

  abbrev pub functor_params : List Tok → FunctorParams × List Tok
  functor_params ts = many no_functor_param more_functor_param always functor_param n ts

  -- an optional `:` and module type
  abbrev pub signature_of : Read MaybeType
  signature_of (fixed key.Colon ∷ ts) = sub_type ts >>= λ s. Some (some_type s.0, s.1)
  signature_of ts = Some (no_type, ts)

  -- ---- items

  abbrev pub module_rest : ℕ → Read Item
  module_rest at ts = do
    x ← module_name ts
    let ps = functor_params x.1
    s ← signature_of ps.1
    q ← expect_at key.Equals s.1
    m ← sub_mod q.1
    Some (ModuleItem at x.0 ps.0 s.0 q.0 m.0, m.1)

  -- an item that is no expression
  unfoldable pub plain_item : Read Item
  plain_item (placed key.Let at ∷ ts) = value_rest n at ts
  plain_item (fixed key.DoubleSemicolon ∷ ts) = Some (SeparatorItem, ts)
  plain_item (fixed key.External ∷ ts) = external_rest n ts >>= λ x. Some (ExternalItem x.0.name x.0.run x.0.at x.0.texts, x.1)
  plain_item (fixed key.Type ∷ ts) = declaration_run ts >>= λ run. Some (TypeItem run.0, run.1)
  plain_item (placed key.Exception at ∷ ts) = declaration_run ts >>= λ run. Some (ExceptionItem at run.0, run.1)
  plain_item (placed key.Module at ∷ fixed key.Type ∷ word class.Upper x ∷ placed key.Equals q ∷ ts) =
      sub_type ts >>= λ s. Some (ModuleTypeItem at x q s.0, s.1)
  plain_item (placed key.Module at ∷ ts) = module_rest at ts
  plain_item (placed key.Open at ∷ ts) = open_rest n ts >>= λ x. Some (OpenItem at x.0.0 x.0.1, x.1)
  plain_item (placed key.Include at ∷ ts) = sub_mod ts >>= λ m. Some (IncludeItem at m.0, m.1)
  plain_item _ = None

  abbrev pub expression_or : List Tok → Option (Expr × List Tok) → Option (Item × List Tok)
  expression_or ts (Some e) = Some (ExprItem e.0, e.1)
  expression_or ts None = plain_item ts

  -- if the item may be an expression, that is tried first
  unfoldable pub item_of : Bool → Read Item
  item_of true ts = expression_or ts (read_expr n wanted.Sequence ts)
  item_of false ts = plain_item ts

  -- an item and those behind it
  abbrev pub item_then : (Bool → List Tok → Items × List Tok) → List Tok → Option (Item × List Tok) → Items × List Tok
  item_then rest ts None = (no_item, ts)
  item_then rest ts (Some x) = (more_item x.0 (rest (is_separator x.0) x.1).0, (rest (is_separator x.0) x.1).1)

  -- items, as long as each can be read whole; the first and one after `;;` may be an expression
  unfoldable pub items_of : ℕ → Bool → List Tok → Items × List Tok
  items_of zero fresh ts = (no_item, ts)
  items_of (suc k) fresh ts = item_then (items_of k) ts (item_of fresh ts)

  -- ---- items of signatures

  abbrev pub module_sig_rest : ℕ → Read SigItem
  module_sig_rest at ts = do
    x ← module_name ts
    let ps = functor_params x.1
    r ← expect key.Colon ps.1
    s ← sub_type r
    Some (ModuleSig at x.0 ps.0 s.0, s.1)

  abbrev pub val_rest : Read SigItem
  val_rest ts = do
    x ← value_name ts
    r ← expect key.Colon x.1
    run ← type_run r
    Some (ValSig x.0 run.0, run.1)

  unfoldable pub sig_item : Read SigItem
  sig_item (fixed key.DoubleSemicolon ∷ ts) = Some (SeparatorSig, ts)
  sig_item (fixed key.Val ∷ ts) = val_rest ts
  sig_item (fixed key.External ∷ ts) = external_rest n ts >>= λ x. Some (ExternalSig x.0.name x.0.run x.0.at x.0.texts, x.1)
  sig_item (fixed key.Type ∷ ts) = declaration_run ts >>= λ run. Some (TypeSig run.0, run.1)
  sig_item (placed key.Exception at ∷ ts) = declaration_run ts >>= λ run. Some (ExceptionSig at run.0, run.1)
  sig_item (placed key.Module at ∷ fixed key.Type ∷ word class.Upper x ∷ placed key.Equals q ∷ ts) =
      sub_type ts >>= λ s. Some (ModuleTypeSig at x q s.0, s.1)
  sig_item (placed key.Module at ∷ word class.Upper x ∷ placed key.Equals q ∷ ts) = upper_path n ts >>= λ p. Some (AliasSig at x q p.0, p.1)
  sig_item (placed key.Module at ∷ ts) = module_sig_rest at ts
  sig_item (placed key.Open at ∷ ts) = open_rest n ts >>= λ x. Some (OpenSig at x.0.0 x.0.1, x.1)
  sig_item (placed key.Include at ∷ ts) = sub_type ts >>= λ s. Some (IncludeSig at s.0, s.1)
  sig_item _ = None

  abbrev pub sig_items : List Tok → SigItems × List Tok
  sig_items ts = many no_sig_item more_sig_item always sig_item n ts

  -- ---- module expressions

  -- after a `(` and a module expression
  abbrev pub mod_closed : ℕ → ModExpr → Read ModExpr
  mod_closed at m (fixed key.RightParen ∷ r) = Some (ModParen at m, r)
  mod_closed at m (fixed key.Colon ∷ r) = sub_type r >>= λ s. expect key.RightParen s.1 >>= λ r'. Some (Sealed at m s.0, r')
  mod_closed at m _ = None

  unfoldable pub simple_mod : Read ModExpr
  simple_mod (word class.Upper x ∷ ts) = upper_path n (word class.Upper x ∷ ts) >>= λ p. Some (ModPath p.0, p.1)
  simple_mod (placed key.Struct at ∷ ts) = expect key.End (items_of n true ts).1 >>= λ r. Some (Struct at (items_of n true ts).0, r)
  simple_mod (placed key.LeftParen at ∷ ts) = sub_mod ts >>= λ m. mod_closed at m.0 m.1
  simple_mod _ = None

  abbrev pub argument_closed : ℕ → ModExpr → Read ModArgument
  argument_closed at m (fixed key.RightParen ∷ r) = Some (ModuleArgument at m, r)
  argument_closed at m (fixed key.Colon ∷ r) = sub_type r >>= λ s. expect key.RightParen s.1 >>= λ r'. Some (SealedArgument at m s.0, r')
  argument_closed at m _ = None

  unfoldable pub mod_argument : Read ModArgument
  mod_argument (placed key.LeftParen at ∷ fixed key.RightParen ∷ ts) = Some (NoArgument at, ts)
  mod_argument (placed key.LeftParen at ∷ ts) = sub_mod ts >>= λ m. argument_closed at m.0 m.1
  mod_argument _ = None

  abbrev pub mod_arguments : List Tok → ModArguments × List Tok
  mod_arguments ts = many no_mod_argument more_mod_argument always mod_argument n ts

  unfoldable pub mod_apply : Read ModExpr
  mod_apply ts = simple_mod ts >>= λ m. Some (grown_mod m.0 (mod_arguments m.1).0, (mod_arguments m.1).1)

  -- after `functor` and parameters
  abbrev pub functor_end : ℕ → FunctorParams → Read ModExpr
  functor_end at no_functor_param r = None
  functor_end at (more_functor_param p ps) r = expect key.Arrow r >>= λ r'. sub_mod r' >>= λ m. Some (Functor at (more_functor_param p ps) m.0, m.1)

  unfoldable pub mod_expr : Read ModExpr
  mod_expr (placed key.Functor at ∷ ts) = functor_end at (functor_params ts).0 (functor_params ts).1
  mod_expr ts = mod_apply ts

  -- ---- module types

  unfoldable pub simple_type : Read ModType
  simple_type (word class.Upper x ∷ ts) = upper_path n (word class.Upper x ∷ ts) >>= λ p. Some (TypePath p.0, p.1)
  simple_type (placed key.Sig at ∷ ts) = expect key.End (sig_items ts).1 >>= λ r. Some (Sig at (sig_items ts).0, r)
  simple_type (placed key.Module at ∷ fixed key.Type ∷ fixed key.Of ∷ ts) = mod_apply ts >>= λ m. Some (TypeOf at m.0, m.1)
  simple_type (placed key.LeftParen at ∷ ts) = sub_type ts >>= λ s. expect key.RightParen s.1 >>= λ r. Some (TypeParen at s.0, r)
  simple_type _ = None

  -- a SimpleType with nothing behind it, or an arrow
  abbrev pub arrow_or : ModType → List Tok → Option (ModType × List Tok) → ModType × List Tok
  arrow_or s ts None = (s, ts)
  arrow_or s ts (Some x) = (Arrow s x.0, x.1)

  -- after a SimpleType: `with` clauses, or an arrow
  abbrev pub with_or : ModType → List Tok → List WithClause × List Tok → ModType × List Tok
  with_or s ts ([], r) = arrow_or s ts (expect key.Arrow ts >>= sub_type)
  with_or s ts (w ∷ ws, r) = (With s (w ∷ ws), r)

  abbrev pub with_type : Read ModType
  with_type ts = simple_type ts >>= λ s. Some (with_or s.0 s.1 (with_clauses n s.1))

  abbrev pub functor_type_end : ℕ → FunctorParams → Read ModType
  functor_type_end at no_functor_param r = None
  functor_type_end at (more_functor_param p ps) r =
      expect key.Arrow r >>= λ r'. sub_type r' >>= λ s. Some (FunctorType at (more_functor_param p ps) s.0, s.1)

  -- a parameter and an arrow, or else a SimpleType
  abbrev pub param_or : List Tok → Option (FunctorParam × List Tok) → Option (ModType × List Tok)
  param_or ts (Some p) = expect key.Arrow p.1 >>= λ r. sub_type r >>= λ s. Some (ParamArrow p.0 s.0, s.1)
  param_or ts None = with_type ts

  unfoldable pub mod_type : Read ModType
  mod_type (placed key.Functor at ∷ ts) = functor_type_end at (functor_params ts).0 (functor_params ts).1
  mod_type ts = param_or ts (functor_param ts)

-- the number bounds how deep modules nest, and the turns
unfoldable mutual
  pub read_mod : ℕ → Read ModExpr
  read_mod zero ts = None
  read_mod (suc n) ts = mod_expr (read_mod n) (read_type n) n ts

  pub read_type : ℕ → Read ModType
  read_type zero ts = None
  read_type (suc n) ts = mod_type (read_mod n) (read_type n) n ts

-- a whole file
abbrev pub whole_body : ℕ → Items × List Tok → Option FileTree
whole_body file (is, []) = Some (Body file is)
whole_body file (is, t ∷ ts) = None

abbrev pub whole_face : ℕ → SigItems × List Tok → Option FileTree
whole_face file (is, []) = Some (Face file is)
whole_face file (is, t ∷ ts) = None

-- the items with which tokens begin, and the tokens behind the last one
abbrev pub body_start : ℕ → List Tok → Items × List Tok
body_start n ts = items_of (read_mod n) (read_type n) n n true ts

abbrev pub face_start : ℕ → List Tok → SigItems × List Tok
face_start n ts = sig_items (read_mod n) (read_type n) n ts

unfoldable pub read_body : ℕ → ℕ → List Tok → Option FileTree
read_body file n ts = whole_body file (body_start n ts)

unfoldable pub read_face : ℕ → ℕ → List Tok → Option FileTree
read_face file n ts = whole_face file (face_start n ts)
