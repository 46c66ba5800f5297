-- The view of a row of parts is that of the items of their `Vec`.
use Rattle.std.proofs.Common.{◌≡◌, Option, Some, None, refl, ap, ◌∙◌}
use Rattle.std.specs.Global.{Vec, Box}
use Rattle.ml_trees.specs.declared.word.Word.{Word}
use Rattle.ml_trees.specs.declared.pattern.Pat.{Pat}
use Rattle.ml_trees.specs.declared.pattern.Pat.TheBlock as p
use Rattle.ml_trees.specs.declared.pattern.PatField.{PatField}
use Rattle.ml_trees.specs.declared.expression.LocalArgument.{LocalArgument}
use Rattle.ml_trees.specs.declared.expression.LocalArgument.TheBlock as l
use Rattle.ml_trees.specs.declared.expression.Expr.{Expr}
use Rattle.ml_trees.specs.declared.expression.Binding.{Binding}
use Rattle.ml_trees.specs.declared.expression.Case.{Case}
use Rattle.ml_trees.specs.declared.expression.Branch.{Branch}
use Rattle.ml_trees.specs.declared.expression.Argument.{Argument}
use Rattle.ml_trees.specs.declared.expression.Param.{Param}
use Rattle.ml_trees.specs.declared.expression.Part.{Part}
use Rattle.ml_trees.specs.declared.expression.Field.{Field}
use Rattle.ml_trees.specs.declared.expression.Argument.TheBlock as t
use Rattle.ml_trees.specs.declared.module.ModArgument.{ModArgument}
use Rattle.ml_trees.specs.declared.module.FunctorParam.{FunctorParam}
use Rattle.ml_trees.specs.declared.module.Item.{Item}
use Rattle.ml_trees.specs.declared.module.SigItem.{SigItem}
use Rattle.ml_trees.specs.declared.module.FunctorParam.TheBlock as m
use Rattle.ml_trees.specs.declared.fixed.Fixed.TheVariants as key
use Rattle.ml_trees.specs.Tok.{fixed}
use Rattle.ml_trees.specs.Tree as pure
use Rattle.ml_trees.specs.View.{view_tok, view_pat, view_pats, view_pat_field, view_pat_fields, view_local_then, view_locals, locals, view}
use Rattle.ml_trees.specs.View.{view_links, view_commas, view_ops, view_maybe, view_tail, view_binding, view_bindings, view_cases, view_argument}
use Rattle.ml_trees.specs.View.{view_arguments, view_param, view_params, view_part, view_parts, view_field, view_fields, pats, pat_fields, links}
use Rattle.ml_trees.specs.View.{commas, ops, maybe, tail_before, bindings, cases, arguments, params, parts, fields, view_mod, view_mod_argument}
use Rattle.ml_trees.specs.View.{view_mod_arguments, view_functor_param, view_functor_params, view_item, view_items, view_sig_item, view_sig_items}
use Rattle.ml_trees.specs.View.{mod_arguments, functor_params, items, sig_items}

pats_row : {n : _} (k : p.Row_of-Pat n) → view_pats k ≡ pats (p.items-the_row-Pat n k)
unfolding view_pat
pats_row p.end_of-Pat = refl
pats_row (p.more_of-Pat e es) = ap (pure.more_pat (view_pat e)) (pats_row es)

pub pats_of : (v : Vec Pat) → view_pats (p.hidden-the_row-Pat-0 v) ≡ pats v.items
pats_of v = pats_row (p.hidden-the_row-Pat-0 v) ∙ ap pats (p.items_hidden-the_row-Pat-0 v)

pat_fields_row : {n : _} (k : p.Row_of-PatField n) → view_pat_fields k ≡ pat_fields (p.items-the_row-PatField n k)
unfolding view_pat
pat_fields_row p.end_of-PatField = refl
pat_fields_row (p.more_of-PatField e es) = ap (pure.more_pat_field (view_pat_field e)) (pat_fields_row es)

pub pat_fields_of : (v : Vec PatField) → view_pat_fields (p.hidden-the_row-PatField-1 v) ≡ pat_fields v.items
pat_fields_of v = pat_fields_row (p.hidden-the_row-PatField-1 v) ∙ ap pat_fields (p.items_hidden-the_row-PatField-1 v)

locals_row : {n : _} (k : l.Row_of-LocalArgument n) → view_locals k ≡ locals (l.items-the_row-LocalArgument n k)
unfolding view_locals
locals_row l.end_of-LocalArgument = refl
locals_row (l.more_of-LocalArgument e es) = ap (view_local_then e) (locals_row es)

pub locals_of : (v : Vec LocalArgument) → view_locals (l.hidden-the_row-LocalArgument-0 v) ≡ locals v.items
locals_of v = locals_row (l.hidden-the_row-LocalArgument-0 v) ∙ ap locals (l.items_hidden-the_row-LocalArgument-0 v)

links_row : {n : _} (k : t.Row_of-Expr n) → view_links k ≡ links (t.items-the_row-Expr n k)
unfolding view
links_row t.end_of-Expr = refl
links_row (t.more_of-Expr e es) = ap (pure.more_link (fixed key.Semicolon) (view e)) (links_row es)

pub links_of : (v : Vec Expr) → view_links (t.hidden-the_row-Expr-1 v) ≡ links v.items
links_of v = links_row (t.hidden-the_row-Expr-1 v) ∙ ap links (t.items_hidden-the_row-Expr-1 v)

commas_row : {n : _} (k : t.Row_of-Expr n) → view_commas k ≡ commas (t.items-the_row-Expr n k)
unfolding view
commas_row t.end_of-Expr = refl
commas_row (t.more_of-Expr e es) = ap (pure.more_link (fixed key.Comma) (view e)) (commas_row es)

pub commas_of : (v : Vec Expr) → view_commas (t.hidden-the_row-Expr-1 v) ≡ commas v.items
commas_of v = commas_row (t.hidden-the_row-Expr-1 v) ∙ ap commas (t.items_hidden-the_row-Expr-1 v)

ops_row : {n : _} (k : t.Row_of-Expr-Assign-1-2 n) → view_ops k ≡ ops (t.items-the_row-Expr-Assign-1-2 n k)
unfolding view
ops_row t.end_of-Expr-Assign-1-2 = refl
ops_row (t.more_of-Expr-Assign-1-2 w e es) = ap (pure.more_link (view_tok w) (view e)) (ops_row es)

pub ops_of : (v : Vec (Word × Expr)) → view_ops (t.hidden-the_row-Expr-Assign-1-2-5 v) ≡ ops v.items
ops_of v = ops_row (t.hidden-the_row-Expr-Assign-1-2-5 v) ∙ ap ops (t.items_hidden-the_row-Expr-Assign-1-2-5 v)

bindings_row : {n : _} (k : t.Row_of-Binding n) → view_bindings k ≡ bindings (t.items-the_row-Binding n k)
unfolding view
bindings_row t.end_of-Binding = refl
bindings_row (t.more_of-Binding e es) = ap (pure.more_binding (view_binding e)) (bindings_row es)

pub bindings_of : (v : Vec Binding) → view_bindings (t.hidden-the_row-Binding-2 v) ≡ bindings v.items
bindings_of v = bindings_row (t.hidden-the_row-Binding-2 v) ∙ ap bindings (t.items_hidden-the_row-Binding-2 v)

arguments_row : {n : _} (k : t.Row_of-Argument n) → view_arguments k ≡ arguments (t.items-the_row-Argument n k)
unfolding view
arguments_row t.end_of-Argument = refl
arguments_row (t.more_of-Argument e es) = ap (pure.more_argument (view_argument e)) (arguments_row es)

pub arguments_of : (v : Vec Argument) → view_arguments (t.hidden-the_row-Argument-6 v) ≡ arguments v.items
arguments_of v = arguments_row (t.hidden-the_row-Argument-6 v) ∙ ap arguments (t.items_hidden-the_row-Argument-6 v)

params_row : {n : _} (k : t.Row_of-Param n) → view_params k ≡ params (t.items-the_row-Param n k)
unfolding view
params_row t.end_of-Param = refl
params_row (t.more_of-Param e es) = ap (pure.more_param (view_param e)) (params_row es)

pub params_of : (v : Vec Param) → view_params (t.hidden-the_row-Param-0 v) ≡ params v.items
params_of v = params_row (t.hidden-the_row-Param-0 v) ∙ ap params (t.items_hidden-the_row-Param-0 v)

parts_row : {n : _} (k : t.Row_of-Part n) → view_parts k ≡ parts (t.items-the_row-Part n k)
unfolding view
parts_row t.end_of-Part = refl
parts_row (t.more_of-Part e es) = ap (pure.more_part (view_part e)) (parts_row es)

pub parts_of : (v : Vec Part) → view_parts (t.hidden-the_row-Part-7 v) ≡ parts v.items
parts_of v = parts_row (t.hidden-the_row-Part-7 v) ∙ ap parts (t.items_hidden-the_row-Part-7 v)

fields_row : {n : _} (k : t.Row_of-Field n) → view_fields k ≡ fields (t.items-the_row-Field n k)
unfolding view
fields_row t.end_of-Field = refl
fields_row (t.more_of-Field e es) = ap (pure.more_field (view_field e)) (fields_row es)

pub fields_of : (v : Vec Field) → view_fields (t.hidden-the_row-Field-8 v) ≡ fields v.items
fields_of v = fields_row (t.hidden-the_row-Field-8 v) ∙ ap fields (t.items_hidden-the_row-Field-8 v)

mod_arguments_row : {n : _} (k : m.Row_of-ModArgument n) → view_mod_arguments k ≡ mod_arguments (m.items-the_row-ModArgument n k)
unfolding view_mod
mod_arguments_row m.end_of-ModArgument = refl
mod_arguments_row (m.more_of-ModArgument e es) = ap (pure.more_mod_argument (view_mod_argument e)) (mod_arguments_row es)

pub mod_arguments_of : (v : Vec ModArgument) → view_mod_arguments (m.hidden-the_row-ModArgument-2 v) ≡ mod_arguments v.items
mod_arguments_of v = mod_arguments_row (m.hidden-the_row-ModArgument-2 v) ∙ ap mod_arguments (m.items_hidden-the_row-ModArgument-2 v)

functor_params_row : {n : _} (k : m.Row_of-FunctorParam n) → view_functor_params k ≡ functor_params (m.items-the_row-FunctorParam n k)
unfolding view_mod
functor_params_row m.end_of-FunctorParam = refl
functor_params_row (m.more_of-FunctorParam e es) = ap (pure.more_functor_param (view_functor_param e)) (functor_params_row es)

pub functor_params_of : (v : Vec FunctorParam) → view_functor_params (m.hidden-the_row-FunctorParam-0 v) ≡ functor_params v.items
functor_params_of v = functor_params_row (m.hidden-the_row-FunctorParam-0 v) ∙ ap functor_params (m.items_hidden-the_row-FunctorParam-0 v)

items_row : {n : _} (k : m.Row_of-Item n) → view_items k ≡ items (m.items-the_row-Item n k)
unfolding view_mod
items_row m.end_of-Item = refl
items_row (m.more_of-Item e es) = ap (pure.more_item (view_item e)) (items_row es)

pub items_of : (v : Vec Item) → view_items (m.hidden-the_row-Item-1 v) ≡ items v.items
items_of v = items_row (m.hidden-the_row-Item-1 v) ∙ ap items (m.items_hidden-the_row-Item-1 v)

sig_items_row : {n : _} (k : m.Row_of-SigItem n) → view_sig_items k ≡ sig_items (m.items-the_row-SigItem n k)
unfolding view_mod
sig_items_row m.end_of-SigItem = refl
sig_items_row (m.more_of-SigItem e es) = ap (pure.more_sig_item (view_sig_item e)) (sig_items_row es)

pub sig_items_of : (v : Vec SigItem) → view_sig_items (m.hidden-the_row-SigItem-3 v) ≡ sig_items v.items
sig_items_of v = sig_items_row (m.hidden-the_row-SigItem-3 v) ∙ ap sig_items (m.items_hidden-the_row-SigItem-3 v)

tail_row : {n : _} (other : pure.Tail) (k : t.Row_of-Branch n) → view_tail k other ≡ tail_before other (t.items-the_row-Branch n k)
unfolding view
tail_row other t.end_of-Branch = refl
tail_row other (t.more_of-Branch at c a es) = ap (pure.or_if at (view c) (view a)) (tail_row other es)

pub tail_of : (other : pure.Tail) (v : Vec Branch) → view_tail (t.hidden-the_row-Branch-4 v) other ≡ tail_before other v.items
tail_of other v = tail_row other (t.hidden-the_row-Branch-4 v) ∙ ap (tail_before other) (t.items_hidden-the_row-Branch-4 v)

cases_row : {n : _} (k : t.Row_of-Case n) → view_cases k ≡ cases (t.items-the_row-Case n k)
unfolding view
cases_row t.end_of-Case = refl
cases_row (t.more_of-Case x t.None' e es) = ap (pure.more_case (pure.CaseOf (view_pat x) pure.no_expr (view e))) (cases_row es)
cases_row (t.more_of-Case x (t.Some' _ g) e es) = ap (pure.more_case (pure.CaseOf (view_pat x) (pure.some_expr (view g)) (view e))) (cases_row es)

pub cases_of : (v : Vec Case) → view_cases (t.hidden-the_row-Case-3 v) ≡ cases v.items
cases_of v = cases_row (t.hidden-the_row-Case-3 v) ∙ ap cases (t.items_hidden-the_row-Case-3 v)

pub guard_of : (g : Option (Box Expr)) → view_maybe (t.back-Expr-If-4 g) ≡ maybe g
unfolding view
guard_of None = refl
guard_of (Some e) = refl

pub ruleset views = (
  pats_of,
  pat_fields_of,
  locals_of,
  links_of,
  commas_of,
  ops_of,
  bindings_of,
  arguments_of,
  params_of,
  parts_of,
  fields_of,
  mod_arguments_of,
  functor_params_of,
  items_of,
  sig_items_of,
  tail_of,
  cases_of,
)
