-- The words of each part of a tree, and then more.
use Rattle.std.proofs.Common.{ℕ, List, Bool, Option}
use Rattle.ml_trees.specs.declared.fixed.Fixed.{Fixed}
use Rattle.ml_trees.specs.Tok.{Name, Tok}
use Rattle.ml_trees.specs.Tree.{ValueName, Pats, PatField, PatFields, Variable, LocalModule, LocalArguments, Links, MaybeExpr, Tail, Binding}
use Rattle.ml_trees.specs.Tree.{Bindings, Case, Cases, Argument, Arguments, Param, Params, Part, Parts, Field, Fields, ModuleName, Constraint}
use Rattle.ml_trees.specs.Tree.{WithClause, ModExpr, ModArgument, ModArguments, FunctorParam, FunctorParams, ModType, MaybeType}
use Rattle.ml_trees.specs.Events.{names_out, type_out, optional_out, bang_out, open_out, pats_out, pat_field_out, pat_fields_out, variable_out}
use Rattle.ml_trees.specs.Events.{local_out, locals_out, lowers_out, links_out, base_out, guard_out, tail_out, binding_out, bindings_out, case_out}
use Rattle.ml_trees.specs.Events.{cases_out, argument_out, arguments_out, param_out, params_out, part_out, parts_out, field_out, fields_out}
use Rattle.ml_trees.specs.Events.{module_name_out, constraint_out, constraints_out, withs_out, texts_out, external_out, open_item_out, mod_out}
use Rattle.ml_trees.specs.Events.{mod_argument_out, mod_arguments_out, functor_param_out, functor_params_out, mod_type_out, signature_out}
pub use Rattle.ml_trees.specs.Events.{truth, opening, closing, wrap, direction}
use Rattle.ml_trees.specs.Words.{add_words}
pub use Rattle.ml_trees.specs.Words.{dotted_then, path_then, qualified_then, name_then, pat_then, expr_then, item_then, items_then, sig_item_then}
pub use Rattle.ml_trees.specs.Words.{sig_items_then, pat_words, expr_words, words}

abbrev pub names_then : List ValueName → List Tok → List Tok
names_then = names_out add_words

abbrev pub type_then : Option (List Tok) → List Tok → List Tok
type_then = type_out add_words

abbrev pub optional_then : Fixed → Bool → List Tok → List Tok
optional_then = optional_out add_words

abbrev pub bang_then : Option Name → List Tok → List Tok
bang_then = bang_out add_words

abbrev pub open_then : Option ℕ → List Tok → List Tok
open_then = open_out add_words

abbrev pub pats_then : Fixed → Pats → List Tok → List Tok
pats_then = pats_out add_words

abbrev pub pat_field_then : PatField → List Tok → List Tok
pat_field_then = pat_field_out add_words

abbrev pub pat_fields_then : PatFields → List Tok → List Tok
pat_fields_then = pat_fields_out add_words

abbrev pub variable_then : Variable → List Tok → List Tok
variable_then = variable_out add_words

abbrev pub local_then : LocalModule → List Tok → List Tok
local_then = local_out add_words

abbrev pub locals_then : LocalArguments → List Tok → List Tok
locals_then = locals_out add_words

abbrev pub lowers_then : List Name → List Tok → List Tok
lowers_then = lowers_out add_words

abbrev pub links_then : Links → List Tok → List Tok
links_then = links_out add_words

abbrev pub base_then : MaybeExpr → List Tok → List Tok
base_then = base_out add_words

abbrev pub guard_then : MaybeExpr → List Tok → List Tok
guard_then = guard_out add_words

abbrev pub tail_then : Tail → List Tok → List Tok
tail_then = tail_out add_words

abbrev pub binding_then : Binding → List Tok → List Tok
binding_then = binding_out add_words

abbrev pub bindings_then : Bindings → List Tok → List Tok
bindings_then = bindings_out add_words

abbrev pub case_then : Case → List Tok → List Tok
case_then = case_out add_words

abbrev pub cases_then : Cases → List Tok → List Tok
cases_then = cases_out add_words

abbrev pub argument_then : Argument → List Tok → List Tok
argument_then = argument_out add_words

abbrev pub arguments_then : Arguments → List Tok → List Tok
arguments_then = arguments_out add_words

abbrev pub param_then : Param → List Tok → List Tok
param_then = param_out add_words

abbrev pub params_then : Params → List Tok → List Tok
params_then = params_out add_words

abbrev pub part_then : Part → List Tok → List Tok
part_then = part_out add_words

abbrev pub parts_then : Parts → List Tok → List Tok
parts_then = parts_out add_words

abbrev pub field_then : Field → List Tok → List Tok
field_then = field_out add_words

abbrev pub fields_then : Fields → List Tok → List Tok
fields_then = fields_out add_words

abbrev pub module_name_then : ModuleName → List Tok → List Tok
module_name_then = module_name_out add_words

abbrev pub constraint_then : Constraint → List Tok → List Tok
constraint_then = constraint_out add_words

abbrev pub constraints_then : List Constraint → List Tok → List Tok
constraints_then = constraints_out add_words

abbrev pub withs_then : List WithClause → List Tok → List Tok
withs_then = withs_out add_words

abbrev pub texts_then : List Name → List Tok → List Tok
texts_then = texts_out add_words

abbrev pub external_then : ValueName → List Tok → ℕ → List Name → List Tok → List Tok
external_then = external_out add_words

abbrev pub open_item_then : ℕ → Option Name → List Name → List Tok → List Tok
open_item_then = open_item_out add_words

abbrev pub mod_then : ModExpr → List Tok → List Tok
mod_then = mod_out add_words

abbrev pub mod_argument_then : ModArgument → List Tok → List Tok
mod_argument_then = mod_argument_out add_words

abbrev pub mod_arguments_then : ModArguments → List Tok → List Tok
mod_arguments_then = mod_arguments_out add_words

abbrev pub functor_param_then : FunctorParam → List Tok → List Tok
functor_param_then = functor_param_out add_words

abbrev pub functor_params_then : FunctorParams → List Tok → List Tok
functor_params_then = functor_params_out add_words

abbrev pub mod_type_then : ModType → List Tok → List Tok
mod_type_then = mod_type_out add_words

abbrev pub signature_then : MaybeType → List Tok → List Tok
signature_then = signature_out add_words
