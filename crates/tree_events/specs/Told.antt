-- What the events of each kind of tree make of a state (own).
use Rattle.std.specs.Prelude.{List}
use Rattle.ml_trees.specs.declared.fixed.Fixed.{Fixed}
use Rattle.ml_trees.specs.Tree.{ValueName, Pat}
use Rattle.ml_trees.specs.Tree.{Pats, PatField}
use Rattle.ml_trees.specs.Tree.{PatFields, Variable, LocalModule}
use Rattle.ml_trees.specs.Tree.{LocalArguments, Expr}
use Rattle.ml_trees.specs.Tree.{Links}
use Rattle.ml_trees.specs.Tree.{MaybeExpr, Binding}
use Rattle.ml_trees.specs.Tree.{Bindings, Case, Cases, Argument}
use Rattle.ml_trees.specs.Tree.{Arguments, Param}
use Rattle.ml_trees.specs.Tree.{Params, Part}
use Rattle.ml_trees.specs.Tree.{Parts}
use Rattle.ml_trees.specs.Tree.{Field, Fields, ModuleName}
use Rattle.ml_trees.specs.Tree.{ModExpr}
use Rattle.ml_trees.specs.Tree.{ModArgument, ModArguments}
use Rattle.ml_trees.specs.Tree.{FunctorParam, FunctorParams, ModType}
use Rattle.ml_trees.specs.Tree.{MaybeType, Item}
use Rattle.ml_trees.specs.Tree.{Items, SigItem}
use Rattle.ml_trees.specs.Tree.{SigItems, FileTree}
use Rattle.ml_trees.specs.Events.{Event, brings}
use Rattle.ml_trees.specs.Events.{names_out, pat_out, pats_out, pat_field_out, pat_fields_out, variable_out, local_out, locals_out, expr_out}
use Rattle.ml_trees.specs.Events.{links_out, base_out, guard_out, binding_out, bindings_out, case_out, cases_out, argument_out, arguments_out}
use Rattle.ml_trees.specs.Events.{param_out, params_out, part_out, parts_out, field_out, fields_out, mod_out, mod_argument_out}
use Rattle.ml_trees.specs.Events.{mod_arguments_out, functor_param_out, functor_params_out, mod_type_out, signature_out, item_out, items_out}
use Rattle.ml_trees.specs.Events.{sig_item_out, sig_items_out, file_out}
use Rattle.tree_events.specs.Behind.{behind}

unfoldable pub names_told : {S : Type 0} → (S → Event → S) → S → List ValueName → S
names_told step s x0 = names_out (behind step) x0 (λ t. t) s

unfoldable pub brings_told : {S : Type 0} → (S → Event → S) → S → ModuleName → S
brings_told step s x0 = behind step (brings x0) (λ t. t) s

unfoldable pub pat_told : {S : Type 0} → (S → Event → S) → S → Pat → S
pat_told step s x0 = pat_out (behind step) x0 (λ t. t) s

unfoldable pub pats_told : {S : Type 0} → (S → Event → S) → S → Fixed → Pats → S
pats_told step s x0 x1 = pats_out (behind step) x0 x1 (λ t. t) s

unfoldable pub pat_field_told : {S : Type 0} → (S → Event → S) → S → PatField → S
pat_field_told step s x0 = pat_field_out (behind step) x0 (λ t. t) s

unfoldable pub pat_fields_told : {S : Type 0} → (S → Event → S) → S → PatFields → S
pat_fields_told step s x0 = pat_fields_out (behind step) x0 (λ t. t) s

unfoldable pub variable_told : {S : Type 0} → (S → Event → S) → S → Variable → S
variable_told step s x0 = variable_out (behind step) x0 (λ t. t) s

unfoldable pub local_told : {S : Type 0} → (S → Event → S) → S → LocalModule → S
local_told step s x0 = local_out (behind step) x0 (λ t. t) s

unfoldable pub locals_told : {S : Type 0} → (S → Event → S) → S → LocalArguments → S
locals_told step s x0 = locals_out (behind step) x0 (λ t. t) s

unfoldable pub expr_told : {S : Type 0} → (S → Event → S) → S → Expr → S
expr_told step s x0 = expr_out (behind step) x0 (λ t. t) s

unfoldable pub links_told : {S : Type 0} → (S → Event → S) → S → Links → S
links_told step s x0 = links_out (behind step) x0 (λ t. t) s

unfoldable pub base_told : {S : Type 0} → (S → Event → S) → S → MaybeExpr → S
base_told step s x0 = base_out (behind step) x0 (λ t. t) s

unfoldable pub guard_told : {S : Type 0} → (S → Event → S) → S → MaybeExpr → S
guard_told step s x0 = guard_out (behind step) x0 (λ t. t) s

unfoldable pub binding_told : {S : Type 0} → (S → Event → S) → S → Binding → S
binding_told step s x0 = binding_out (behind step) x0 (λ t. t) s

unfoldable pub bindings_told : {S : Type 0} → (S → Event → S) → S → Bindings → S
bindings_told step s x0 = bindings_out (behind step) x0 (λ t. t) s

unfoldable pub case_told : {S : Type 0} → (S → Event → S) → S → Case → S
case_told step s x0 = case_out (behind step) x0 (λ t. t) s

unfoldable pub cases_told : {S : Type 0} → (S → Event → S) → S → Cases → S
cases_told step s x0 = cases_out (behind step) x0 (λ t. t) s

unfoldable pub argument_told : {S : Type 0} → (S → Event → S) → S → Argument → S
argument_told step s x0 = argument_out (behind step) x0 (λ t. t) s

unfoldable pub arguments_told : {S : Type 0} → (S → Event → S) → S → Arguments → S
arguments_told step s x0 = arguments_out (behind step) x0 (λ t. t) s

unfoldable pub param_told : {S : Type 0} → (S → Event → S) → S → Param → S
param_told step s x0 = param_out (behind step) x0 (λ t. t) s

unfoldable pub params_told : {S : Type 0} → (S → Event → S) → S → Params → S
params_told step s x0 = params_out (behind step) x0 (λ t. t) s

unfoldable pub part_told : {S : Type 0} → (S → Event → S) → S → Part → S
part_told step s x0 = part_out (behind step) x0 (λ t. t) s

unfoldable pub parts_told : {S : Type 0} → (S → Event → S) → S → Parts → S
parts_told step s x0 = parts_out (behind step) x0 (λ t. t) s

unfoldable pub field_told : {S : Type 0} → (S → Event → S) → S → Field → S
field_told step s x0 = field_out (behind step) x0 (λ t. t) s

unfoldable pub fields_told : {S : Type 0} → (S → Event → S) → S → Fields → S
fields_told step s x0 = fields_out (behind step) x0 (λ t. t) s

unfoldable pub mod_told : {S : Type 0} → (S → Event → S) → S → ModExpr → S
mod_told step s x0 = mod_out (behind step) x0 (λ t. t) s

unfoldable pub mod_argument_told : {S : Type 0} → (S → Event → S) → S → ModArgument → S
mod_argument_told step s x0 = mod_argument_out (behind step) x0 (λ t. t) s

unfoldable pub mod_arguments_told : {S : Type 0} → (S → Event → S) → S → ModArguments → S
mod_arguments_told step s x0 = mod_arguments_out (behind step) x0 (λ t. t) s

unfoldable pub functor_param_told : {S : Type 0} → (S → Event → S) → S → FunctorParam → S
functor_param_told step s x0 = functor_param_out (behind step) x0 (λ t. t) s

unfoldable pub functor_params_told : {S : Type 0} → (S → Event → S) → S → FunctorParams → S
functor_params_told step s x0 = functor_params_out (behind step) x0 (λ t. t) s

unfoldable pub mod_type_told : {S : Type 0} → (S → Event → S) → S → ModType → S
mod_type_told step s x0 = mod_type_out (behind step) x0 (λ t. t) s

unfoldable pub signature_told : {S : Type 0} → (S → Event → S) → S → MaybeType → S
signature_told step s x0 = signature_out (behind step) x0 (λ t. t) s

unfoldable pub item_told : {S : Type 0} → (S → Event → S) → S → Item → S
item_told step s x0 = item_out (behind step) x0 (λ t. t) s

unfoldable pub items_told : {S : Type 0} → (S → Event → S) → S → Items → S
items_told step s x0 = items_out (behind step) x0 (λ t. t) s

unfoldable pub sig_item_told : {S : Type 0} → (S → Event → S) → S → SigItem → S
sig_item_told step s x0 = sig_item_out (behind step) x0 (λ t. t) s

unfoldable pub sig_items_told : {S : Type 0} → (S → Event → S) → S → SigItems → S
sig_items_told step s x0 = sig_items_out (behind step) x0 (λ t. t) s

unfoldable pub file_told : {S : Type 0} → (S → Event → S) → S → FileTree → S
file_told step s x0 = file_out (behind step) x0 (λ t. t) s
