-- What a loop found, as a row, and a row with the expression before it.
use Rattle.std.proofs.Common.{◌≡◌, ℕ, ◌<◌, List, [], ◌∷◌, Bool, true, false, length, map, refl, ap, ◌∙◌, arith}
use Rattle.ml_trees.specs.declared.word.Word.{Word}
use Rattle.ml_trees.specs.declared.expression.LocalArgument.{LocalArgument}
use Rattle.ml_trees.specs.declared.expression.LocalArgument.TheBlock as l
use Rattle.ml_trees.specs.declared.expression.LocalArgument.TheVariants as l_v
use Rattle.ml_trees.specs.declared.expression.LocalModule.{LocalModule}
use Rattle.ml_trees.specs.declared.expression.Expr.{Expr}
use Rattle.ml_trees.specs.declared.expression.Binding.{Binding}
use Rattle.ml_trees.specs.declared.expression.Case.{Case}
use Rattle.ml_trees.specs.declared.expression.Branch.{Branch}
use Rattle.ml_trees.specs.declared.expression.Argument.{Argument}
use Rattle.ml_trees.specs.declared.expression.Param.{Param}
use Rattle.ml_trees.specs.declared.expression.Part.{Part}
use Rattle.ml_trees.specs.declared.expression.Field.{Field}
use Rattle.ml_trees.specs.declared.fixed.Fixed.TheVariants as key
use Rattle.ml_trees.specs.Tok.{fixed}
use Rattle.ml_trees.specs.Tree as pure
use Rattle.ml_trees.specs.View.{view, view_binding, view_case, view_argument, view_param, view_part, view_field, links, commas, ops, bindings, cases}
use Rattle.ml_trees.specs.View.{arguments, params, parts, fields, locals, view_path, view_local, view_local_then, tail_before}
use Rattle.ml_trees.proofs.Views.{locals_of}
use Rattle.token_reading.proofs.Turns.{before}
use Rattle.expr_reading.specs.ExprReading.{given_module, given_none, cons_link, cons_branch, cons_local, grown_seq, grown_chain, grown_apply}
use Rattle.expr_reading.specs.ExprReading.{grown_postfix}
use Rattle.expr_parts.specs.Rows.{local_of, link_of, branch_of}

pub links_before : (xs : List Expr) → before cons_link (map link_of xs) pure.no_link ≡ links xs
links_before [] = refl
links_before (x ∷ xs) = ap (pure.more_link (fixed key.Semicolon) (view x)) (links_before xs)

pub bindings_before : (xs : List Binding) → before pure.more_binding (map view_binding xs) pure.no_binding ≡ bindings xs
bindings_before [] = refl
bindings_before (x ∷ xs) = ap (pure.more_binding (view_binding x)) (bindings_before xs)

pub cases_before : (xs : List Case) → before pure.more_case (map view_case xs) pure.no_case ≡ cases xs
cases_before [] = refl
cases_before (x ∷ xs) = ap (pure.more_case (view_case x)) (cases_before xs)

pub arguments_before : (xs : List Argument) → before pure.more_argument (map view_argument xs) pure.no_argument ≡ arguments xs
arguments_before [] = refl
arguments_before (x ∷ xs) = ap (pure.more_argument (view_argument x)) (arguments_before xs)

pub params_before : (xs : List Param) → before pure.more_param (map view_param xs) pure.no_param ≡ params xs
params_before [] = refl
params_before (x ∷ xs) = ap (pure.more_param (view_param x)) (params_before xs)

pub parts_before : (xs : List Part) → before pure.more_part (map view_part xs) pure.no_part ≡ parts xs
parts_before [] = refl
parts_before (x ∷ xs) = ap (pure.more_part (view_part x)) (parts_before xs)

pub fields_before : (xs : List Field) → before pure.more_field (map view_field xs) pure.no_field ≡ fields xs
fields_before [] = refl
fields_before (x ∷ xs) = ap (pure.more_field (view_field x)) (fields_before xs)

pub tail_before_is : (last : pure.Tail) (xs : List Branch) → before cons_branch (map branch_of xs) last ≡ tail_before last xs
tail_before_is last [] = refl
tail_before_is last (x ∷ xs) = ap (pure.or_if x.at (view x.test) (view x.then)) (tail_before_is last xs)

local_before : (m : LocalArgument) (k : pure.LocalArguments) → cons_local (local_of m) k ≡ view_local_then m k
unfolding local_of view_local_then
local_before (l.Module' at path _ ms) k = refl
local_before (l.Nothing at) k = refl

pub locals_before : (xs : List LocalArgument) → before cons_local (map local_of xs) pure.no_local ≡ locals xs
locals_before [] = refl
locals_before (x ∷ xs) = ap (cons_local (local_of x)) (locals_before xs) ∙ local_before x (locals xs)

pub local_given : (at : ℕ) (m : LocalModule) → local_of (l_v.Module at m) ≡ given_module at (view_local m)
unfolding local_of
local_given at m = ap (λ ms. given_module at (pure.LocalPath (view_path m.path) ms)) (locals_of m.arguments)

pub local_nothing : (at : ℕ) → local_of (l_v.Nothing at) ≡ given_none at
unfolding local_of
local_nothing at = refl

pub ruleset local_parts_of = (local_given, local_nothing)

-- ---- a row with a part is a row, and one without is the expression before it

pub chain_more : (n : ℕ) (e : pure.Expr) (xs : List (Word × Expr)) → 0 < length xs → grown_chain n e (ops xs) ≡ pure.Chain n e (ops xs)
chain_more n e [] h = absurd (omega arith)
chain_more n e (x ∷ xs) h = refl

pub chain_none : (n : ℕ) (e : pure.Expr) (xs : List (Word × Expr)) → length xs ≡ 0 → grown_chain n e (ops xs) ≡ e
chain_none n e [] h = refl
chain_none n e (x ∷ xs) h = absurd (omega arith)

pub tuple_more : (e : pure.Expr) (xs : List Expr) → 0 < length xs → grown_chain 4 e (commas xs) ≡ pure.Chain 4 e (commas xs)
tuple_more e [] h = absurd (omega arith)
tuple_more e (x ∷ xs) h = refl

pub tuple_none : (e : pure.Expr) (xs : List Expr) → length xs ≡ 0 → grown_chain 4 e (commas xs) ≡ e
tuple_none e [] h = refl
tuple_none e (x ∷ xs) h = absurd (omega arith)

pub apply_more : (e : pure.Expr) (xs : List Argument) → 0 < length xs → grown_apply e (arguments xs) ≡ pure.Apply e (arguments xs)
apply_more e [] h = absurd (omega arith)
apply_more e (x ∷ xs) h = refl

pub apply_none : (e : pure.Expr) (xs : List Argument) → length xs ≡ 0 → grown_apply e (arguments xs) ≡ e
apply_none e [] h = refl
apply_none e (x ∷ xs) h = absurd (omega arith)

pub postfix_more : (e : pure.Expr) (xs : List Part) → 0 < length xs → grown_postfix e (parts xs) ≡ pure.Postfix e (parts xs)
postfix_more e [] h = absurd (omega arith)
postfix_more e (x ∷ xs) h = refl

pub postfix_none : (e : pure.Expr) (xs : List Part) → length xs ≡ 0 → grown_postfix e (parts xs) ≡ e
postfix_none e [] h = refl
postfix_none e (x ∷ xs) h = absurd (omega arith)

pub seq_last : (e : pure.Expr) (xs : List Expr) → grown_seq e (links xs) true ≡ pure.Seq e (links xs) true
seq_last e [] = refl
seq_last e (x ∷ xs) = refl

pub seq_more : (e : pure.Expr) (xs : List Expr) (last : Bool) → 0 < length xs → grown_seq e (links xs) last ≡ pure.Seq e (links xs) last
seq_more e [] last h = absurd (omega arith)
seq_more e (x ∷ xs) true h = refl
seq_more e (x ∷ xs) false h = refl

pub seq_none : (e : pure.Expr) (xs : List Expr) → length xs ≡ 0 → grown_seq e (links xs) false ≡ e
seq_none e [] h = refl
seq_none e (x ∷ xs) h = absurd (omega arith)

pub ruleset grown = (chain_more, chain_none, tuple_more, tuple_none, apply_more, apply_none, postfix_more, postfix_none, seq_last, seq_more, seq_none)
