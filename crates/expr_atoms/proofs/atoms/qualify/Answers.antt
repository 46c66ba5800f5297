use Rattle.std.proofs.Common.{◌≡◌, List, Option, Some, length, sym, ap, ◌∙◌, arith}
use Rattle.std.specs.Vec.{vec_len}
use Rattle.ml_trees.specs.declared.word.ValueName.{ValueName}
use Rattle.ml_trees.specs.Tok.{Tok}
use Rattle.ml_trees.specs.Tree as pure
use Rattle.ml_trees.specs.View.{view, view_path, view_name, view_words}
use Rattle.ml_trees.proofs.Variants.{at_expr_value}
use Rattle.token_reading.specs.Tokens.{from}
use Rattle.token_reading.proofs.Stepping.{some_is}
use Rattle.expr_reading.specs.ExprReading.{opened_or, qualified}
use Rattle.expr_atoms.proofs.Lone.{plain_value}
use Rattle.expr_atoms.proofs.atoms.qualify.Goals as goal

pub returns-then-len-eq0 : goal.returns-then-len-eq0
returns-then-len-eq0 c =
    let path = view_path c.args.path in
    let here = from c.args.tokens.now c.args.at in
    let after = from c.args.tokens.now c.args.after in
    let x = view_name c.in-Value.name in
    let seen : view c.args.inner.value ≡ pure.Value (view_words c.in-Value.names.items) x = ap view (sym c.deref_mut.ensures.value ∙ c.in-Value.is)
    ∙ at_expr_value c.in-Value.names c.in-Value.name in
    let none : vec_len c.in-Value.names ≡ 0 = sym (ap vec_len c.in-Value.names-is) ∙ (sym c.len.ensures ∙ c.if-len-eq0.true) in
    let empty : length c.in-Value.names.items ≡ 0 = omega (arith, none) in
    let made : qualified path (view c.args.inner.value) after ≡ Some (pure.Value path x, after) = ap (λ (e : pure.Expr). qualified path e after) seen
    ∙ plain_value path after c.in-Value.names.items x empty in
    let taken : pure.Value path x ≡ pure.Value path (view_name c.take_name-name.result) =
    ap (λ (n : ValueName). pure.Value path (view_name n)) (sym (c.take_name-name.ensures ∙ c.in-Value.name-is)) in
    ap (λ (o : Option (pure.Expr × List Tok)). Some (opened_or path here o)) made
    ∙ ap (λ (e : pure.Expr). Some (e, after)) (taken ∙ some_is c.in_ok-value_of-in-Value.ensures)
