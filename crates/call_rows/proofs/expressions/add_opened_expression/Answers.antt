use Rattle.std.proofs.Common.{◌≤◌, List, length, sym, subst}
use Rattle.rotor_base.specs.declared.token.Token.{Token}
use Rattle.ml_lexer.specs.Lexed.{Lexed, view_tokens}
use Rattle.ml_trees.specs.View.{view}
use Rattle.token_reading.specs.Tokens.{from}
use Rattle.call_rows.proofs.Numbered.{within}
use Rattle.call_rows.proofs.expressions.add_opened_expression.Goals as goal

pub expr_refs-requires-clause-numbered : goal.expr_refs-requires-clause-numbered
expr_refs-requires-clause-numbered c =
    let value = c.deref.ensures.value in
    within _ c.deref.result.now 16 (view c.in-Ok.expression) (from c.deref.result.now c.in-Ok.end)
    (subst (λ (ts : List Token). Lexed _ (view_tokens ts)) (sym value) c.in_ok-tokens.ensures.cut)
    (subst (λ (ts : List Token). length ts ≤ 1000) (sym value) c.in_ok-tokens.ensures.few)
    c.in-Ok.ensures.found.reads

pub expr_looks-requires-clause-numbered : goal.expr_looks-requires-clause-numbered
expr_looks-requires-clause-numbered c =
    let value = c.deref.ensures.value in
    within _ c.deref.result.now 16 (view c.in-Ok.expression) (from c.deref.result.now c.in-Ok.end)
    (subst (λ (ts : List Token). Lexed _ (view_tokens ts)) (sym value) c.in_ok-tokens.ensures.cut)
    (subst (λ (ts : List Token). length ts ≤ 1000) (sym value) c.in_ok-tokens.ensures.few)
    c.in-Ok.ensures.found.reads
