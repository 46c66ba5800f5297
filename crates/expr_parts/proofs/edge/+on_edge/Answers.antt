use Rattle.std.proofs.Common.{sym, ap, ◌∙◌}
use Rattle.ml_trees.specs.Tree as pure
use Rattle.ml_trees.specs.WellFormed.{on_edge, is_open_if}
use Rattle.ml_trees.specs.View.{view, links, tail}
use Rattle.ml_trees.proofs.Variants.{at_expr_seq, at_expr_function, at_expr_match, at_expr_try, at_expr_if, at_expr_assign, at_expr_tuple}
use Rattle.ml_trees.proofs.Variants.{at_expr_chain}
use Rattle.expr_parts.specs.Edges.{test_of}
use Rattle.expr_parts.proofs.Edges.{shown, links_end, links_none, commas_end, commas_none, ops_end, ops_none, cases_end, cases_none, tail_end}
use Rattle.expr_parts.proofs.Edges.{tail_none, edge_seq, edge_chain, edge_function, edge_match, edge_try, if_other, if_none, if_open}
use Rattle.expr_parts.proofs.edge.+on_edge.Goals as goal

pub returns-in-Some : goal.returns-in-Some
returns-in-Some t c =
    let q = test_of c.args.looked_for in
    let s = c.in-Seq in
    c.on_edge.ensures ∙ sym (ap (λ e. on_edge q (view e)) s.is ∙ ap (on_edge q) (at_expr_seq s.first s.rest s.last)
    ∙ ap (λ l. on_edge q (pure.Seq (view s.first.value) (links s.rest.items) l)) c.if-last.false
    ∙ edge_seq c.args.looked_for _ _ ∙ links_end q _ s.rest.items c.in-Some.operand.now
    (shown s.rest.items c.deref.result.now c.deref.ensures.value c.in-Some.ensures.value))

pub returns-in-None : goal.returns-in-None
returns-in-None t c =
    let q = test_of c.args.looked_for in
    let s = c.in-Seq in
    c.on_edge-in-None.ensures ∙ ap (λ e. on_edge q (view e)) c.deref-in-None.ensures
    ∙ sym (ap (λ e. on_edge q (view e)) s.is ∙ ap (on_edge q) (at_expr_seq s.first s.rest s.last)
    ∙ ap (λ l. on_edge q (pure.Seq (view s.first.value) (links s.rest.items) l)) c.if-last.false
    ∙ edge_seq c.args.looked_for _ _ ∙ links_none q _ s.rest.items
    (shown s.rest.items c.deref.result.now c.deref.ensures.value c.in-None.ensures.value))

pub returns-in-Some-last : goal.returns-in-Some-last
returns-in-Some-last t c =
    let q = test_of c.args.looked_for in
    let s = c.in-Function in
    c.on_edge-in-Some-last.ensures
    ∙ sym (ap (λ e. on_edge q (view e)) s.is ∙ ap (on_edge q) (at_expr_function s.at s.bar s.first s.rest)
    ∙ edge_function c.args.looked_for c.in_default-looked_for.not-Form c.in_default-looked_for.not-Cases _ _ _ _ ∙ cases_end q _ s.rest.items
    c.in-Some-last.case.now (shown s.rest.items c.deref-in_default-looked_for.result.now c.deref-in_default-looked_for.ensures.value
    c.in-Some-last.ensures.value))

pub returns-in-None-last : goal.returns-in-None-last
returns-in-None-last t c =
    let q = test_of c.args.looked_for in
    let s = c.in-Function in
    c.on_edge-in-None-last.ensures ∙ ap (λ e. on_edge q (view e.body)) c.deref-in-None-last.ensures
    ∙ sym (ap (λ e. on_edge q (view e)) s.is ∙ ap (on_edge q) (at_expr_function s.at s.bar s.first s.rest)
    ∙ edge_function c.args.looked_for c.in_default-looked_for.not-Form c.in_default-looked_for.not-Cases _ _ _ _ ∙ cases_none q _ s.rest.items
    (shown s.rest.items c.deref-in_default-looked_for.result.now c.deref-in_default-looked_for.ensures.value c.in-None-last.ensures.value))

pub returns-in-Some-last-2 : goal.returns-in-Some-last-2
returns-in-Some-last-2 t c =
    let q = test_of c.args.looked_for in
    let s = c.in-Match in
    c.on_edge-in-Some-last-2.ensures
    ∙ sym (ap (λ e. on_edge q (view e)) s.is ∙ ap (on_edge q) (at_expr_match s.at s.subject s.bar s.first s.rest)
    ∙ edge_match c.args.looked_for c.in_default-looked_for-2.not-Form c.in_default-looked_for-2.not-Cases _ _ _ _ _ ∙ cases_end q _ s.rest.items
    c.in-Some-last-2.case.now
    (shown s.rest.items c.deref-in_default-looked_for-2.result.now c.deref-in_default-looked_for-2.ensures.value c.in-Some-last-2.ensures.value))

pub returns-in-None-last-2 : goal.returns-in-None-last-2
returns-in-None-last-2 t c =
    let q = test_of c.args.looked_for in
    let s = c.in-Match in
    c.on_edge-in-None-last-2.ensures ∙ ap (λ e. on_edge q (view e.body)) c.deref-in-None-last-2.ensures
    ∙ sym (ap (λ e. on_edge q (view e)) s.is ∙ ap (on_edge q) (at_expr_match s.at s.subject s.bar s.first s.rest)
    ∙ edge_match c.args.looked_for c.in_default-looked_for-2.not-Form c.in_default-looked_for-2.not-Cases _ _ _ _ _ ∙ cases_none q _ s.rest.items
    (shown s.rest.items c.deref-in_default-looked_for-2.result.now c.deref-in_default-looked_for-2.ensures.value c.in-None-last-2.ensures.value))

pub returns-in-Some-last-3 : goal.returns-in-Some-last-3
returns-in-Some-last-3 t c =
    let q = test_of c.args.looked_for in
    let s = c.in-Try in
    c.on_edge-in-Some-last-3.ensures
    ∙ sym (ap (λ e. on_edge q (view e)) s.is ∙ ap (on_edge q) (at_expr_try s.at s.subject s.bar s.first s.rest)
    ∙ edge_try c.args.looked_for c.in_default-looked_for-3.not-Form c.in_default-looked_for-3.not-Cases _ _ _ _ _ ∙ cases_end q _ s.rest.items
    c.in-Some-last-3.case.now
    (shown s.rest.items c.deref-in_default-looked_for-3.result.now c.deref-in_default-looked_for-3.ensures.value c.in-Some-last-3.ensures.value))

pub returns-in-None-last-3 : goal.returns-in-None-last-3
returns-in-None-last-3 t c =
    let q = test_of c.args.looked_for in
    let s = c.in-Try in
    c.on_edge-in-None-last-3.ensures ∙ ap (λ e. on_edge q (view e.body)) c.deref-in-None-last-3.ensures
    ∙ sym (ap (λ e. on_edge q (view e)) s.is ∙ ap (on_edge q) (at_expr_try s.at s.subject s.bar s.first s.rest)
    ∙ edge_try c.args.looked_for c.in_default-looked_for-3.not-Form c.in_default-looked_for-3.not-Cases _ _ _ _ _ ∙ cases_none q _ s.rest.items
    (shown s.rest.items c.deref-in_default-looked_for-3.result.now c.deref-in_default-looked_for-3.ensures.value c.in-None-last-3.ensures.value))

pub returns-in-Some-last-4 : goal.returns-in-Some-last-4
returns-in-Some-last-4 t c =
    let q = test_of c.args.looked_for in
    let s = c.in-If in
    c.on_edge-in-Some-last-4.ensures
    ∙ sym (ap (λ e. on_edge q (view e)) s.is
    ∙ ap (on_edge q) (at_expr_if s.at s.test s.then s.more s.otherwise
    ∙ ap (λ o. pure.If s.at (view s.test.value) (view s.then.value) (tail s.more.items o)) c.in-None-otherwise.is)
    ∙ if_none c.args.looked_for _ _ _ s.more.items c.in_default-looked_for-4.not-If c.in_default-looked_for-5.not-OpenIf
    ∙ tail_end q _ s.more.items c.in-Some-last-4.branch.now
    (shown s.more.items c.deref-in_default-looked_for-5.result.now c.deref-in_default-looked_for-5.ensures.value c.in-Some-last-4.ensures.value))

pub returns-in-None-last-4 : goal.returns-in-None-last-4
returns-in-None-last-4 t c =
    let q = test_of c.args.looked_for in
    let s = c.in-If in
    c.on_edge-in-None-last-4.ensures ∙ ap (λ e. on_edge q (view e)) c.deref-in-None-last-4.ensures
    ∙ sym (ap (λ e. on_edge q (view e)) s.is
    ∙ ap (on_edge q) (at_expr_if s.at s.test s.then s.more s.otherwise
    ∙ ap (λ o. pure.If s.at (view s.test.value) (view s.then.value) (tail s.more.items o)) c.in-None-otherwise.is)
    ∙ if_none c.args.looked_for _ _ _ s.more.items c.in_default-looked_for-4.not-If c.in_default-looked_for-5.not-OpenIf
    ∙ tail_none q _ s.more.items
    (shown s.more.items c.deref-in_default-looked_for-5.result.now c.deref-in_default-looked_for-5.ensures.value c.in-None-last-4.ensures.value))

pub returns-in-Some-last-5 : goal.returns-in-Some-last-5
returns-in-Some-last-5 t c =
    let q = test_of c.args.looked_for in
    let s = c.in-Assign in
    c.on_edge-in-Some-last-5.ensures
    ∙ sym (ap (λ e. on_edge q (view e)) s.is ∙ ap (on_edge q) (at_expr_assign s.first s.rest)
    ∙ edge_chain c.args.looked_for _ _ _ ∙ ops_end q _ s.rest.items c.in-Some-last-5.link.now
    (shown s.rest.items c.deref-in-Assign.result.now c.deref-in-Assign.ensures.value c.in-Some-last-5.ensures.value))

pub returns-in-None-last-5 : goal.returns-in-None-last-5
returns-in-None-last-5 t c =
    let q = test_of c.args.looked_for in
    let s = c.in-Assign in
    c.on_edge-in-None-last-5.ensures ∙ ap (λ e. on_edge q (view e)) c.deref-in-None-last-5.ensures
    ∙ sym (ap (λ e. on_edge q (view e)) s.is ∙ ap (on_edge q) (at_expr_assign s.first s.rest)
    ∙ edge_chain c.args.looked_for _ _ _ ∙ ops_none q _ s.rest.items
    (shown s.rest.items c.deref-in-Assign.result.now c.deref-in-Assign.ensures.value c.in-None-last-5.ensures.value))

pub returns-in-Some-last-6 : goal.returns-in-Some-last-6
returns-in-Some-last-6 t c =
    let q = test_of c.args.looked_for in
    let s = c.in-Tuple in
    c.on_edge-in-Some-last-6.ensures
    ∙ sym (ap (λ e. on_edge q (view e)) s.is ∙ ap (on_edge q) (at_expr_tuple s.first s.rest)
    ∙ edge_chain c.args.looked_for _ _ _ ∙ commas_end q _ s.rest.items c.in-Some-last-6.operand.now
    (shown s.rest.items c.deref-in-Tuple.result.now c.deref-in-Tuple.ensures.value c.in-Some-last-6.ensures.value))

pub returns-in-None-last-6 : goal.returns-in-None-last-6
returns-in-None-last-6 t c =
    let q = test_of c.args.looked_for in
    let s = c.in-Tuple in
    c.on_edge-in-None-last-6.ensures ∙ ap (λ e. on_edge q (view e)) c.deref-in-None-last-6.ensures
    ∙ sym (ap (λ e. on_edge q (view e)) s.is ∙ ap (on_edge q) (at_expr_tuple s.first s.rest)
    ∙ edge_chain c.args.looked_for _ _ _ ∙ commas_none q _ s.rest.items
    (shown s.rest.items c.deref-in-Tuple.result.now c.deref-in-Tuple.ensures.value c.in-None-last-6.ensures.value))

pub returns-in-Some-last-7 : goal.returns-in-Some-last-7
returns-in-Some-last-7 t c =
    let q = test_of c.args.looked_for in
    let s = c.in-Chain in
    c.on_edge-in-Some-last-7.ensures
    ∙ sym (ap (λ e. on_edge q (view e)) s.is ∙ ap (on_edge q) (at_expr_chain s.level s.first s.rest)
    ∙ edge_chain c.args.looked_for _ _ _ ∙ ops_end q _ s.rest.items c.in-Some-last-7.link.now
    (shown s.rest.items c.deref-in-Chain.result.now c.deref-in-Chain.ensures.value c.in-Some-last-7.ensures.value))

pub returns-in-None-last-7 : goal.returns-in-None-last-7
returns-in-None-last-7 t c =
    let q = test_of c.args.looked_for in
    let s = c.in-Chain in
    c.on_edge-in-None-last-7.ensures ∙ ap (λ e. on_edge q (view e)) c.deref-in-None-last-7.ensures
    ∙ sym (ap (λ e. on_edge q (view e)) s.is ∙ ap (on_edge q) (at_expr_chain s.level s.first s.rest)
    ∙ edge_chain c.args.looked_for _ _ _ ∙ ops_none q _ s.rest.items
    (shown s.rest.items c.deref-in-Chain.result.now c.deref-in-Chain.ensures.value c.in-None-last-7.ensures.value))

pub returns-in-Some-otherwise : goal.returns-in-Some-otherwise
returns-in-Some-otherwise t c =
    let q = test_of c.args.looked_for in
    let s = c.in-If in
    c.on_edge-in-Some-otherwise.ensures ∙ ap (λ e. on_edge q (view e)) c.deref-in-Some-otherwise.ensures
    ∙ sym (ap (λ e. on_edge q (view e)) s.is
    ∙ ap (on_edge q) (at_expr_if s.at s.test s.then s.more s.otherwise
    ∙ ap (λ o. pure.If s.at (view s.test.value) (view s.then.value) (tail s.more.items o)) c.in-Some-otherwise.is)
    ∙ if_other c.args.looked_for _ _ _ _ s.more.items c.in_default-looked_for-4.not-If)

pub returns-in-OpenIf : goal.returns-in-OpenIf
returns-in-OpenIf t c =
    let s = c.in-If in
    if_open s.at (view s.test.value) (view s.then.value) s.more.items
    ∙ sym (ap (λ e. on_edge is_open_if (view e)) s.is
    ∙ ap (on_edge is_open_if)
    (at_expr_if s.at s.test s.then s.more s.otherwise
    ∙ ap (λ o. pure.If s.at (view s.test.value) (view s.then.value) (tail s.more.items o)) c.in-None-otherwise.is))
    ∙ ap (λ k. on_edge (test_of k) (view c.args.expr.now)) (sym c.in-OpenIf.is)
