use Rattle.std.proofs.Common.{◌-◌, true, map}
use Rattle.ml_trees.specs.Tree as pure
use Rattle.token_reading.specs.Steps.{many}
use Rattle.token_reading.specs.Tokens.{from}
use Rattle.expr_reading.specs.ExprReading as r
use Rattle.expr_reading.specs.ExprReading.{read_expr}
use Rattle.expr_parts.specs.Rows.{link_of}
use Rattle.expr_parts.specs.Rows.{item_of}
use Rattle.token_reading.proofs.Turns.{Left}
use Rattle.expr_atoms.proofs.readers.Atoms.more_items.Given as goal

abbrev pub invariant-loop-turn : goal.invariant-loop-turn
invariant-loop-turn g l =
    let part = r.semicolon_part (read_expr l.self.grammar.depth) l.self.grammar.depth (item_of l.self.grammar.depth true) in
    Left pure.no_link r.cons_link (λ x. r.no_form x.1) part (map link_of l.found.items) (l._turn-end - l._turn) (from l.tokens l.at)
    (many pure.no_link r.cons_link (λ x. r.no_form x.1) part l.self.grammar.depth (from l.tokens l.fn.at))
