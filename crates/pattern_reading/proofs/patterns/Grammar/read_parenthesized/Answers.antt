use Rattle.std.proofs.Common.{◌≡◌, ◌+◌, None, Some, sym, ap, ◌∙◌}
use Rattle.ml_trees.specs.View.{view_name}
use Rattle.ml_trees.proofs.Variants.{at_pat_value}
use Rattle.token_reading.specs.Pieces.{operator_at}
use Rattle.token_reading.specs.PatReading.{read_pat}
use Rattle.token_reading.specs.Tokens.{from}
use Rattle.token_reading.proofs.Operators.{paren_operator, paren_other}
use Rattle.pattern_reading.proofs.patterns.Grammar.read_parenthesized.Goals as goal

pub returns-in-Ok : goal.returns-in-Ok
returns-in-Ok g c =
    let d = c.args.self.now.depth in
    let ts = c.args.tokens.now in
    paren_operator (read_pat d) d (c.args.at + 1) (from ts (c.args.at + 1)) (view_name c.in-Ok.name) (from ts c.in-Ok.after) c.in-Ok.ensures
    ∙ ap (λ p. Some (p, from ts c.in-Ok.after)) (sym (at_pat_value c.in-Ok.name))

pub returns-in-Err-Syntax : goal.returns-in-Err-Syntax
returns-in-Err-Syntax g c =
    let d = c.args.self.now.depth in
    let here = from c.args.tokens.now (c.args.at + 1) in
    let failed : operator_at (c.args.at + 1) here ≡ None = rw c.in-Err-Syntax.field-0-is at c.in-Err-Syntax.ensures in
    rw (paren_other (read_pat d) d (c.args.at + 1) here (sym c.has_fixed.ensures.value ∙ c.if-has_fixed.false) failed) c.read_inner.ensures
