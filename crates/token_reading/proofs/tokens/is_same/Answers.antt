use Rattle.std.proofs.Common.{rules, sym, ◌∙◌}
use denote.Enum.Bare.{same_true, same_false}
use Rattle.ml_trees.specs.contracts.fixed.Fixed.{the_type}
use Rattle.token_reading.proofs.Places.{same_by}
use Rattle.token_reading.proofs.tokens.is_same.Goals as goal

pub returns : goal.returns
returns c = same_by c.args.a c.args.b c.eq.result (λ t. same_true the_type (search rules) c.args.a c.args.b (sym c.eq.ensures ∙ t))
    (λ f. same_false the_type c.args.a c.args.b (sym c.eq.ensures ∙ f))
