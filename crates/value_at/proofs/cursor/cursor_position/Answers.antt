use Rattle.std.proofs.Common.{sym, ◌∙◌}
use Rattle.value_at.proofs.Tokens.{first_found, second_found, third_found}
use Rattle.value_at.proofs.cursor.cursor_position.Goals as goal

pub returns-in-Some-clause-at : goal.returns-in-Some-clause-at
returns-in-Some-clause-at c = first_found c.args.offset c.in-Some.at c.args.tokens.now c.in-Some.ensures.at

pub returns-in-Some-word_before-clause-at : goal.returns-in-Some-word_before-clause-at
returns-in-Some-word_before-clause-at c =
    second_found c.args.offset c.args.tokens.now c.in-Some-word_before.at (sym c.in_default.is ∙ c.word_over.ensures.at)
    c.in-Some-word_before.ensures.at

pub returns-clause-at : goal.returns-clause-at
returns-clause-at c =
    third_found c.args.offset c.args.tokens.now c.token_over.result (sym c.in_default.is ∙ c.word_over.ensures.at)
    (sym c.in_default-word_before.is ∙ c.word_before.ensures.at) c.token_over.ensures.at
