use Rattle.std.proofs.Common.{◌+◌, option_map, sym, ap, ◌∙◌}
use Rattle.std.specs.List.{position}
use Rattle.std.proofs.lemmas.List.{take_rest}
use Rattle.unit_order.specs.Turns.{is_free}
use Rattle.unit_order.proofs.Cursor.{position_from}
use Rattle.unit_order.proofs.taking.next_free.Goals as goal

pub returns-in_err-next : goal.returns-in_err-next
returns-in_err-next c =
    let found = c.first_free.ensures ∙ ap (position is_free) (take_rest c.args.waiting.now c.args.from) in
    c.from_residual.ensures
    ∙ sym (position_from c.args.from c.args.waiting.now c.requires.inside c.requires.before
    ∙ ap (option_map (λ k. c.args.from + k)) (sym found ∙ c.in_err-next.was))

pub returns : goal.returns
returns c =
    let found = c.first_free.ensures ∙ ap (position is_free) (take_rest c.args.waiting.now c.args.from) in
    sym (position_from c.args.from c.args.waiting.now c.requires.inside c.requires.before
    ∙ ap (option_map (λ k. c.args.from + k)) (sym found ∙ c.in_ok-next.was))
