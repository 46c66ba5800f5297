use Rattle.std.proofs.Common.{◌∙◌, sym}
use Rattle.shape_core.proofs.Both.{last_later, last_earlier, last_neither}
use Rattle.shape_core.proofs.joins.last_of_both.Goals as goal

pub returns-in-Some : goal.returns-in-Some
returns-in-Some c test a b few n d earlier later =
    last_later test a b c.args.entries c.saturating_add.result (c.in-Some.position, c.in-Some.place, c.in-Some.after) few n
    (sym c.in-Some.is ∙ later) c.saturating_add.ensures

pub returns-in-Some-earlier : goal.returns-in-Some-earlier
returns-in-Some-earlier c test a b few n d earlier later =
    let s = c.in-Some-earlier in
    last_earlier test a b c.args.darks c.saturating_add-in-Some-earlier.result (s.position, s.place, s.after) few d (sym c.in-None.is ∙ later)
    (sym s.is ∙ earlier c.in-None.is) c.saturating_add-in-Some-earlier.ensures

pub returns-in-None-earlier : goal.returns-in-None-earlier
returns-in-None-earlier c test a b few n d earlier later =
    last_neither test a b (sym c.in-None.is ∙ later) (sym c.in-None-earlier.is ∙ earlier c.in-None.is)
