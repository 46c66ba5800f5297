use Rattle.std.proofs.Common.{◌++◌, ◌∙◌, ap, map, sym}
use Rattle.refusal_words.specs.Cut.{view_cut}
use Rattle.explain.specs.Shown.{outside_line}
use Rattle.explain.proofs.shown.push_outside.Goals as goal

pub returns : goal.returns
returns c =
    c.in_ok-extend_from_slice.ensures.items
    ∙ ap (λ line. c.args.text.now.items ++ line)
    (c.as_slice-2.ensures
    ∙ ((rw (c.as_slice.ensures, c.in_ok-at.ensures, c.in_ok-spot.ensures) at c.in_ok-line.ensures)
    ∙ ap (outside_line (map view_cut c.args.cuts.now)) (sym c.in-Some.is)))
