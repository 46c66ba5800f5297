use Rattle.std.proofs.Common.{◌∙◌, [], ◌∷◌, ap}
use Rattle.report.specs.Pieces.{Word}
use Rattle.report.proofs.Shapes.{four, pushed}
use Rattle.report.proofs.lines.shown_lines.Goals as goal

pub returns : goal.returns
returns c =
    four _ _ _ _ _ _ _ _ (c.in_ok-lines.ensures ∙ ap (λ (l : Word). l ∷ []) c.in_ok-footprint_line.ensures) c.in_ok-add_declarations.ensures
    (pushed _ _ _ _ c.in_ok-push.ensures.ok c.in_ok-number_line.ensures) (pushed _ _ _ _ c.in_ok-push-2.ensures.ok c.in_ok-outside_line.ensures)
