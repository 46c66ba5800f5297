use Rattle.std.proofs.Common.{◌∙◌, List, ℕ, [], ◌∷◌, length, ap}
use Rattle.report.specs.Pieces.{Word}
use Rattle.report.specs.Lines.{files_line}
use Rattle.report.proofs.Shapes.{five, pushed}
use Rattle.report.proofs.lines.done_lines.Goals as goal

pub returns : goal.returns
returns c =
    let count = ap (λ (xs : List ℕ). files_line (length xs)) c.as_slice.ensures in
    five _ _ _ _ _ _ _ _ _ _ (c.in_ok-lines.ensures ∙ ap (λ (l : Word). l ∷ []) c.in_ok-rename_line.ensures) c.in_ok-add_declarations.ensures
    (pushed _ _ _ _ c.in_ok-push.ensures.ok c.in_ok-number_line.ensures)
    (pushed _ _ _ _ c.in_ok-push-2.ensures.ok (c.in_ok-files_line.ensures ∙ count))
    (pushed _ _ _ _ c.in_ok-push-3.ensures.ok c.in_ok-undo_line.ensures)
