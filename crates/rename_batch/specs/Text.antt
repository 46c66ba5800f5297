-- The report of an accepted batch (own).
use Rattle.std.specs.Prelude.{ℕ, List, ◌∷◌, ◌++◌, map, flat_map, length}
use Rattle.report.specs.Pieces.{Word, placed_name}
use Rattle.report.specs.Lines.{files_line, undo_line as undo_line_of}
use Rattle.report.specs.Batch.{batch_line, step_line}
use Rattle.report.specs.Text.{ended}
use Rattle.rename_batch.specs.declared.step.Change.{Change}
use Rattle.rename_batch.specs.declared.step.Undo.{Undo}
use Rattle.rename_batch.specs.declared.step.Batched.{Batched}

-- what a step has done
abbrev pub change_line : List Word → Change → Word
change_line names change = step_line names change.old change.new change.at

-- P OLD
abbrev pub undo_words : List Word → Undo → Word
undo_words names undo = placed_name names undo.at undo.old

-- the lines P OLD of these steps back, as a text
abbrev pub undo_text : List Word → List Undo → List ℕ
undo_text names undos = flat_map ended (map (undo_words names) undos)

-- undo P OLD
abbrev pub undo_line : List Word → Undo → Word
undo_line names undo = undo_line_of names undo.at undo.old

-- the number of the steps, a line for each step, the number of the sources that changed, and a line for each step back
abbrev pub batch_lines : List Word → Batched → List Word
batch_lines names batched =
    batch_line (length batched.done) ∷
    (map (change_line names) batched.done ++ (files_line (length batched.changed) ∷ map (undo_line names) batched.undo))

abbrev pub batch_text : List Word → Batched → List ℕ
batch_text names batched = flat_map ended (batch_lines names batched)
