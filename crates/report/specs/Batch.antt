-- The lines of `batch` (own).
use Rattle.std.specs.Prelude.{ℕ, List, [], ◌∷◌, codes}
use Rattle.std.specs.Fmt.{decimal}
use Rattle.rotor_base.specs.declared.place.Place.{Place}
use Rattle.rotor_base.specs.declared.refusal.Refusal.{Refusal}
use Rattle.report.specs.declared.notice.Part.TheVariants.{Plain}
use Rattle.report.specs.Pieces.{Word, join, place_text}
use Rattle.report.specs.Notice.{project, refusal_notice}
use Rattle.report.specs.Lines.{number_line, rename_line}
use Rattle.report.specs.Text.{notice_text}

-- the number of the steps
abbrev pub batch_line : ℕ → Word
batch_line steps = number_line (codes "batch") steps

-- what a step has done: rename OLD to NEW P
abbrev pub step_line : List Word → Word → Word → Place → Word
step_line names old new at = join (rename_line old new ∷ codes " " ∷ place_text names at ∷ [])

-- a batch with a step that is refused: its number, and the line of the refusal
abbrev pub stopped_text : List Word → ℕ → Refusal → List ℕ
stopped_text names step refusal = join (codes "step " ∷ decimal step ∷ codes " " ∷ notice_text (refusal_notice names refusal) ∷ [])

-- a batch with a line that is no step: the number of the line
abbrev pub bad_batch_text : ℕ → List ℕ
bad_batch_text number = notice_text (project (codes "badbatch") (Plain (decimal number) ∷ []))
