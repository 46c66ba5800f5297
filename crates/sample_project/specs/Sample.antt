-- What `sample` reports (own).
use Rattle.std.specs.Prelude.{◌≡◌, ℕ, List, [], ◌∷◌, true, Option, Some, None, Result, Ok, Err, length, slice_get, codes}
use Rattle.rotor_base.specs.declared.refusal.Refusal.{Refusal}
use Rattle.rotor_base.specs.declared.report.Renamed.{Renamed}
use Rattle.rotor_base.specs.declared.report.SampleReport.{SampleReport}
use Rattle.rotor_base.specs.declared.source.SourceFile.{SourceFile}
use Rattle.rotor_base.specs.declared.target.Target.{Target}
use Rattle.rotor_base.specs.declared.target.Target.TheVariants.{At, Dotted}
use Rattle.rotor_base.specs.Files.{FileSet}
use Rattle.rename_files.specs.Answer.{Renames}
use Rattle.sample_project.specs.Sources.{sample_files}

-- `U0.S.f`
abbrev pub sample_target : Target
sample_target = Dotted (codes "U0" ∷ codes "S" ∷ codes "f" ∷ [])

-- the answer to the renaming of `U0.S.f` to `renamed` in the files of so many units
abbrev pub Answers : ℕ → Result Renamed Refusal → Type 0
Answers n answer = Renames (sample_files n) sample_target (codes "renamed") answer

-- the numbers of a renaming that is undone
abbrev pub report_of : ℕ → Renamed → SampleReport
report_of n done = record { units = n; footprint = length done.foot.decls; references = done.refs; undone = true }

abbrev pub name_of : Option SourceFile → List ℕ
name_of (Some file) = file.name
name_of None = []

-- the token that the undo of a renaming in these sources names
abbrev pub undo_target : List SourceFile → Renamed → Target
undo_target entries done = At (name_of (slice_get entries done.undo_at.file)) done.undo_at.token

-- the renaming back of what was renamed in these files is accepted, and gives them back
abbrev pub IsUndone : FileSet → Renamed → Type 0
IsUndone files done = (back : Renamed) × Renames done.files (undo_target files.entries done) done.old (Ok back) × (back.files ≡ files)

-- What `sample` reports of so many units: the numbers of the renaming, which is undone. Or the refusal of the renaming.
abbrev pub Samples : ℕ → Result SampleReport Refusal → Type 0
Samples n (Ok report) = (done : Renamed) × Answers n (Ok done) × IsUndone (sample_files n) done × (report ≡ report_of n done)
Samples n (Err why) = Answers n (Err why)
