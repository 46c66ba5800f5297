-- What `sample` counts (own).
use Rattle.std.specs.Prelude.{◌≡◌, ℕ, ◌*◌, ◌-◌, ◌≤◌, true, Ok}
use Rattle.rotor_base.specs.declared.report.SampleReport.{SampleReport}
use Rattle.sample_project.specs.Sample.{Samples}

-- a sample has no more units: its files are those of the numbers below this one
abbrev pub most_units : ℕ
most_units = 1000

-- two declarations, three references for each unit after the first, and the renaming is undone
abbrev pub counted_report : ℕ → SampleReport
counted_report n = record { units = n; footprint = 2; references = 3 * (n - 1); undone = true }

-- Law: of two units or more, `sample` reports that
abbrev pub SamplesAreCounted : Type 0
SamplesAreCounted = (n : ℕ) (report : SampleReport) → 2 ≤ n → n ≤ most_units → Samples n (Ok report) → report ≡ counted_report n
