-- The text of a verdict: its lines, each ended by LF (own).
use Rattle.std.specs.Prelude.{ℕ, List, ◌∷◌, map, length, flat_map}
use Rattle.rotor_base.specs.declared.report.Outcome.TheVariants.{Refused}
use Rattle.rename_parts.specs.Faults.{refusal_of_fault}
use Rattle.report.specs.Pieces.{Word}
use Rattle.report.specs.Text.{ended, text_of}
use Rattle.report.specs.Verify.{changed_line, fixed_text, other_byte_text, other_sources_text, verified_line}
use Rattle.rename_verify.specs.declared.verdict.Verdict.{Verdict}
use Rattle.rename_verify.specs.declared.verdict.Verdict.TheVariants.{Yes, No}
use Rattle.rename_verify.specs.declared.verdict.Why.{Why}
use Rattle.rename_verify.specs.declared.verdict.Why.TheVariants as why
use Rattle.rename_verify.specs.Changed.{Changed}

-- a binder with its old name and its new one
abbrev pub change_line : List Word → Changed → Word
change_line names c = changed_line names c.0 c.1 c.2

-- the number of these binders, and a line for each
abbrev pub yes_text : List Word → List Changed → List ℕ
yes_text names changes = flat_map ended (verified_line (length changes) ∷ map (change_line names) changes)

-- why a project is no valid respelling
abbrev pub why_text : List Word → Why → List ℕ
why_text names (why.Sources name) = other_sources_text name
why_text names (why.Bytes file offset) = other_byte_text names file offset
why_text names (why.Fixed at) = fixed_text names at
why_text names (why.Broken fault) = text_of names (Refused (refusal_of_fault fault))

abbrev pub verdict_text : List Word → Verdict → List ℕ
verdict_text names (Yes changes) = yes_text names changes.items
verdict_text names (No reason) = why_text names reason
