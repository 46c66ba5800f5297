-- The lines of a report, without their ends (own).
use Rattle.std.specs.Prelude.{ℕ, List, [], ◌∷◌, ◌++◌, Bool, true, false, map, length, Option, Some, None, codes}
use Rattle.std.specs.Fmt.{decimal}
use Rattle.rotor_base.specs.declared.place.Place.{Place}
use Rattle.rotor_base.specs.declared.report.Counts.{Counts}
use Rattle.rotor_base.specs.declared.report.FootReport.{FootReport}
use Rattle.rotor_base.specs.declared.report.SampleReport.{SampleReport}
use Rattle.rotor_base.specs.declared.report.Renamed.{Renamed}
use Rattle.rotor_base.specs.declared.report.Outcome.{Outcome}
use Rattle.rotor_base.specs.declared.report.Outcome.TheVariants.{Done, Checked, Shown, Sampled, Refused, NotLoaded, BadWords}
use Rattle.report.specs.declared.notice.Notice.{Notice}
use Rattle.report.specs.Pieces.{Word, join, place_text, placed_name}
use Rattle.report.specs.Notice.{load_notice, notice_line, refusal_notice}

-- a word and a number
abbrev pub number_line : Word → ℕ → Word
number_line word number = join (word ∷ codes " " ∷ decimal number ∷ [])

abbrev pub files_line : ℕ → Word
files_line count = number_line (codes "files") count

abbrev pub declaration_line : List Word → Place → Word
declaration_line names at = join (codes "declaration " ∷ place_text names at ∷ [])

abbrev pub declaration_lines : List Word → List Place → List Word
declaration_lines names = map (declaration_line names)

-- the old name and the new one
abbrev pub rename_line : Word → Word → Word
rename_line old new = join (codes "rename " ∷ old ∷ codes " to " ∷ new ∷ [])

-- the words of an undo: the place, and the name that it had
abbrev pub undo_line : List Word → Place → Word → Word
undo_line names at old = join (codes "undo " ∷ placed_name names at old ∷ [])

abbrev pub done_lines : List Word → Renamed → List Word
done_lines names done =
    rename_line done.old done.new ∷
    (declaration_lines names done.foot.decls ++
    (number_line (codes "references") done.refs ∷
    files_line (length done.changed) ∷
    undo_line names done.undo_at done.old ∷ []))

abbrev pub checked_lines : Counts → List Word
checked_lines counts =
    files_line counts.files ∷
    number_line (codes "units") counts.units ∷
    number_line (codes "declarations") counts.declarations ∷
    number_line (codes "references") counts.references ∷
    number_line (codes "links") counts.links ∷ []

abbrev pub footprint_line : FootReport → Word
footprint_line shown = join (codes "footprint " ∷ shown.old ∷ [])

-- the place that is linked with the outside
abbrev pub outside_line : List Word → Option Place → Word
outside_line names None = join (codes "outside " ∷ codes "none" ∷ [])
outside_line names (Some at) = join (codes "outside " ∷ place_text names at ∷ [])

abbrev pub shown_lines : List Word → FootReport → List Word
shown_lines names shown =
    footprint_line shown ∷
    (declaration_lines names shown.foot.decls ++
    (number_line (codes "references") shown.refs ∷
    outside_line names shown.foot.outside ∷ []))

abbrev pub undone_text : Bool → Word
undone_text true = codes "yes"
undone_text false = codes "no"

abbrev pub sampled_line : SampleReport → Word
sampled_line sampled =
    join (codes "units " ∷ decimal sampled.units ∷ codes " footprint " ∷ decimal sampled.footprint ∷ codes " references " ∷ decimal sampled.references
    ∷ codes " undone " ∷ undone_text sampled.undone ∷ [])

abbrev pub usage_line : Word
usage_line = codes "usage: rotor check | footprint TARGET | rename TARGET NAME [--write | --safe] [--json] | sample N | verify OLDLIST NEWLIST | batch FILE [--write] | recover"

-- want of memory and a failed read have no line
abbrev pub notice_lines : Option Notice → List Word
notice_lines None = []
notice_lines (Some notice) = notice_line notice ∷ []

abbrev pub lines_of : List Word → Outcome → List Word
lines_of names (Done done) = done_lines names done
lines_of names (Checked counts) = checked_lines counts
lines_of names (Shown shown) = shown_lines names shown
lines_of names (Sampled sampled) = sampled_line sampled ∷ []
lines_of names (Refused refusal) = notice_lines (refusal_notice names refusal)
lines_of names (NotLoaded error) = notice_lines (load_notice error)
lines_of names BadWords = usage_line ∷ []
