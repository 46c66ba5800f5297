-- What the line of a refusal holds (own).
use Rattle.std.specs.Prelude.{List, [], ◌∷◌, ◌++◌, Option, Some, None, codes, flat_map}
use Rattle.std.specs.Fmt.{decimal}
use Rattle.rotor_base.specs.declared.place.Place.{Place}
use Rattle.rotor_base.specs.declared.place.Goal.{Goal}
use Rattle.rotor_base.specs.declared.refusal.Refusal.{Refusal}
use Rattle.rotor_base.specs.declared.refusal.Refusal.TheVariants as refusal
use Rattle.rotor_base.specs.declared.refusal.LoadError.{LoadError}
use Rattle.rotor_base.specs.declared.refusal.LoadError.TheVariants as load
use Rattle.report.specs.declared.notice.Subject.{Subject}
use Rattle.report.specs.declared.notice.Subject.TheVariants.{Project, Renaming}
use Rattle.report.specs.declared.notice.Part.{Part}
use Rattle.report.specs.declared.notice.Part.TheVariants.{Plain, Was, Would}
use Rattle.report.specs.declared.notice.Notice.{Notice}
use Rattle.report.specs.Pieces.{Word, file_of, goal_text, join, kind_text, offset_text, place_text}

abbrev pub notice_at : Subject → Word → List Part → Notice
notice_at subject kind parts = record { subject = subject; parts = Plain kind ∷ parts }

-- `project: KIND ..` and `refused: KIND ..`
abbrev pub project : Word → List Part → Option Notice
project kind parts = Some (notice_at Project kind parts)

abbrev pub refused : Word → List Part → Option Notice
refused kind parts = Some (notice_at Renaming kind parts)

abbrev pub place_part : List Word → Place → Part
place_part names at = Plain (place_text names at)

-- what was and what would be
abbrev pub change_parts : List Word → Goal → Goal → List Part
change_parts names was would = Was (goal_text names was) ∷ Would (goal_text names would) ∷ []

-- the table of refusals
abbrev pub refusal_notice : List Word → Refusal → Option Notice
refusal_notice names (refusal.Lex file offset) = project (codes "lex") (Plain (offset_text names file offset) ∷ [])
refusal_notice names (refusal.LongName file offset) = project (codes "longname") (Plain (offset_text names file offset) ∷ [])
refusal_notice names (refusal.Form at kind) = project (codes "form") (place_part names at ∷ Plain (kind_text kind) ∷ [])
refusal_notice names (refusal.Deep at) = project (codes "deep") (place_part names at ∷ [])
refusal_notice names (refusal.Syntax file) = project (codes "syntax") (Plain (file_of names file) ∷ [])
refusal_notice names (refusal.Cycle unit) = project (codes "cycle") (Plain unit ∷ [])
refusal_notice names (refusal.Duplicate first again) = project (codes "duplicate") (place_part names first ∷ place_part names again ∷ [])
refusal_notice names (refusal.Heavy at) = project (codes "heavy") (place_part names at ∷ [])
refusal_notice names (refusal.Unmatched item) = project (codes "unmatched") (place_part names item ∷ [])
refusal_notice names refusal.NoTarget = refused (codes "notarget") []
refusal_notice names refusal.Operator = refused (codes "operator") []
refusal_notice names refusal.BadName = refused (codes "badname") []
refusal_notice names refusal.SameName = refused (codes "samename") []
refusal_notice names (refusal.Outside at) = refused (codes "outside") (place_part names at ∷ [])
refusal_notice names (refusal.Pun at) = refused (codes "pun") (place_part names at ∷ [])
refusal_notice names (refusal.Blurred at) = refused (codes "blurred") (place_part names at ∷ [])
refusal_notice names (refusal.Grown file) = refused (codes "grown") (Plain (file_of names file) ∷ [])
refusal_notice names (refusal.Clash first again) = refused (codes "clash") (place_part names first ∷ place_part names again ∷ [])
refusal_notice names (refusal.Capture at was would) = refused (codes "capture") (place_part names at ∷ change_parts names was would)
refusal_notice names (refusal.Mislink item was would) = refused (codes "mislink") (Plain (goal_text names item) ∷ change_parts names was would)
refusal_notice names refusal.Memory = None

-- the table of the refusals of loading
abbrev pub load_notice : LoadError → Option Notice
load_notice load.Read = None
load_notice (load.TooMany count) = project (codes "toomany") (Plain (decimal count) ∷ [])
load_notice (load.TooLarge file) = project (codes "toolarge") (Plain file ∷ [])
load_notice (load.DoubleUnit unit) = project (codes "doubleunit") (Plain unit ∷ [])
load_notice (load.BadManifest line) = project (codes "badmanifest") (Plain (decimal line) ∷ [])
load_notice load.Memory = None

-- ---- the line

abbrev pub subject_text : Subject → Word
subject_text Project = codes "project"
subject_text Renaming = codes "refused"

abbrev pub value_of : Part → Word
value_of (Plain value) = value
value_of (Was value) = value
value_of (Would value) = value

-- the text before a value
abbrev pub mark_of : Part → Word
mark_of (Plain value) = codes " "
mark_of (Was value) = codes " was "
mark_of (Would value) = codes " would "

abbrev pub part_text : Part → Word
part_text part = mark_of part ++ value_of part

-- the line: the subject, a colon, and the kind and the values with the texts before them
abbrev pub notice_line : Notice → Word
notice_line notice = join (subject_text notice.subject ∷ codes ":" ∷ []) ++ flat_map part_text notice.parts
