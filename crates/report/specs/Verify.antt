-- The lines of `verify` (own).
use Rattle.std.specs.Prelude.{ℕ, List, [], ◌∷◌, codes}
use Rattle.std.specs.Fmt.{decimal}
use Rattle.rotor_base.specs.declared.place.Place.{Place}
use Rattle.report.specs.declared.notice.Part.TheVariants.{Plain}
use Rattle.report.specs.Pieces.{Word, join, offset_text, placed_name}
use Rattle.report.specs.Notice.{place_part, project, refused}
use Rattle.report.specs.Lines.{number_line}
use Rattle.report.specs.Text.{ended, notice_text}

-- the number of the binders that take other names
abbrev pub verified_line : ℕ → Word
verified_line changes = number_line (codes "verified") changes

-- a binder with its old name and its new one: P OLD NEW
abbrev pub changed_line : List Word → Place → Word → Word → Word
changed_line names at old new = join (placed_name names at old ∷ codes " " ∷ new ∷ [])

-- the first name that one of the lists lacks
abbrev pub other_sources_text : Word → List ℕ
other_sources_text name = ended (join (codes "different sources " ∷ name ∷ []))

-- the first byte that is another
abbrev pub other_byte_text : List Word → ℕ → ℕ → List ℕ
other_byte_text names file offset = ended (join (codes "different " ∷ offset_text names file offset ∷ []))

-- a binder that takes another name, and may not
abbrev pub fixed_text : List Word → Place → List ℕ
fixed_text names at = notice_text (refused (codes "fixed") (place_part names at ∷ []))

-- a list with a bad line: the list, and the number of the line
abbrev pub bad_list_text : Word → ℕ → List ℕ
bad_list_text list number = notice_text (project (codes "badlist") (Plain list ∷ Plain (decimal number) ∷ []))
