-- The sentences of places at which OCaml may read a folder otherwise (own).
use Rattle.std.specs.Prelude.{ℕ, List, [], ◌∷◌, Option, Some, None, codes}
use Rattle.rotor_base.specs.declared.place.Place.{Place}
use Rattle.report.specs.Pieces.{Word, join}
use Rattle.messages.specs.declared.kinds.Kind.{Kind}
use Rattle.messages.specs.declared.kinds.Kind.TheVariants as kind
use Rattle.messages.specs.Printed.{spot_text}
use Rattle.messages.specs.declared.parts.Message.{Message}
use Rattle.messages.specs.declared.parts.Note.{Note}
use Rattle.messages.specs.declared.parts.Severity.TheVariants.{Warning}
use Rattle.messages.specs.declared.parts.Spot.{Spot}
use Rattle.reading_differences.specs.declared.difference.Difference.{Difference}
use Rattle.reading_differences.specs.declared.difference.Indexed.{Indexed}
use Rattle.reading_differences.specs.declared.difference.Indexed.TheVariants as form
use Rattle.reading_differences.specs.declared.difference.Parting.{Parting}
use Rattle.reading_differences.specs.declared.difference.Parting.TheVariants as how
use Rattle.reading_differences.specs.Indexed.{module_of}
use Rattle.refusal_words.specs.Cut.{Cut}
use Rattle.refusal_words.specs.Stretches.{byte_spot, place_spot}

-- a warning at a stretch of a source
abbrev pub warned : Kind → Word → Spot → Option Word → Message
warned kind text at help = record { severity = Warning; kind = kind; text = text; at = Some at; notes = []; help = help }

-- as it is written
abbrev pub form_of : Indexed → Word
form_of form.Array = codes "a.(i)"
form_of form.String = codes "s.[i]"

-- the sentence of a form and its module
abbrev pub index_text : Word → Word → Word
index_text form module_name =
    join (codes "in OCaml `" ∷ form ∷ codes "` means `" ∷ module_name ∷ codes ".get` or `.set` of the module in scope, here the folder's `"
    ∷ module_name ∷ codes "`; rotor sees no use there" ∷ [])

abbrev pub index_help : Word → Word
index_help module_name = join (codes "do not rename `get` or `set` of that `" ∷ module_name ∷ codes "`" ∷ [])

abbrev pub indexed : List Cut → Place → Indexed → Message
indexed cuts at f =
    warned kind.Indexing (index_text (form_of f) (module_of f)) (place_spot cuts at) (Some (index_help (module_of f)))

-- on the place of an opening
abbrev pub opened_note : List Cut → Place → Note
opened_note cuts by = record { at = place_spot cuts by; text = codes "opened here, from outside the folder" }

abbrev pub opened_text : Word → Word → Word
opened_text by name =
    join (codes "if the module opened at " ∷ by ∷ codes " has a module `" ∷ name ∷ codes "` of its own, OCaml means that one" ∷ [])

abbrev pub opened : List Cut → Place → Word → Place → Message
opened cuts at name by = record {
  severity = Warning;
  kind = kind.Opened;
  text = opened_text (spot_text (place_spot cuts by)) name;
  at = Some (place_spot cuts at);
  notes = opened_note cuts by ∷ [];
  help = None;
}

abbrev pub applied : List Cut → Place → Word → Message
applied cuts at argument =
    warned kind.Types
    (join (codes "a functor is applied in a type; OCaml matches `" ∷ argument ∷ codes "` with its parameter, rotor does not" ∷ []))
    (place_spot cuts at) (Some (join (codes "after a renaming in `" ∷ argument ∷ codes "`, compile the folder" ∷ [])))

abbrev pub commented : List Cut → Place → ℕ → Message
commented cuts at offset =
    warned kind.Comment
    (join (codes "OCaml reads the name before this quote with it; rotor reads a character here, so the two may end this comment"
    ∷ codes " at different places" ∷ []))
    (byte_spot cuts at.file offset) None

abbrev pub late : List Cut → Place → Word → Word → Message
late cuts at unit needed =
    warned kind.Order
    (join (codes "rotor.units puts `" ∷ needed ∷ codes "` after `" ∷ unit ∷ codes "`, so this `" ∷ needed
    ∷ codes "` is outside the folder here; no linker takes that order" ∷ []))
    (place_spot cuts at) None

abbrev pub standard : List Cut → Place → Message
standard cuts at =
    warned kind.Opened
    (codes "OCaml opens this unit first in every other unit, and rotor does not; a name there may mean one of its values or modules")
    (place_spot cuts at) (Some (codes "give this unit another name, and open it in each unit that uses it"))

abbrev pub warning_how : List Cut → Place → Parting → Message
warning_how cuts at (how.Indexing f) = indexed cuts at f
warning_how cuts at (how.Opened name by) = opened cuts at name by
warning_how cuts at (how.Types argument) = applied cuts at argument
warning_how cuts at (how.Comment offset) = commented cuts at offset
warning_how cuts at (how.Order unit needed) = late cuts at unit needed
warning_how cuts at how.Standard = standard cuts at

abbrev pub warning_of : List Cut → Difference → Message
warning_of cuts d = warning_how cuts d.at d.how
