-- What messages are made of (own).
use Rattle.std.specs.Prelude.{List, [], ◌∷◌, Option, Some, None}
use Rattle.rotor_base.specs.declared.place.Place.{Place}
use Rattle.report.specs.Pieces.{Word, join}
use Rattle.messages.specs.declared.kinds.Kind.{Kind}
use Rattle.messages.specs.declared.parts.Spot.{Spot}
use Rattle.messages.specs.declared.parts.Note.{Note}
use Rattle.messages.specs.declared.parts.Message.{Message}
use Rattle.messages.specs.declared.parts.Severity.TheVariants.{Error}
use Rattle.refusal_words.specs.Cut.{Cut}
use Rattle.refusal_words.specs.Stretches.{place_spot}

-- what is said of another place
abbrev pub note_at : List Cut → Place → Word → Note
note_at cuts p text = record { at = place_spot cuts p; text = text }

-- an error at a stretch of a source
abbrev pub placed : Kind → Word → Spot → List Note → Option Word → Message
placed kind text at notes help =
    record { severity = Error; kind = kind; text = text; at = Some at; notes = notes; help = help }

-- an error without a place
abbrev pub bare : Kind → Word → Option Word → Message
bare kind text help = record { severity = Error; kind = kind; text = text; at = None; notes = []; help = help }

-- a word with a text before it and one behind it
abbrev pub around : Word → Word → Word → Word
around before word behind = join (before ∷ word ∷ behind ∷ [])
