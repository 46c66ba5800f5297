-- Places as lines and as messages (own).
use Rattle.std.specs.Prelude.{List, [], ◌∷◌, Bool, Some, None, codes, cond}
use Rattle.report.specs.Pieces.{Word, join}
use Rattle.rotor_base.specs.declared.place.Place.{Place}
use Rattle.messages.specs.declared.kinds.Kind.TheVariants as kind
use Rattle.messages.specs.declared.parts.Message.{Message}
use Rattle.messages.specs.declared.parts.Severity.TheVariants.{Info}
use Rattle.messages.specs.Printed.{spot_text}
use Rattle.refusal_words.specs.Cut.{Cut}
use Rattle.refusal_words.specs.Stretches.{place_spot}

-- what a place is in a footprint
abbrev pub place_word : Bool → Word
place_word is_declaration = cond is_declaration (codes "declaration") (codes "use")

-- FILE:LINE:COLUMN: WORD
abbrev pub place_line : List Cut → Word → Place → Word
place_line cuts word p = join (spot_text (place_spot cuts p) ∷ codes ": " ∷ word ∷ codes "\n" ∷ [])

abbrev pub place_message : List Cut → Word → Place → Message
place_message cuts word p =
    record { severity = Info; kind = kind.Place; text = word; at = Some (place_spot cuts p); notes = []; help = None }
