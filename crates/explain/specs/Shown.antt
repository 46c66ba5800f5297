-- What is said of a footprint (own).
use Rattle.std.specs.Prelude.{List, [], ◌∷◌, ◌++◌, Option, Some, None, codes, flat_map, length, map}
use Rattle.report.specs.Pieces.{Word, join}
use Rattle.rotor_base.specs.declared.place.Place.{Place}
use Rattle.rotor_base.specs.declared.report.FootReport.{FootReport}
use Rattle.messages.specs.Printed.{spot_text}
use Rattle.messages.specs.Words.{counted}
use Rattle.messages.specs.declared.parts.Message.{Message}
use Rattle.refusal_words.specs.Cut.{Cut}
use Rattle.refusal_words.specs.Stretches.{place_spot}
use Rattle.value_at.specs.declared.footprint_places.ValuePlace.{ValuePlace}
use Rattle.explain.specs.Lines.{place_line, place_message, place_word}

-- the first line
abbrev pub shown_line : FootReport → Word
shown_line shown =
    join (codes "`" ∷ shown.old ∷ codes "`: " ∷ counted (length shown.foot.decls) (codes "declaration") ∷ codes ", "
    ∷ counted shown.refs (codes "use") ∷ codes "\n" ∷ [])

-- the lines of the places, one for each
abbrev pub place_lines : List Cut → List ValuePlace → Word
place_lines cuts places = flat_map (λ q. place_line cuts (place_word q.is_declaration) q.at) places

-- the messages of the places, for tools
abbrev pub place_messages : List Cut → List ValuePlace → List Message
place_messages cuts places = map (λ q. place_message cuts (place_word q.is_declaration) q.at) places

-- the line of the declaration that is fixed from outside, if there is one
abbrev pub outside_line : List Cut → Option Place → Word
outside_line cuts None = []
outside_line cuts (Some p) =
    join (spot_text (place_spot cuts p) ∷ codes ": note: fixed from outside the folder, so none of these can be renamed\n" ∷ [])

-- the lines of a footprint
abbrev pub shown_text : List Cut → FootReport → List ValuePlace → Word
shown_text cuts shown places = (shown_line shown ++ place_lines cuts places) ++ outside_line cuts shown.foot.outside
