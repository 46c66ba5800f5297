-- Messages in one line (own).
use Rattle.std.specs.Prelude.{[], ◌∷◌, Option, Some, None, codes}
use Rattle.report.specs.Pieces.{Word, join}
use Rattle.messages.specs.declared.parts.Message.{Message}
use Rattle.messages.specs.declared.parts.Spot.{Spot}
use Rattle.messages.specs.Kind.{kind_text}
use Rattle.messages.specs.Printed.{spot_text}

-- a text, its kind in brackets, and before both the place, if there is one
abbrev pub sentence_at : Option Spot → Word → Word → Word
sentence_at None text kind = join (text ∷ codes " [" ∷ kind ∷ codes "]" ∷ [])
sentence_at (Some spot) text kind = join (spot_text spot ∷ codes ": " ∷ text ∷ codes " [" ∷ kind ∷ codes "]" ∷ [])

-- a message in one line, without its notes and its help
abbrev pub message_sentence : Message → Word
message_sentence m = sentence_at m.at m.text (kind_text m.kind)
