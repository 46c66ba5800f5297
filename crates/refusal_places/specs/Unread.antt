-- The message of a source that is not read (own).
use Rattle.std.specs.Prelude.{◌≡◌, ◌≤◌, ℕ, ◌-◌, ◌==◌, List, [], ◌∷◌, Bool, true, false, Option, Some, None, codes, length, slice_get, if◌then◌else◌}
use Rattle.report.specs.Pieces.{Word, join}
use Rattle.ml_lexer.specs.Lexed.{Lexeme}
use Rattle.messages.specs.Spot.{spot_of}
use Rattle.messages.specs.declared.kinds.Kind.TheVariants as kind
use Rattle.messages.specs.declared.parts.Message.{Message}
use Rattle.messages.specs.declared.parts.Note.{Note}
use Rattle.messages.specs.declared.parts.Spot.{Spot}
use Rattle.project_reading.specs.Source.{kind_of_source}
use Rattle.refusal_words.specs.Cut.{Cut}
use Rattle.refusal_words.specs.Parts.{placed}
use Rattle.refusal_places.specs.Forms.{form_near}
use Rattle.refusal_places.specs.Front.{front_of}

-- the stretch of a lexeme of a source, or of the end of the source
abbrev pub whole_spot : Cut → Option Lexeme → Spot
whole_spot cut (Some x) = spot_of cut.name cut.bytes x.start x.end
whole_spot cut None = spot_of cut.name cut.bytes (length cut.bytes) (length cut.bytes)

-- of the lexeme at a place, from 0
abbrev pub lexeme_spot : Cut → ℕ → Spot
lexeme_spot cut at = whole_spot cut (slice_get cut.lexemes at)

-- the place that a message is about: of a file that ends inside an item the last lexeme, else where the reading stops
abbrev pub told_at : Cut → ℕ → Bool → ℕ
told_at cut stop true = length cut.lexemes - 1
told_at cut stop false = stop

abbrev pub sentence : Bool → Word
sentence true = codes "the file ends inside an item"
sentence false = codes "this is no OCaml, or OCaml that rotor does not read; the reading stops at or just before this place"

-- a note on the place where the item begins, if it is another one
abbrev pub item_start_notes : Cut → ℕ → ℕ → List Note
item_start_notes cut front at =
    if front == at then [] else record { at = lexeme_spot cut front; text = codes "in the item that begins here" } ∷ []

abbrev pub advice : Option Word → Word
advice (Some form) = join (form ∷ codes " is not read" ∷ [])
advice None = codes "if OCaml accepts this file, it uses a form that rotor does not read (USING, `syntax`)"

-- of a source whose item at the front is not read: the reading stops there, and the file may end inside the item
abbrev pub unread_at : Cut → ℕ → ℕ → Bool → Message
unread_at cut front stop ends =
    placed kind.Syntax (sentence ends) (lexeme_spot cut (told_at cut stop ends)) (item_start_notes cut front (told_at cut stop ends))
    (Some (advice (form_near cut.lexemes front stop)))

-- The message of a source that is not read. The item begins at the front, and the reading stops at one of the lexemes
-- from there on, or at the end. Which one, and whether the file ends inside the item, no clause says.
pub record SaysUnread (cut : Cut) (message : Message) : Type 0 where
  pub stop : ℕ
  pub ends : Bool
  pub behind_front : front_of (kind_of_source cut.name) cut.lexemes ≤ stop
  pub within : stop ≤ length cut.lexemes
  pub says : message ≡ unread_at cut (front_of (kind_of_source cut.name) cut.lexemes) stop ends
