-- The messages of refusals of a project, with the places that a reading finds (own).
use Rattle.std.specs.Prelude.{◌≡◌, ℕ, List, Option, Some, None, slice_get}
use Rattle.rotor_base.specs.declared.refusal.Refusal.{Refusal}
use Rattle.rotor_base.specs.declared.refusal.Refusal.TheVariants as refusal
use Rattle.messages.specs.declared.parts.Message.{Message}
use Rattle.refusal_words.specs.Cut.{Cut}
use Rattle.refusal_words.specs.Refused.{project_message}
use Rattle.refusal_places.specs.Circle.{SaysCircle}
use Rattle.refusal_places.specs.Unread.{SaysUnread}

-- of a source that is not read, if it is there
abbrev pub SaysSyntax : Option Cut → Option Message → Type 0
SaysSyntax None said = said ≡ None
SaysSyntax (Some cut) said = (message : Message) × (said ≡ Some message) × SaysUnread cut message

-- the source that a refusal says is not read
abbrev pub syntax_file : Refusal → Option ℕ
syntax_file (refusal.Syntax file) = Some file
syntax_file _ = None

-- the unit that a refusal says needs itself through others
abbrev pub cycle_unit : Refusal → Option (List ℕ)
cycle_unit (refusal.Cycle unit) = Some unit
cycle_unit _ = None

abbrev pub SaysWhole : Option (List ℕ) → List Cut → Refusal → Option Message → Type 0
SaysWhole (Some unit) cuts why said = (message : Message) × (said ≡ Some message) × SaysCircle cuts unit message
SaysWhole None cuts why said = said ≡ project_message cuts why

abbrev pub SaysOf : Option ℕ → List Cut → Refusal → Option Message → Type 0
SaysOf (Some file) cuts why said = SaysSyntax (slice_get cuts file) said
SaysOf None cuts why said = SaysWhole (cycle_unit why) cuts why said

-- of a refusal of a project: of a source that is not read, with its places; of a circle of units, with the place of
-- each need; else that of `project_message`
abbrev pub SaysPlaced : List Cut → Refusal → Option Message → Type 0
SaysPlaced cuts why said = SaysOf (syntax_file why) cuts why said
