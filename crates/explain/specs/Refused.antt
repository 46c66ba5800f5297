-- What is said of a refusal (own).
use Rattle.std.specs.Prelude.{◌≡◌, List, Bool, true, false, Option, Some, option_map, slice_get}
use Rattle.rotor_base.specs.Files.{FileSet}
use Rattle.rotor_base.specs.declared.refusal.Refusal.{Refusal}
use Rattle.rotor_base.specs.declared.refusal.Refusal.TheVariants as refusal
use Rattle.rotor_base.specs.declared.target.Target.{Target}
use Rattle.report.specs.Pieces.{Word}
use Rattle.messages.specs.declared.parts.Message.{Message}
use Rattle.refusal_words.specs.Cut.{AreCuts, Cut}
use Rattle.refusal_words.specs.Refused.{renaming_message}
use Rattle.refusal_words.specs.Target.{operator}
use Rattle.refusal_places.specs.Placed.{SaysPlaced}
use Rattle.explain.specs.declared.ending.Ending.TheVariants.{Refused}
use Rattle.explain.specs.declared.explanation.Explanation.{Explanation}
use Rattle.explain.specs.declared.around.Around.{Around}
use Rattle.explain.specs.Around.{IsAround}
use Rattle.explain.specs.Blurs.{blurred_message}
use Rattle.explain.specs.Ending.{ending_of, is_refused}
use Rattle.explain.specs.Sources.{SaysSources}
use Rattle.explain.specs.Targets.{target_message}
use Rattle.explain.specs.Explanation.{explanation_of_message, explanation_of_messages}

-- a source is outside the language
abbrev pub is_unread : Refusal → Bool
is_unread (refusal.Lex file offset) = true
is_unread (refusal.LongName file offset) = true
is_unread (refusal.Form at kind) = true
is_unread (refusal.Deep at) = true
is_unread (refusal.Syntax file) = true
is_unread _ = false

-- there was no memory
abbrev pub is_memory : Refusal → Bool
is_memory refusal.Memory = true
is_memory _ = false

-- of a refusal of a project: the message of each source that is outside the language; else that of the refusal
pub data SaysProject (files : FileSet) (why : Refusal) (explanation : Explanation) : Type 0 where
  unread : (messages : List Message) → is_unread why ≡ true → SaysSources files.entries messages
      → explanation ≡ explanation_of_messages (ending_of why) messages
      → SaysProject files why explanation
  whole : (cuts : List Cut) (said : Option Message) → is_unread why ≡ false → AreCuts files.entries cuts → SaysPlaced cuts why said
      → explanation ≡ explanation_of_message (ending_of why) said → SaysProject files why explanation

-- the message of a refusal of a renaming, by what is known around it
abbrev pub refused_message : List Cut → Around → Target → Word → Refusal → Option Message
refused_message cuts around target name refusal.NoTarget = Some (target_message cuts around.facts.refs around.stop target)
refused_message cuts around target name refusal.Operator = option_map (operator cuts) (slice_get around.decls 0)
refused_message cuts around target name (refusal.Blurred at) = blurred_message cuts around.facts at
refused_message cuts around target name why = renaming_message cuts around.decls name why

-- of a refusal of a footprint, or of a renaming to a name: what is said of the project, or the message of the refusal
pub data SaysRefusal (files : FileSet) (target : Target) (name : Word) (why : Refusal) (explanation : Explanation) : Type 0 where
  project : is_refused (ending_of why) ≡ false → SaysProject files why explanation → SaysRefusal files target name why explanation
  renaming : (cuts : List Cut) (around : Around) → is_refused (ending_of why) ≡ true → AreCuts files.entries cuts → IsAround files target around
      → explanation ≡ explanation_of_message Refused (refused_message cuts around target name why) → SaysRefusal files target name why explanation
