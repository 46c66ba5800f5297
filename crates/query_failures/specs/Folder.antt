-- The failures of folders that are refused (own).
use Rattle.std.specs.Prelude.{List, [], Option, None, Some, codes}
use Rattle.rotor_base.specs.Files.{FileSet, names_of}
use Rattle.rotor_base.specs.declared.refusal.LoadError.{LoadError}
use Rattle.rotor_base.specs.declared.refusal.Refusal.{Refusal}
use Rattle.rotor_base.specs.declared.report.Outcome.TheVariants as outcome
use Rattle.report.specs.Json.{data_of}
use Rattle.report.specs.Pieces.{Word}
use Rattle.messages.specs.declared.parts.Message.{Message}
use Rattle.refusal_words.specs.Cut.{AreCuts, Cut}
use Rattle.refusal_places.specs.Placed.{SaysPlaced}
use Rattle.lsp_answers.specs.declared.answer.Failure.{Failure}
use Rattle.query_failures.specs.Failure.{IsNoted}
use Rattle.query_failures.specs.Sentence.{message_sentence}

-- the sentence of a message, if there is one
abbrev pub folder_sentence : Option Message → Word
folder_sentence None = codes "the folder of this file is refused"
folder_sentence (Some message) = message_sentence message

-- a folder is no project, as a message says to a person
abbrev pub IsFolderFailure : LoadError → Option Message → Failure → Type 0
IsFolderFailure why message failure = IsNoted (folder_sentence message) (data_of [] (outcome.NotLoaded why)) failure

-- files are refused as a project: the message of the refusal, with the places that a reading finds, and the object that its
-- report has in JSON
pub record IsProjectFailure (files : FileSet) (why : Refusal) (failure : Failure) : Type 0 where
  pub cuts : List Cut
  pub message : Option Message
  pub cut : AreCuts files.entries cuts
  pub says : SaysPlaced cuts why message
  pub noted : IsNoted (folder_sentence message) (data_of (names_of files.entries) (outcome.Refused why)) failure
