-- The replies to renamings (Language Server Protocol 3.17, "WorkspaceEdit"; own).
use Rattle.std.specs.Prelude.{◌≡◌, ℤ, ℕ, List, Bool, true, false, Option, Result, Ok, Err, map}
use Rattle.report.specs.Pieces.{Word}
use Rattle.rotor_base.specs.Files.{FileSet}
use Rattle.rotor_base.specs.declared.place.Place.{Place}
use Rattle.rotor_base.specs.declared.refusal.Refusal.{Refusal}
use Rattle.rotor_base.specs.declared.report.Renamed.{Renamed}
use Rattle.source_edits.specs.declared.text_edit.TextEdit.{TextEdit}
use Rattle.renaming_edits.specs.declared.renaming.FileEdits.{FileEdits}
use Rattle.renaming_edits.specs.Edits.{AreEdits, IsNoText}
use Rattle.rename_files.specs.Answer.{Renames}
use Rattle.editor_renaming.specs.Asked.{name_at, target_of}
use Rattle.lsp_answers.specs.declared.answer.Answer.{Answer}
use Rattle.lsp_answers.specs.declared.answer.Answer.TheVariants as answer
use Rattle.lsp_answers.specs.declared.answer.ErrorCode.TheVariants.{Refused}
use Rattle.lsp_answers.specs.declared.answer.Failure.{Failure}
use Rattle.query_failures.specs.Failure.{IsSaid}
use Rattle.query_failures.specs.Renaming.{IsRenamingFailure}
use Rattle.document_scene.specs.Changes.{document_words, documents_of}
use Rattle.document_scene.specs.Scene.{Telling}
use Rattle.document_answers.specs.Refused.{Fails, Succeeds, no_text_text}

-- the answer has the edits of these documents, with versions if the client takes them
abbrev pub AreChanges : Bool → List (Word × Option ℤ × List TextEdit) → Answer → Type 0
AreChanges true documents (answer.VersionedChanges list) = map document_words list.items ≡ documents
AreChanges false documents (answer.Changes list) = map document_words list.items ≡ documents
AreChanges versions documents other = ⊥

-- Renaming the value of a declaration `d`, as a request in the source of a number asks. The edits of each changed source,
-- applied as the protocol says, make its new bytes. Else the reply is the refusal that the renaming gives; or a source that
-- would change is no text in UTF-8.
pub data RepliesRename (files : FileSet) (told : Telling) (versions : Bool) (asked : ℕ) (d : Place) (new : Word) (reply : Result Answer Failure)
    : Type 0 where
  renamed : (done : Renamed) (list : List FileEdits) → Renames files (target_of files.entries d) new (Ok done)
      → AreEdits told.counting files done list → Succeeds (AreChanges versions (documents_of told asked list)) reply
      → RepliesRename files told versions asked d new reply
  no_text : (done : Renamed) (file : ℕ) → Renames files (target_of files.entries d) new (Ok done) → IsNoText files.entries done.changed file
      → Fails (IsSaid Refused (no_text_text (name_at files.entries file))) reply → RepliesRename files told versions asked d new reply
  refused : (why : Refusal) → Renames files (target_of files.entries d) new (Err why)
      → Fails (IsRenamingFailure files (target_of files.entries d) new why) reply → RepliesRename files told versions asked d new reply
