-- What follows from a message (own).
use Rattle.std.specs.Prelude.{◌≡◌, ℕ, List, [], ◌∷◌, true, Option, Some, None}
use Rattle.serde_json.specs.Data.{Data}
use Rattle.open_documents.specs.Workspace.{KeepsFolders}
use Rattle.requests.specs.Json.{Writes}
use Rattle.requests.specs.Message.{message_of}
use Rattle.requests.specs.declared.message.Id.{Id}
use Rattle.requests.specs.declared.message.Message.{Message}
use Rattle.requests.specs.declared.message.Message.TheVariants as message
use Rattle.lsp_session.specs.Hearing.{HearsNotice, lost_task}
use Rattle.lsp_session.specs.Session.{held_documents, is_lost, state_of}
use Rattle.lsp_session.specs.State.{state_after}
use Rattle.lsp_session.specs.Task.{task_of}
use Rattle.lsp_session.specs.declared.session.Session.{Session}
use Rattle.lsp_server.specs.Does.{Does, FolderMap, Replies}
use Rattle.lsp_server.specs.Texts.{starved_text}

-- what a message does to a session
pub record Hears (value : Data) (old new : Session) : Type 0 where
  pub state : state_of new ≡ state_after (state_of old) (message_of value)
  pub documents : HearsNotice (state_of old) (message_of value) (held_documents old) (held_documents new)
  pub lost : is_lost new ≡ is_lost old

-- the texts of a session are lost from here on, and all else is as it was
pub record LosesTexts (old new : Session) : Type 0 where
  pub lost : is_lost new ≡ true
  pub state : state_of new ≡ state_of old
  pub documents : KeepsFolders (held_documents old) (held_documents new)

-- the id of the response that a message is to have, if it is to have one
abbrev pub asked_id : Message (List ℕ) → Option (Option (Id (List ℕ)))
asked_id (message.Request id request) = Some (Some id)
asked_id (message.Notification notification) = None
asked_id message.Response = None
asked_id (message.Invalid id) = Some id

abbrev pub starved_texts : Option (Option (Id (List ℕ))) → List (List ℕ)
starved_texts None = []
starved_texts (Some id) = starved_text id ∷ []

-- What follows from the body of a message: what its task does; if it is no JSON, the response that says so, and the texts are
-- lost. In want of memory the texts are lost too: the body is not read, or the message is not heard.
pub data FollowsFrom (replies : Replies) (folders : FolderMap) (old : Session) (body : List ℕ) (texts : List (List ℕ)) (status : Option ℕ)
    (new : Session) : Type 0 where
  heard : (value : Data) → Writes body value → Hears value old new
      → Does replies folders new (task_of (state_of old) (is_lost old) (message_of value)) texts status
      → FollowsFrom replies folders old body texts status new
  no_json : ((value : Data) → ¬ (Writes body value)) → LosesTexts old new → Does replies folders new lost_task texts status
      → FollowsFrom replies folders old body texts status new
  unread : LosesTexts old new → texts ≡ starved_text None ∷ [] → status ≡ None → FollowsFrom replies folders old body texts status new
  unheard : (value : Data) → Writes body value → LosesTexts old new → texts ≡ starved_texts (asked_id (message_of value)) → status ≡ None
      → FollowsFrom replies folders old body texts status new
