-- What follows from a task (own).
use Rattle.std.specs.Prelude.{◌≡◌, ◌⊎◌, ℕ, List, [], ◌∷◌, Option, Some, None, Result, Vec, ⊤}
use Rattle.std.specs.declared.alloc.Global.{Global}
use Rattle.tree_io.specs.Outside.{FileMap}
use Rattle.open_documents.specs.declared.workspace.Workspace.{Workspace}
use Rattle.requests.specs.declared.asked.Query.{Query}
use Rattle.requests.specs.declared.client.Client.{Client}
use Rattle.requests.specs.declared.message.Id.{Id}
use Rattle.requests.specs.declared.spot.Spot.{Spot}
use Rattle.lsp_answers.specs.declared.answer.Answer.{Answer}
use Rattle.lsp_answers.specs.declared.answer.Failure.{Failure}
use Rattle.lsp_session.specs.Session.{held_documents, state_of}
use Rattle.lsp_session.specs.declared.session.Session.{Session}
use Rattle.lsp_session.specs.declared.state.State.{State}
use Rattle.lsp_session.specs.declared.state.State.TheVariants.{New, Ready, Shut}
use Rattle.lsp_session.specs.declared.task.Task.{Task}
use Rattle.lsp_session.specs.declared.task.Task.TheVariants as task
use Rattle.lsp_server.specs.Texts.{answered_text, said_text, starved_text}

-- the folders, each by its path
abbrev pub FolderMap : Type 0
FolderMap = List ℕ → Option FileMap

-- the replies to a query
abbrev pub Replies : Type 1
Replies = FolderMap → Client → Workspace → Spot (List ℕ) → Query (List ℕ) → Result Answer Failure → Type 0

-- the texts of the response that there may be
abbrev pub one_text : Option (Vec ℕ Global) → List (List ℕ)
one_text None = []
one_text (Some text) = text.items ∷ []

-- one response with this id: this text, or in want of memory the failure that says so
abbrev pub IsResponse : Option (Id (List ℕ)) → List ℕ → List (List ℕ) → Type 0
IsResponse id text texts = (texts ≡ text ∷ []) ⊎ (texts ≡ starved_text id ∷ [])

-- One response with this id: a reply to the query, for the client of the session and under the documents that it holds; or in
-- want of memory the failure that says so.
pub data IsAnswered (replies : Replies) (folders : FolderMap) (session : Session) (id : Id (List ℕ)) (spot : Spot (List ℕ)) (query : Query (List ℕ))
    (texts : List (List ℕ)) : Type 0 where
  answered : (client : Client) (reply : Result Answer Failure) → state_of session ≡ Ready client
      → replies folders client (held_documents session) spot query reply → texts ≡ answered_text (Some id) reply ∷ []
      → IsAnswered replies folders session id spot query texts
  starved : texts ≡ starved_text (Some id) ∷ [] → IsAnswered replies folders session id spot query texts

-- what follows from a task: the responses, and the status with which the process ends, if it does
abbrev pub Does : Replies → FolderMap → Session → Task (List ℕ) → List (List ℕ) → Option ℕ → Type 0
Does replies folders session task.Silence texts status = (texts ≡ []) × (status ≡ None)
Does replies folders session (task.Respond id reply) texts status = IsResponse id (said_text id reply) texts × (status ≡ None)
Does replies folders session (task.Answer id spot query) texts status =
    IsAnswered replies folders session id spot query texts × (status ≡ None)
Does replies folders session (task.Exit code) texts status = (texts ≡ []) × (status ≡ Some code)

-- `initialize` was answered, and `shutdown` was not
abbrev pub IsReady : State → Type 0
IsReady New = ⊥
IsReady (Ready client) = ⊤
IsReady Shut = ⊥

-- a query is answered in a session that is ready
abbrev pub AsksWhenReady : State → Task (List ℕ) → Type 0
AsksWhenReady state task.Silence = ⊤
AsksWhenReady state (task.Respond id reply) = ⊤
AsksWhenReady state (task.Answer id spot query) = IsReady state
AsksWhenReady state (task.Exit status) = ⊤
