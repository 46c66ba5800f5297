-- Which notifications are heard (Language Server Protocol 3.17, "Lifecycle Messages").
use Rattle.std.specs.Prelude.{ℕ, List, None}
use Rattle.open_documents.specs.Workspace.{KeepsFolders}
use Rattle.open_documents.specs.declared.workspace.Workspace.{Workspace}
use Rattle.requests.specs.declared.message.Message.{Message}
use Rattle.requests.specs.declared.message.Message.TheVariants as message
use Rattle.requests.specs.declared.notice.Notification.{Notification}
use Rattle.lsp_session.specs.declared.state.State.{State}
use Rattle.lsp_session.specs.declared.state.State.TheVariants.{New, Ready, Shut}
use Rattle.lsp_session.specs.declared.task.Fault.TheVariants.{NotJson}
use Rattle.lsp_session.specs.declared.task.Reply.TheVariants.{Failed}
use Rattle.lsp_session.specs.declared.task.Task.{Task}
use Rattle.lsp_session.specs.declared.task.Task.TheVariants.{Respond}
use Rattle.lsp_session.specs.Notes.{Notes}

-- a notification is heard after `initialize` and before `shutdown`
abbrev pub HearsIn : State → Notification (List ℕ) → Workspace → Workspace → Type 0
HearsIn New notification old new = KeepsFolders old new
HearsIn (Ready client) notification old new = Notes notification old new
HearsIn Shut notification old new = KeepsFolders old new

-- what a message does to the documents
abbrev pub HearsNotice : State → Message (List ℕ) → Workspace → Workspace → Type 0
HearsNotice state (message.Request id request) old new = KeepsFolders old new
HearsNotice state (message.Notification notification) old new = HearsIn state notification old new
HearsNotice state message.Response old new = KeepsFolders old new
HearsNotice state (message.Invalid id) old new = KeepsFolders old new

-- what is to be done about a message that is no JSON
abbrev pub lost_task : Task (List ℕ)
lost_task = Respond None (Failed NotJson)
