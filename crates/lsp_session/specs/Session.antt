-- A session (own).
use Rattle.std.specs.Prelude.{Bool}
use Rattle.open_documents.specs.declared.workspace.Workspace.{Workspace}
use Rattle.lsp_session.specs.declared.session.Session.{Session}
use Rattle.lsp_session.specs.declared.state.State.{State}

-- how far it is
abbrev pub state_of : Session → State
state_of session = session.state

-- a message could not be read
abbrev pub is_lost : Session → Bool
is_lost session = session.is_lost

-- the documents that the editor holds
abbrev pub held_documents : Session → Workspace
held_documents session = session.workspace
