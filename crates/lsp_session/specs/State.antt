-- How far a session is (Language Server Protocol 3.17, "Lifecycle Messages").
use Rattle.std.specs.Prelude.{ℕ, List, Result, Ok}
use Rattle.requests.specs.declared.asked.Request.{Request}
use Rattle.requests.specs.declared.asked.Request.TheVariants as asked
use Rattle.requests.specs.declared.asked.RequestError.{RequestError}
use Rattle.requests.specs.declared.message.Message.{Message}
use Rattle.requests.specs.declared.message.Message.TheVariants as message
use Rattle.lsp_session.specs.declared.state.State.{State}
use Rattle.lsp_session.specs.declared.state.State.TheVariants.{New, Ready, Shut}

-- the state after a request: `initialize` begins a session, and `shutdown` ends it
abbrev pub state_after_request : State → Result (Request (List ℕ)) RequestError → State
state_after_request New (Ok (asked.Initialize client)) = Ready client
state_after_request (Ready client) (Ok asked.Shutdown) = Shut
state_after_request state request = state

-- the state after a message
abbrev pub state_after : State → Message (List ℕ) → State
state_after state (message.Request id request) = state_after_request state request
state_after state (message.Notification notification) = state
state_after state message.Response = state
state_after state (message.Invalid id) = state
