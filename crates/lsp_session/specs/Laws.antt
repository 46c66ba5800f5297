-- The laws of a session (own).
use Rattle.std.specs.Prelude.{◌≡◌, ℕ, List, Bool, Option, Some, None, Result}
use Rattle.requests.specs.declared.asked.Request.{Request}
use Rattle.requests.specs.declared.asked.RequestError.{RequestError}
use Rattle.requests.specs.declared.message.Id.{Id}
use Rattle.requests.specs.declared.message.Message.TheVariants as message
use Rattle.requests.specs.declared.notice.Notification.{Notification}
use Rattle.lsp_session.specs.declared.state.State.{State}
use Rattle.lsp_session.specs.declared.task.Task.{Task}
use Rattle.lsp_session.specs.declared.task.Task.TheVariants.{Silence, Respond, Answer, Exit}
use Rattle.lsp_session.specs.Task.{task_of}

-- the ids of the responses of a task
abbrev pub responses : Task (List ℕ) → Option (Option (Id (List ℕ)))
responses Silence = None
responses (Respond id reply) = Some id
responses (Answer id spot query) = Some (Some id)
responses (Exit status) = None

-- each request has one response, with its id
abbrev pub RequestsAreAnswered : Type 0
RequestsAreAnswered =
    (state : State) (lost : Bool) (id : Id (List ℕ)) (request : Result (Request (List ℕ)) RequestError)
    → responses (task_of state lost (message.Request id request)) ≡ Some (Some id)

-- a notification and a response have none
abbrev pub NotificationsAreNot : Type 0
NotificationsAreNot =
    (state : State) (lost : Bool) (notification : Notification (List ℕ))
    → (responses (task_of state lost (message.Notification notification)) ≡ None) × (responses (task_of state lost message.Response) ≡ None)
