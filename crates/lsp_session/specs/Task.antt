-- What is to be done about a message (Language Server Protocol 3.17, "Base Protocol" and "Lifecycle Messages"; own where
-- an earlier message could not be read).
use Rattle.std.specs.Prelude.{ℕ, List, Bool, true, false, Some, Result, Ok, Err, option_map}
use Rattle.std.specs.Borrow.{Bor}
use Rattle.requests.specs.Asked.{query_words}
use Rattle.requests.specs.Message.{id_words}
use Rattle.requests.specs.Spot.{spot_words}
use Rattle.requests.specs.declared.asked.Query.{Query}
use Rattle.requests.specs.declared.asked.Query.TheVariants.{PrepareRename, Rename, References, Definition, DocumentHighlight}
use Rattle.requests.specs.declared.asked.Request.{Request}
use Rattle.requests.specs.declared.asked.Request.TheVariants as asked
use Rattle.requests.specs.declared.asked.RequestError.{RequestError}
use Rattle.requests.specs.declared.asked.RequestError.TheVariants as error
use Rattle.requests.specs.declared.message.Id.{Id}
use Rattle.requests.specs.declared.message.Message.{Message}
use Rattle.requests.specs.declared.message.Message.TheVariants as message
use Rattle.requests.specs.declared.notice.Notification.{Notification}
use Rattle.requests.specs.declared.notice.Notification.TheVariants as notice
use Rattle.requests.specs.declared.spot.Spot.{Spot}
use Rattle.lsp_session.specs.declared.state.State.{State}
use Rattle.lsp_session.specs.declared.state.State.TheVariants.{New, Ready, Shut}
use Rattle.lsp_session.specs.declared.task.Fault.TheVariants.{Invalid, NotStarted, UnknownMethod, BadParameters, TextsLost}
use Rattle.lsp_session.specs.declared.task.Reply.{Reply}
use Rattle.lsp_session.specs.declared.task.Reply.TheVariants.{Started, Null, Failed}
use Rattle.lsp_session.specs.declared.task.Task.{Task}
use Rattle.lsp_session.specs.declared.task.Task.TheVariants.{Silence, Respond, Answer, Exit}

-- before `initialize`, that request alone is answered
abbrev pub reply_before : Result (Request (List ℕ)) RequestError → Reply
reply_before (Ok (asked.Initialize client)) = Started client
reply_before (Ok asked.Shutdown) = Failed NotStarted
reply_before (Ok (asked.Document spot query)) = Failed NotStarted
reply_before (Err error.UnknownMethod) = Failed NotStarted
reply_before (Err error.BadClient) = Failed BadParameters
reply_before (Err error.BadParameters) = Failed NotStarted

-- after it, a request that asks nothing at a place
abbrev pub reply_when_ready : Result (Request (List ℕ)) RequestError → Reply
reply_when_ready (Ok (asked.Initialize client)) = Failed Invalid
reply_when_ready (Ok asked.Shutdown) = Null
reply_when_ready (Ok (asked.Document spot query)) = Failed Invalid
reply_when_ready (Err error.UnknownMethod) = Failed UnknownMethod
reply_when_ready (Err error.BadClient) = Failed Invalid
reply_when_ready (Err error.BadParameters) = Failed BadParameters

-- the answer to a query if the texts are lost
abbrev pub lost_reply : Query (List ℕ) → Reply
lost_reply PrepareRename = Failed TextsLost
lost_reply (Rename name) = Failed TextsLost
lost_reply (References with_declarations) = Failed TextsLost
lost_reply Definition = Failed TextsLost
lost_reply DocumentHighlight = Null

abbrev pub document_task : Bool → Id (List ℕ) → Spot (List ℕ) → Query (List ℕ) → Task (List ℕ)
document_task true id spot query = Respond (Some id) (lost_reply query)
document_task false id spot query = Answer id spot query

abbrev pub request_task : State → Bool → Id (List ℕ) → Result (Request (List ℕ)) RequestError → Task (List ℕ)
request_task New lost id request = Respond (Some id) (reply_before request)
request_task (Ready client) lost id (Ok (asked.Document spot query)) = document_task lost id spot query
request_task (Ready client) lost id (Ok (asked.Initialize other)) = Respond (Some id) (reply_when_ready (Ok (asked.Initialize other)))
request_task (Ready client) lost id (Ok asked.Shutdown) = Respond (Some id) (reply_when_ready (Ok asked.Shutdown))
request_task (Ready client) lost id (Err error) = Respond (Some id) (reply_when_ready (Err error))
request_task Shut lost id request = Respond (Some id) (Failed Invalid)

-- the status of the process: 0 after `shutdown`
abbrev pub exit_status : State → ℕ
exit_status New = 1
exit_status (Ready client) = 1
exit_status Shut = 0

abbrev pub notification_task : State → Notification (List ℕ) → Task (List ℕ)
notification_task state notice.Exit = Exit (exit_status state)
notification_task state (notice.Open uri version text) = Silence
notification_task state (notice.Change uri version last) = Silence
notification_task state (notice.Close uri) = Silence
notification_task state notice.Other = Silence

-- what is to be done about a message
abbrev pub task_of : State → Bool → Message (List ℕ) → Task (List ℕ)
task_of state lost (message.Request id request) = request_task state lost id request
task_of state lost (message.Notification notification) = notification_task state notification
task_of state lost message.Response = Silence
task_of state lost (message.Invalid id) = Respond id (Failed Invalid)

-- the same task, with the bytes of what is borrowed
abbrev pub task_words : Task (Bor (List ℕ)) → Task (List ℕ)
task_words Silence = Silence
task_words (Respond id reply) = Respond (option_map id_words id) reply
task_words (Answer id spot query) = Answer (id_words id) (spot_words spot) (query_words query)
task_words (Exit status) = Exit status
