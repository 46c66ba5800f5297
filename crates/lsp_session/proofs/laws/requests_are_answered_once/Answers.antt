use Rattle.std.proofs.Common.{◌≡◌, ℕ, List, Bool, true, false, Some, Result, Ok, Err, refl}
use Rattle.requests.specs.declared.asked.Request.{Request}
use Rattle.requests.specs.declared.asked.Request.TheVariants as asked
use Rattle.requests.specs.declared.asked.RequestError.{RequestError}
use Rattle.requests.specs.declared.message.Id.{Id}
use Rattle.lsp_session.specs.declared.state.State.{State}
use Rattle.lsp_session.specs.declared.state.State.TheVariants.{New, Ready, Shut}
use Rattle.lsp_session.specs.Laws.{responses}
use Rattle.lsp_session.specs.Task.{request_task}
use Rattle.lsp_session.proofs.laws.requests_are_answered_once.Goals as goal

answered : (state : State) (lost : Bool) (id : Id (List ℕ)) (request : Result (Request (List ℕ)) RequestError)
    → responses (request_task state lost id request) ≡ Some (Some id)
answered New lost id request = refl
answered (Ready client) true id (Ok (asked.Document spot query)) = refl
answered (Ready client) false id (Ok (asked.Document spot query)) = refl
answered (Ready client) lost id (Ok (asked.Initialize other)) = refl
answered (Ready client) lost id (Ok asked.Shutdown) = refl
answered (Ready client) lost id (Err error) = refl
answered Shut lost id request = refl

pub returns : goal.returns
returns c = answered
