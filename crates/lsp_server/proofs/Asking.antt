-- A query is answered in a session that is ready.
use Rattle.std.proofs.Common.{◌≡◌, ℕ, List, Bool, true, false, sym, subst}
use Rattle.std.specs.Prelude.{Ok, Err}
use Rattle.requests.specs.declared.asked.Request.TheVariants as asked
use Rattle.requests.specs.declared.message.Message.{Message}
use Rattle.requests.specs.declared.message.Message.TheVariants as message
use Rattle.requests.specs.declared.notice.Notification.TheVariants as notice
use Rattle.lsp_session.specs.Hearing.{lost_task}
use Rattle.lsp_session.specs.State.{state_after}
use Rattle.lsp_session.specs.Task.{task_of}
use Rattle.lsp_session.specs.declared.state.State.{State}
use Rattle.lsp_session.specs.declared.state.State.TheVariants.{New, Ready, Shut}
use Rattle.lsp_session.specs.declared.task.Task.{Task}
use Rattle.lsp_server.specs.Does.{AsksWhenReady}

pub asks_when_ready : (state : State) (lost : Bool) (m : Message (List ℕ)) → AsksWhenReady (state_after state m) (task_of state lost m)
asks_when_ready New lost (message.Request id request) = tt
asks_when_ready (Ready client) true (message.Request id (Ok (asked.Document spot query))) = tt
asks_when_ready (Ready client) false (message.Request id (Ok (asked.Document spot query))) = tt
asks_when_ready (Ready client) lost (message.Request id (Ok (asked.Initialize other))) = tt
asks_when_ready (Ready client) lost (message.Request id (Ok asked.Shutdown)) = tt
asks_when_ready (Ready client) lost (message.Request id (Err error)) = tt
asks_when_ready Shut lost (message.Request id request) = tt
asks_when_ready state lost (message.Notification notice.Exit) = tt
asks_when_ready state lost (message.Notification (notice.Open uri version text)) = tt
asks_when_ready state lost (message.Notification (notice.Change uri version last)) = tt
asks_when_ready state lost (message.Notification (notice.Close uri)) = tt
asks_when_ready state lost (message.Notification notice.Other) = tt
asks_when_ready state lost message.Response = tt
asks_when_ready state lost (message.Invalid id) = tt

pub asks_now : (state now : State) (lost : Bool) (m : Message (List ℕ)) (t : Task (List ℕ)) → now ≡ state_after state m → t ≡ task_of state lost m
    → AsksWhenReady now t
asks_now state now lost m t e f =
    subst (λ (s : State). AsksWhenReady s t) (sym e) (subst (AsksWhenReady (state_after state m)) (sym f) (asks_when_ready state lost m))

pub asks_lost : (state : State) (t : Task (List ℕ)) → t ≡ lost_task → AsksWhenReady state t
asks_lost state t e = subst (AsksWhenReady state) (sym e) tt
