use Rattle.std.proofs.Common.{◌≡◌, ℕ, List, None, refl}
use Rattle.requests.specs.declared.notice.Notification.{Notification}
use Rattle.requests.specs.declared.notice.Notification.TheVariants as notice
use Rattle.lsp_session.specs.declared.state.State.{State}
use Rattle.lsp_session.specs.Laws.{responses}
use Rattle.lsp_session.specs.Task.{notification_task}
use Rattle.lsp_session.proofs.laws.notifications_are_not_answered.Goals as goal

silent : (state : State) (notification : Notification (List ℕ)) → responses (notification_task state notification) ≡ None
silent state notice.Exit = refl
silent state (notice.Open uri version text) = refl
silent state (notice.Change uri version last) = refl
silent state (notice.Close uri) = refl
silent state notice.Other = refl

pub returns : goal.returns
returns c = λ state lost notification. (silent state notification, refl)
