use Rattle.std.proofs.Common.{ℕ, List, Bor, OnOk, sym, subst}
use Rattle.requests.specs.Notice.{notification_words}
use Rattle.requests.specs.declared.notice.Notification.{Notification}
use Rattle.lsp_session.specs.Notes.{Notes}
use Rattle.lsp_session.proofs.notices.take_notice.Goals as goal

pub returns-in-Open-clause-noted : goal.returns-in-Open-clause-noted
returns-in-Open-clause-noted c =
    subst (λ (n : Notification (Bor (List ℕ))). OnOk c.open.result (Notes (notification_words n) c.args.workspace.now c.open.new.workspace))
    (sym c.in-Open.is) c.open.ensures.opened

pub returns-in-Change-clause-noted : goal.returns-in-Change-clause-noted
returns-in-Change-clause-noted c =
    subst (λ (n : Notification (Bor (List ℕ))). OnOk c.change.result (Notes (notification_words n) c.args.workspace.now c.change.new.workspace))
    (sym c.in-Change.is) c.change.ensures.changed
