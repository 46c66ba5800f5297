use Rattle.std.proofs.Common.{◌≡◌, ℕ, List, None, Bor, sym, subst}
use Rattle.requests.specs.Asked.{query_words}
use Rattle.requests.specs.Message.{id_words}
use Rattle.requests.specs.Spot.{spot_words}
use Rattle.lsp_session.specs.Task.{task_words}
use Rattle.lsp_session.specs.declared.task.Task.{Task}
use Rattle.lsp_server.specs.declared.task.Turn.{Turn}
use Rattle.lsp_server.specs.Does.{Does, IsAnswered, one_text}
use Rattle.lsp_server.proofs.Taking.{ok_both}
use Rattle.lsp_server.proofs.task.do_task.Goals as goal

pub returns-in-Answer-clause-done : goal.returns-in-Answer-clause-done
returns-in-Answer-clause-done g c =
    let replies = g.A.Answers.replies in let folders = g.A.Answers.content c.args.answers.now in let session = c.args.session.now in
    ok_both c.answer.result
    (λ (turn : Turn). IsAnswered replies folders session (id_words c.in-Answer.id) (spot_words c.in-Answer.spot) (query_words c.in-Answer.query)
    (one_text turn.response))
    (λ (turn : Turn). turn.status ≡ None)
    (λ (turn : Turn). Does replies folders session (task_words c.args.task) (one_text turn.response) turn.status)
    (λ turn response stays.
    subst (λ (t : Task (Bor (List ℕ))). Does replies folders session (task_words t) (one_text turn.response) turn.status) (sym c.in-Answer.is)
    (response, stays))
    c.answer.ensures.response c.answer.ensures.open
