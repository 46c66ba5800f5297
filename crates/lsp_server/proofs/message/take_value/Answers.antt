use Rattle.std.proofs.Common.{◌≡◌, ℕ, List, None, ap, ◌∙◌}
use Rattle.serde_json.specs.View.{view}
use Rattle.requests.specs.Message.{message_of, message_words}
use Rattle.requests.specs.declared.message.Message.{Message}
use Rattle.lsp_session.specs.Session.{is_lost, state_of}
use Rattle.lsp_session.specs.Task.{task_words}
use Rattle.lsp_server.specs.declared.task.Turn.{Turn}
use Rattle.lsp_server.specs.Does.{Does, one_text}
use Rattle.lsp_server.specs.Follows.{FollowsFrom, asked_id, starved_texts, unheard}
use Rattle.lsp_server.proofs.Asking.{asks_now}
use Rattle.lsp_server.proofs.Taking.{follows_heard, loses, ok_both, ok_one}
use Rattle.lsp_server.proofs.message.take_value.Goals as goal

pub do_task-requires : goal.do_task-requires
do_task-requires g c =
    asks_now (state_of c.args.session.now) (state_of c.take.new.self) (is_lost c.args.session.now) (message_of (view c.args.value.now))
    (task_words c.in-Ok.task) c.in-Ok.ensures.state c.in-Ok.ensures.task

pub returns-in-Ok-clause-follows : goal.returns-in-Ok-clause-follows
returns-in-Ok-clause-follows g c =
    let replies = g.A.Answers.replies in let folders = g.A.Answers.content c.args.answers.now in let session = c.take.new.self in
    ok_one c.do_task.result
    (λ (turn : Turn). Does replies folders session (task_words c.in-Ok.task) (one_text turn.response) turn.status)
    (λ (turn : Turn). FollowsFrom replies folders c.args.session.now c.args.body.now (one_text turn.response) turn.status session)
    (λ turn does.
    follows_heard replies folders c.args.session.now session c.args.body.now (view c.args.value.now) (one_text turn.response) turn.status
    (task_words c.in-Ok.task) c.requires c.in-Ok.ensures.state c.in-Ok.ensures.documents c.in-Ok.ensures.lost c.in-Ok.ensures.task does)
    c.do_task.ensures.done

pub returns-in-Err-clause-follows : goal.returns-in-Err-clause-follows
returns-in-Err-clause-follows g c =
    let replies = g.A.Answers.replies in let folders = g.A.Answers.content c.args.answers.now in let session = c.lose-task.new.self in
    ok_both c.starve_message.result
    (λ (turn : Turn). one_text turn.response ≡ starved_texts (asked_id (message_words c.message_of.result)))
    (λ (turn : Turn). turn.status ≡ None)
    (λ (turn : Turn). FollowsFrom replies folders c.args.session.now c.args.body.now (one_text turn.response) turn.status session)
    (λ turn response stays.
    unheard (view c.args.value.now) c.requires
    (loses c.args.session.now c.take.new.self session c.in-Err.ensures.kept c.in-Err.ensures.stays c.lose-task.ensures.lost
    c.lose-task.ensures.state c.lose-task.ensures.documents)
    (response ∙ ap (λ (m : Message (List ℕ)). starved_texts (asked_id m)) c.message_of.ensures) stays)
    c.starve_message.ensures.response c.starve_message.ensures.open
