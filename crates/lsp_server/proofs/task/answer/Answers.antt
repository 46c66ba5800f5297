use Rattle.std.proofs.Common.{ℕ, List, [], ◌∷◌, sym, ap, ◌∙◌, subst}
use Rattle.open_documents.specs.declared.workspace.Workspace.{Workspace}
use Rattle.requests.specs.Asked.{query_words}
use Rattle.requests.specs.Spot.{spot_words}
use Rattle.lsp_server.specs.Does.{answered}
use Rattle.lsp_server.proofs.task.answer.Goals as goal

pub returns-in-Ok-answered_text-clause-response : goal.returns-in-Ok-answered_text-clause-response
returns-in-Ok-answered_text-clause-response g c =
    answered c.client_of-client.result c.in-Ok.reply (sym c.state.ensures ∙ c.client_of-client.ensures)
    (subst (λ (w : Workspace). g.A.Answers.replies (g.A.Answers.content c.args.answers.now) c.client_of-client.result w (spot_words c.args.spot)
    (query_words c.args.query) c.in-Ok.reply) c.workspace.ensures c.in-Ok.ensures.reply)
    (c.go_on.ensures.response ∙ ap (λ (t : List ℕ). t ∷ []) c.in-Ok-answered_text.ensures)
