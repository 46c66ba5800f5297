use Rattle.std.proofs.Common.{refl, ◌∙◌}
use Rattle.lsp_server.specs.Does.{one_text}
use Rattle.lsp_server.proofs.Serving.{goes_on, is_done, is_none, start}
use Rattle.lsp_server.proofs.server.serve.Goals as goal

pub loop-init : goal.loop-init
loop-init g c = record {
  kept = refl;
  fresh = record { state = c.new-session.ensures.state; lost = c.new-session.ensures.lost; documents = c.new-session.ensures.documents };
  serving =
      start g.A.Answers.replies (g.A.Answers.content c.args.answers.now) c.new-session.result (g.R.Read.remaining c.args.input.now)
      (g.W.Write.contents c.args.output.now);
}

pub returns-in-Some-clause-served : goal.returns-in-Some-clause-served
returns-in-Some-clause-served g c =
    is_done g.A.Answers.replies (g.A.Answers.content c.args.answers.now) (g.A.Answers.content c.loop.answers) c.new-session.result c.loop.session
    c.take_turn.new.session (g.R.Read.remaining c.args.input.now) (g.R.Read.remaining c.loop.input) (g.R.Read.remaining c.take_turn.new.input)
    (g.W.Write.contents c.args.output.now) (g.W.Write.contents c.loop.output) (g.W.Write.contents c.put_response.new.output)
    (one_text c.in_ok-turn.turn.response) c.in_ok-turn.turn.status c.in-Some.status c.loop.invariant.kept c.in-Some.is c.loop.invariant.fresh
    c.loop.invariant.serving c.in_ok-turn.ensures.turn c.in_ok-put_response.ensures

pub loop-preserved : goal.loop-preserved
loop-preserved g c = record {
  kept = c.take_turn.ensures.kept ∙ c.loop.invariant.kept;
  fresh = c.loop.invariant.fresh;
  serving =
      goes_on g.A.Answers.replies (g.A.Answers.content c.args.answers.now) (g.A.Answers.content c.loop.answers) c.new-session.result c.loop.session
      c.take_turn.new.session (g.R.Read.remaining c.args.input.now) (g.R.Read.remaining c.loop.input) (g.R.Read.remaining c.take_turn.new.input)
      (g.W.Write.contents c.args.output.now) (g.W.Write.contents c.loop.output) (g.W.Write.contents c.put_response.new.output)
      (one_text c.in_ok-turn.turn.response) c.in_ok-turn.turn.status c.loop.invariant.kept
      (is_none c.in_ok-turn.turn.status c.in_default.not-Some)
      c.loop.invariant.serving c.in_ok-turn.ensures.turn c.in_ok-put_response.ensures;
}
