-- The turns so far are served, and no folder has changed.
use Rattle.std.proofs.Common.{◌≡◌}
use Rattle.lsp_server.specs.Serves.{IsFresh}
use Rattle.lsp_server.proofs.Serving.{MayServe}
use Rattle.lsp_server.proofs.server.serve.Given as goal

abbrev pub invariant-loop : goal.invariant-loop
invariant-loop g l = record {
  kept : g.A.Answers.content l.answers ≡ g.A.Answers.content l.fn.answers;
  fresh : IsFresh l.initial.session;
  serving : MayServe g.A.Answers.replies (g.A.Answers.content l.fn.answers) l.initial.session (g.R.Read.remaining l.fn.input) l.session
      (g.R.Read.remaining l.input) (g.W.Write.contents l.fn.output) (g.W.Write.contents l.output);
}
