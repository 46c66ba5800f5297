use Rattle.std.proofs.Common.{◌∙◌, ap}
use Rattle.shape_core.specs.Shape.{Entries}
use Rattle.explain.specs.PathStop.{target_stop}
use Rattle.explain.proofs.around.look_among.Goals as goal

pub returns : goal.returns
returns c = record {
  reads = c.requires.reads;
  light = c.requires.light;
  facts = c.requires.facts;
  decls = c.in_ok-decls.ensures;
  stop = c.target_stop-stop.ensures ∙ ap (λ (es : Entries). target_stop es c.args.target.now) c.requires.top;
}
