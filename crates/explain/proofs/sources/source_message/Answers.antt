use Rattle.std.proofs.Common.{None, refl, subst}
use Rattle.std.specs.Prelude.{IfNone}
use Rattle.explain.specs.Sources.{IsNoProject}
use Rattle.explain.proofs.Saying.{source_none}
use Rattle.explain.proofs.sources.source_message.Goals as goal

pub returns-in-None : goal.returns-in-None
returns-in-None c =
    source_none c.args.source.now None (subst (λ f. IfNone f (IsNoProject c.args.source.now)) c.in-None.is c.in_ok-files.ensures.none) refl
