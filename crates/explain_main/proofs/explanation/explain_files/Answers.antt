use Rattle.std.proofs.Common.{◌≡◌, IfSome, Result, inl, subst}
use Rattle.rotor_base.specs.Files.{FileSet}
use Rattle.rotor_base.specs.declared.refusal.LoadError.{LoadError}
use Rattle.project_load.specs.Load.{loaded}
use Rattle.explain_main.proofs.explanation.explain_files.Goals as goal

pub returns-in_ok-explain_over-in-Ok-clause-said : goal.returns-in_ok-explain_over-in-Ok-clause-said
returns-in_ok-explain_over-in-Ok-clause-said g c =
    inl (
      c.in-Ok.files,
      subst (λ (found : Result FileSet LoadError). IfSome (g.T.Tree.content c.args.tree.now) (λ held. loaded held ≡ found)) c.in-Ok.is
          c.in_ok-files.ensures.loads,
      c.in_ok-explain_over-in-Ok.ensures,
    )
