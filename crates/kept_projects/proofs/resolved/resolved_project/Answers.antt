use Rattle.ml_trees.specs.View.{view_project}
use Rattle.rename_files.specs.Answer.{Rejects}
use Rattle.rename_project.specs.Steps.{IsRefusedFor}
use Rattle.rename_project.proofs.Refusals.{stopped}
use Rattle.rename_files.proofs.Refusals.{rejects}
use Rattle.kept_projects.proofs.resolved.resolved_project.Goals as goal

pub returns-in_err-resolved-clause-refused : goal.returns-in_err-resolved-clause-refused
returns-in_err-resolved-clause-refused c =
    let files = c.args.files.now in
    let e = c.in_err-resolved.field-0.0 in
    stopped c.from_residual-in_err-resolved.result e (IsRefusedFor (Rejects files)) c.from_residual-in_err-resolved.ensures
    (rejects files (view_project c.in_ok-read.read.project) e c.in_ok-read.ensures.project c.in_err-resolved.ensures.refused)

pub returns-clause-kept : goal.returns-clause-kept
returns-clause-kept c = record {
  accepts = record { reads = c.in_ok-read.ensures.project; none = c.in_ok-resolved.ensures.passed };
  sound = c.in_ok-read.ensures.sound;
  light = c.in_ok-resolved.ensures.light;
  facts = c.in_ok-resolved.ensures.facts;
  top = c.in_ok-resolved.ensures.top;
}
