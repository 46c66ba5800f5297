use Rattle.std.proofs.Common.{inr, refl, Err}
use Rattle.rotor_base.specs.declared.refusal.Refusal.TheVariants as refusal
use Rattle.ml_trees.specs.View.{view_project}
use Rattle.rename_files.specs.Answer.{Renames}
use Rattle.rename_project.specs.Steps.{IsRefusedFor}
use Rattle.rename_project.proofs.Refusals.{stopped}
use Rattle.rename_files.proofs.Refusals.{rejects}
use Rattle.rename_files.proofs.Renaming.{not_renamed}
use Rattle.rename_files.proofs.calls.rename_read.Goals as goal

pub returns-in_err-resolved-clause-refused : goal.returns-in_err-resolved-clause-refused
returns-in_err-resolved-clause-refused c =
    let files = c.args.files.now in
    let e = c.in_err-resolved.field-0.0 in
    stopped c.from_residual-in_err-resolved.result e (IsRefusedFor (λ why. Renames files c.args.target.now c.args.name.now (Err why)))
    c.from_residual-in_err-resolved.ensures
    (not_renamed files c.args.target.now c.args.name.now e
    (rejects files (view_project c.args.read.now.project) e c.requires.reads c.in_err-resolved.ensures.refused))

pub returns-in_err-placed-clause-refused : goal.returns-in_err-placed-clause-refused
returns-in_err-placed-clause-refused c =
    stopped c.from_residual.result refusal.Memory
    (IsRefusedFor (λ why. Renames c.args.files.now c.args.target.now c.args.name.now (Err why))) c.from_residual.ensures (inr refl)
