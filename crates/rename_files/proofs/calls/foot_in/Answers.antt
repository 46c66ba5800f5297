use Rattle.std.proofs.Common.{inr, refl, Err}
use Rattle.rotor_base.specs.declared.refusal.Refusal.TheVariants as refusal
use Rattle.rename_files.specs.Answer.{Shows}
use Rattle.rename_project.specs.Steps.{IsRefusedFor}
use Rattle.rename_project.proofs.Refusals.{stopped}
use Rattle.rename_files.proofs.calls.foot_in.Goals as goal

pub returns-in_err-placed-clause-refused : goal.returns-in_err-placed-clause-refused
returns-in_err-placed-clause-refused c =
    stopped c.from_residual.result refusal.Memory (IsRefusedFor (λ why. Shows c.args.files.now c.args.target.now (Err why)))
    c.from_residual.ensures (inr refl)
