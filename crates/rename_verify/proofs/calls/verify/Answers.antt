use Rattle.std.proofs.Common.{inl, inr, refl, subst, Err}
use Rattle.rotor_base.specs.declared.refusal.Refusal.TheVariants as refusal
use Rattle.ml_trees.specs.View.{view_project}
use Rattle.rename_files.specs.Answer.{Accepts}
use Rattle.rename_files.proofs.Refusals.{rejects}
use Rattle.rename_project.proofs.Refusals.{stopped}
use Rattle.rename_project.specs.Steps.{IsRefusedFor}
use Rattle.rename_verify.specs.Scans.{IsOtherSource}
use Rattle.rename_verify.specs.Verdict.{IsVerdict, Verdicts}
use Rattle.rename_verify.proofs.Answered.{ok_more}
use Rattle.rename_verify.proofs.calls.verify.Goals as goal

pub returns-in_err-facts-clause-refused : goal.returns-in_err-facts-clause-refused
returns-in_err-facts-clause-refused c =
    let old = c.args.old.now in
    let why = c.in_err-facts.field-0.0 in
    stopped c.from_residual-in_err-facts.result why (IsRefusedFor (λ e. Verdicts old c.args.new.now (Err e))) c.from_residual-in_err-facts.ensures
    (rejects old (view_project c.in_ok-read.read.project) why c.in_ok-read.ensures.project c.in_err-facts.ensures.refused)

pub returns-in-Some-clause-verdict : goal.returns-in-Some-clause-verdict
returns-in-Some-clause-verdict c = (
  view_project c.in_ok-read.read.project,
  record { reads = c.in_ok-read.ensures.project; none = c.in_ok-facts.ensures.passed },
  inl (subst (IsOtherSource c.args.old.now c.args.new.now) c.in-Some.is c.in_ok-name.ensures.name),
)

pub returns-clause-verdict : goal.returns-clause-verdict
returns-clause-verdict c =
    let us = view_project c.in_ok-read.read.project in
    let accepts : Accepts c.args.old.now us = record { reads = c.in_ok-read.ensures.project; none = c.in_ok-facts.ensures.passed } in
    ok_more c.judge.result (IsVerdict c.args.old.now c.args.new.now us) _ (λ verdict h. (us, accepts, h)) c.judge.ensures.verdict

pub returns-in_err-placed-clause-refused : goal.returns-in_err-placed-clause-refused
returns-in_err-placed-clause-refused c =
    stopped c.from_residual-in_err-placed.result refusal.Memory (IsRefusedFor (λ e. Verdicts c.args.old.now c.args.new.now (Err e)))
    c.from_residual-in_err-placed.ensures (inr refl)
