-- What has an answer (own).
use Rattle.std.specs.Prelude.{List, Result}
use Rattle.rotor_base.specs.declared.refusal.Refusal.{Refusal}
use Rattle.rotor_base.specs.Files.{FileSet, IsProject}
use Rattle.rename_batch.specs.declared.error.BatchError.{BatchError}
use Rattle.rename_batch.specs.declared.step.Batched.{Batched}
use Rattle.rename_batch.specs.declared.step.Step.{Step}
use Rattle.rename_batch.specs.Batch.{Batches}
use Rattle.rename_verify.specs.declared.verdict.Verdict.{Verdict}
use Rattle.rename_verify.specs.Verdict.{Verdicts}

-- Law: there is an answer of a batch
abbrev pub BatchesAreAnswered : Type 0
BatchesAreAnswered = (files : FileSet) (steps : List Step) → (answer : Result Batched BatchError) × Batches files steps answer

-- Law: there is an answer of `verify`
abbrev pub VerdictsAreAnswered : Type 0
VerdictsAreAnswered = (old new : FileSet) → IsProject old → IsProject new → (answer : Result Verdict Refusal) × Verdicts old new answer
