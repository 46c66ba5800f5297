use Rattle.std.proofs.Common.{◌≡◌, inl, inr, List}
use Rattle.rotor_base.specs.Files.{FileSet}
use Rattle.rotor_base.specs.declared.refusal.Refusal.{Refusal}
use Rattle.rotor_base.specs.declared.refusal.Refusal.TheVariants as refusal
use Rattle.ml_trees.specs.Tree.{UnitTree}
use Rattle.project_reading.specs.Reads.{IsRefused, Reads}
use Rattle.project_reading.proofs.OneReading.{read_or_refused}
use Rattle.rename_project.proofs.Refusals.{stopped}
use Rattle.rename_verify.proofs.calls.find_fault.Goals as goal

-- files that are read are refused for want of memory alone
only_memory : (files : FileSet) (us : List UnitTree) (why : Refusal) → Reads files us → IsRefused files why → why ≡ refusal.Memory
only_memory files us why h (inl k) = absurd (read_or_refused files us why h k)
only_memory files us why h (inr k) = k

pub returns-in_err-read-clause-memory : goal.returns-in_err-read-clause-memory
returns-in_err-read-clause-memory c =
    stopped c.from_residual.result c.in_err-read.field-0.0 (λ why. why ≡ refusal.Memory) c.from_residual.ensures
    (only_memory c.args.new.now c.requires.read.0 c.in_err-read.field-0.0 c.requires.read.1 c.in_err-read.ensures.refused)
