use Rattle.std.proofs.Common.{take, unwrap_or}
use Rattle.rotor_base.specs.Files.{FileSet}
use Rattle.project_reading.specs.Known.{AreKnown}
use Rattle.rename_batch.specs.Batch.{Runs}
use Rattle.rename_batch.proofs.run.run_steps.Given as goal

-- the steps so far are done, and the trees that are known are those of the files that they left
abbrev pub invariant-loop-at : goal.invariant-loop-at
invariant-loop-at l = record {
  run : Runs l.files (take l.at l.steps) (unwrap_or l.last l.files) l.changes;
  known : AreKnown (unwrap_or l.last l.files).entries l.known;
}
