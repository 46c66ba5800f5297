-- The gate, the writes, and what is recovered after a stop (own).
use Rattle.std.specs.Prelude.{◌≡◌, ℕ, List, [], ◌∷◌, ◌++◌, length, Option, Some, None, codes}
use Rattle.std.specs.FinMap.{get}
use Rattle.rotor_base.specs.Files.{FileSet}
use Rattle.rotor_base.specs.declared.source.SourceFile.{SourceFile}
use Rattle.tree_io.specs.Outside.{FileMap}
use Rattle.project_load.specs.Load.{sources_of, manifest_of}
use Rattle.tree_io.specs.Writes.{after, StoppedWriting}
use Rattle.apply_journal.specs.declared.recovery.Recovery.{Recovery}
use Rattle.apply_journal.specs.declared.recovery.Recovery.TheVariants.{Nothing, Done}
use Rattle.apply_journal.specs.Plan.{line, file_of, plan_text, IsPlan}

-- the file of the plan
abbrev pub plan_name : List ℕ
plan_name = codes "rotor.plan"

-- the file of the gate
abbrev pub gate_name : List ℕ
gate_name = codes "rotor.gate"

-- what an open gate holds: `open` and LF
abbrev pub open_bytes : List ℕ
open_bytes = line (codes "open")

-- the gate is open
abbrev pub IsOpen : FileMap → Type 0
IsOpen held = get held gate_name ≡ Some open_bytes

-- the writes of a recovery: the plan's files, and the empty gate
abbrev pub plan_writes : List SourceFile → List SourceFile
plan_writes files = files ++ file_of gate_name [] ∷ []

-- the writes of `--safe`: the plan, the open gate, the changed files, and the empty gate
abbrev pub safe_writes : List SourceFile → List SourceFile
safe_writes files = file_of plan_name (plan_text files) ∷ file_of gate_name open_bytes ∷ plan_writes files

-- the sources of a folder with its manifest
abbrev pub project_in : FileMap → FileSet
project_in held = record { entries = sources_of held; manifest = manifest_of held }

-- the plan's file holds the plan of these files
abbrev pub HoldsPlan : FileMap → List SourceFile → Type 0
HoldsPlan held files = (bytes : List ℕ) × (get held plan_name ≡ Some bytes) × IsPlan bytes files

-- the folder holds no plan
abbrev pub HoldsNoPlan : FileMap → Type 0
HoldsNoPlan held = (files : List SourceFile) → HoldsPlan held files → ⊥

-- The sources and the manifest that are recovered. If the gate is open and there is a plan, the plan's files replace
-- those of the folder. If not, they are as they are (Recovered).
pub data Recovers (held : FileMap) : FileSet → Type 0 where
  planned : (files : List SourceFile) → IsOpen held → HoldsPlan held files → Recovers held (project_in (after files held))
  closed : (IsOpen held → ⊥) → Recovers held (project_in held)
  unplanned : IsOpen held → HoldsNoPlan held → Recovers held (project_in held)

-- the gate is open, and the folder holds no plan (BadPlan)
pub record IsLost (held : FileMap) : Type 0 where
  pub opened : IsOpen held
  pub none : HoldsNoPlan held

-- the writes of the recovery of some plan
abbrev pub ArePlanWrites : List SourceFile → Type 0
ArePlanWrites writes = (files : List SourceFile) × IsPlan (plan_text files) files × (writes ≡ plan_writes files)

-- the writes that a recovery owes to a folder: none if the gate is not open
pub data IsDue (held : FileMap) : Option (List SourceFile) → Type 0 where
  rests : (IsOpen held → ⊥) → IsDue held None
  due : (files : List SourceFile) → IsOpen held → HoldsPlan held files → IsDue held (Some (plan_writes files))

-- what a recovery answers, and the folder that it leaves
pub data IsRecovered (held : FileMap) : Option FileMap → Recovery → Type 0 where
  rested : (IsOpen held → ⊥) → IsRecovered held (Some held) Nothing
  done : (files : List SourceFile) → IsOpen held → HoldsPlan held files
      → IsRecovered held (Some (after (plan_writes files) held)) (Done (length files))

-- a recovery that stopped at a write
pub record IsStopped (held : FileMap) (now : Option FileMap) : Type 0 where
  pub files : List SourceFile
  pub opened : IsOpen held
  pub plan : HoldsPlan held files
  pub stopped : StoppedWriting (plan_writes files) (Some held) now

-- the folder that is left has just what is recovered
abbrev pub LeavesRecovered : FileMap → Option FileMap → Type 0
LeavesRecovered held left = (now : FileMap) → left ≡ Some now → Recovers held (project_in now)

-- of the folder that is left is recovered what would have been before
abbrev pub KeepsRecovered : FileMap → Option FileMap → Type 0
KeepsRecovered held left = (now : FileMap) → left ≡ Some now → (found : FileSet) → Recovers held found → Recovers now found
