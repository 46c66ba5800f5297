-- The laws of plans and of stops (own).
use Rattle.std.specs.Prelude.{◌≡◌, ◌⊎◌, ℕ, List, Some}
use Rattle.rotor_base.specs.Files.{FileSet}
use Rattle.rotor_base.specs.declared.source.SourceFile.{SourceFile}
use Rattle.tree_io.specs.Outside.{FileMap}
use Rattle.tree_io.specs.Writes.{after, StoppedWriting}
use Rattle.apply_journal.specs.Plan.{plan_text, IsPlan}
use Rattle.apply_journal.specs.Recovered.{IsOpen, HoldsPlan, project_in, Recovers, plan_writes, safe_writes}

-- bytes are the plan of one list of files at most
abbrev pub PlansAreOne : Type 0
PlansAreOne = (bytes : List ℕ) (one other : List SourceFile) → IsPlan bytes one → IsPlan bytes other → one ≡ other

-- from each folder one project at most is recovered
abbrev pub RecoveredAreOne : Type 0
RecoveredAreOne = (held : FileMap) (one other : FileSet) → Recovers held one → Recovers held other → one ≡ other

-- If `--safe` stops at any write, the old project is recovered, or the new one, whole.
abbrev pub StopsAreRecovered : Type 0
StopsAreRecovered =
    (held now : FileMap) (files : List SourceFile)
    → IsPlan (plan_text files) files → (IsOpen held → ⊥) → StoppedWriting (safe_writes files) (Some held) (Some now)
    → Recovers now (project_in held) ⊎ Recovers now (project_in (after files held))

-- after all the writes of `--safe` the folder holds the new project, and the gate is not open
abbrev pub WholeIsNew : Type 0
WholeIsNew =
    (held : FileMap) (files : List SourceFile) → IsPlan (plan_text files) files
    → (IsOpen (after (safe_writes files) held) → ⊥) × (project_in (after (safe_writes files) held) ≡ project_in (after files held))

-- if a recovery stops at any write, the folder recovers the same project afterwards as before
abbrev pub RecoveryKeepsRecovered : Type 0
RecoveryKeepsRecovered =
    (held now : FileMap) (files : List SourceFile) (found : FileSet)
    → IsOpen held → HoldsPlan held files → StoppedWriting (plan_writes files) (Some held) (Some now) → Recovers held found → Recovers now found

-- after all the writes of a recovery the folder holds what is recovered, and the gate is not open
abbrev pub RecoveryIsWhole : Type 0
RecoveryIsWhole =
    (held : FileMap) (files : List SourceFile) → IsOpen held → HoldsPlan held files
    → (IsOpen (after (plan_writes files) held) → ⊥) × Recovers held (project_in (after (plan_writes files) held))
