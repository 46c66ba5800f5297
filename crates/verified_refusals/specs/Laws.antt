-- The verdict on the files that a refused renaming would leave (own).
use Rattle.std.specs.Prelude.{◌≡◌, List, Result, Ok, Err}
use Rattle.rotor_base.specs.declared.place.Place.{Place}
use Rattle.rotor_base.specs.declared.place.Foot.{Foot}
use Rattle.rotor_base.specs.declared.refusal.Refusal.{Refusal}
use Rattle.rotor_base.specs.declared.target.Target.{Target}
use Rattle.rotor_base.specs.Files.{FileSet, IsProject}
use Rattle.ml_syntax.specs.RespelledSource.{AreRespelled}
use Rattle.ml_trees.specs.Tree.{UnitTree}
use Rattle.shape_core.specs.Shape.{Name}
use Rattle.binding_model.specs.Renaming.{in_file}
use Rattle.capture_check.specs.declared.fault.Fault.{Fault}
use Rattle.project_reading.specs.Reads.{Reads}
use Rattle.rename_model.specs.Foot.{IsTheFoot}
use Rattle.rename_model.specs.Renaming.{watch_of, renamed_words}
use Rattle.rename_model.specs.Target.{Aims}
use Rattle.rename_parts.specs.Faults.{refusal_of_fault}
use Rattle.rename_files.specs.Answer.{Renames}
use Rattle.rename_verify.specs.declared.verdict.Verdict.{Verdict}
use Rattle.rename_verify.specs.declared.verdict.Verdict.TheVariants.{No}
use Rattle.rename_verify.specs.declared.verdict.Why.TheVariants.{Broken}
use Rattle.rename_verify.specs.Verdict.{Verdicts}

-- files in which exactly the target's footprint, and the references to it, have the new name
pub record AreRespelledTo (files : FileSet) (target : Target) (new : Name) (out : FileSet) : Type 0 where
  pub project : List UnitTree
  pub binder : Place
  pub foot : Foot
  pub reads : Reads files project
  pub aims : Aims files project target binder
  pub is_foot : IsTheFoot project binder foot
  pub sources : AreRespelled (in_file (renamed_words project (watch_of project binder foot new))) 0 files.entries out.entries
  pub manifest : out.manifest ≡ files.manifest

-- Law: a Clash, Capture or Mislink that `rename` refuses is the verdict of `verify` on these files
abbrev pub FaultsAreVerdicts : Type 0
FaultsAreVerdicts =
    (files out : FileSet) (target : Target) (new : Name) (fault : Fault) → IsProject files → AreRespelledTo files target new out
    → Renames files target new (Err (refusal_of_fault fault)) → Verdicts files out (Ok (No (Broken fault)))

-- Law: and it is the only one
abbrev pub FaultsAreTheOnlyVerdicts : Type 0
FaultsAreTheOnlyVerdicts =
    (files out : FileSet) (target : Target) (new : Name) (fault : Fault) (answer : Result Verdict Refusal) → IsProject files
    → AreRespelledTo files target new out → Renames files target new (Err (refusal_of_fault fault)) → Verdicts files out answer
    → answer ≡ Ok (No (Broken fault))

-- Law: there are such files
abbrev pub FaultsHaveFiles : Type 0
FaultsHaveFiles =
    (files : FileSet) (target : Target) (new : Name) (fault : Fault) → IsProject files
    → Renames files target new (Err (refusal_of_fault fault)) → (out : FileSet) × AreRespelledTo files target new out
