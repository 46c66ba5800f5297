-- The ladders of refusals, decided (own).
use Rattle.std.specs.Prelude.{◌⊎◌, List}
use Rattle.rotor_base.specs.declared.place.Place.{Place}
use Rattle.rotor_base.specs.declared.place.Foot.{Foot}
use Rattle.rotor_base.specs.declared.refusal.Refusal.{Refusal}
use Rattle.rotor_base.specs.declared.source.SourceFile.{SourceFile}
use Rattle.ml_syntax.specs.RespelledSource.{AreRespelled}
use Rattle.ml_trees.specs.Tree.{UnitTree}
use Rattle.shape_core.specs.Shape.{Name}
use Rattle.binding_model.specs.Renaming.{in_file}
use Rattle.capture_check.specs.Fault.{IsMet}
use Rattle.rename_model.specs.Project.{refusals_of_project}
use Rattle.rename_model.specs.Renaming.{watch_of, renamed_words, refusals_of_binder}

-- a refusal meets the condition, or none does
abbrev pub IsDecided : (Refusal → Type 0) → Type 0
IsDecided c = IsMet c ⊎ (IsMet c → ⊥)

-- Law: a refusal of a project holds, or none does
abbrev pub ProjectsAreDecided : Type 0
ProjectsAreDecided = (us : List UnitTree) → IsDecided (refusals_of_project us)

-- Law: a refusal of a renaming of a binder and its footprint holds, or none does, if the sources can be respelled
abbrev pub RenamingsAreDecided : Type 0
RenamingsAreDecided =
    (sources : List SourceFile) (us : List UnitTree) (d : Place) (foot : Foot) (new : Name) (news : List SourceFile)
    → AreRespelled (in_file (renamed_words us (watch_of us d foot new))) 0 sources news
    → IsDecided (refusals_of_binder sources us d foot new)
