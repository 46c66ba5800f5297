-- What a refusal is to `rename`.
use Rattle.std.proofs.Common.{inl, inr, List, Err}
use Rattle.rotor_base.specs.declared.place.Place.{Place}
use Rattle.rotor_base.specs.declared.place.Foot.{Foot}
use Rattle.rotor_base.specs.declared.refusal.Refusal.{Refusal}
use Rattle.rotor_base.specs.declared.refusal.Refusal.TheVariants as refusal
use Rattle.rotor_base.specs.declared.target.Target.{Target}
use Rattle.rotor_base.specs.Files.{FileSet}
use Rattle.ml_trees.specs.Tree.{UnitTree}
use Rattle.shape_core.specs.Shape.{Name}
use Rattle.capture_check.specs.Fault.{IsMet}
use Rattle.project_reading.specs.Reads.{Reads}
use Rattle.rename_model.specs.Target.{Aims}
use Rattle.rename_model.specs.Project.{refusals_of_project}
use Rattle.rename_model.specs.Foot.{IsTheFoot}
use Rattle.rename_model.specs.Renaming.{HasNoTarget, refusals_of_binder}
use Rattle.rename_files.specs.Answer.{Rejects, Renames}
use Rattle.rename_project.specs.Steps.{IsRefusedFor, IsFreeOf}

pub not_renamed : (files : FileSet) (target : Target) (new : Name) (e : Refusal) → IsRefusedFor (Rejects files) e
    → IsRefusedFor (λ why. Renames files target new (Err why)) e
not_renamed files target new e (inl h) = inl (inl h)
not_renamed files target new e (inr h) = inr h

pub no_target_renamed : (files : FileSet) (us : List UnitTree) (target : Target) (new : Name) (e : Refusal) → Reads files us
    → IsFreeOf (refusals_of_project us) → IsRefusedFor (HasNoTarget files us target) e
    → IsRefusedFor (λ why. Renames files target new (Err why)) e
no_target_renamed files us target new e reads free (inl h) = inl (inr (us, record { reads = reads; none = free }, inl h))
no_target_renamed files us target new e reads free (inr h) = inr h

aimed : (files : FileSet) (us : List UnitTree) (target : Target) (d : Place) → Aims files us target d → IsMet (HasNoTarget files us target) → ⊥
aimed files us target d a (refusal.NoTarget, h) = h d a
aimed files us target d a (_, h) = h

pub judged_renamed : (files : FileSet) (us : List UnitTree) (target : Target) (new : Name) (d : Place) (foot : Foot) (e : Refusal) → Reads files us
    → IsFreeOf (refusals_of_project us) → Aims files us target d → IsTheFoot us d foot
    → IsRefusedFor (refusals_of_binder files.entries us d foot new) e → IsRefusedFor (λ why. Renames files target new (Err why)) e
judged_renamed files us target new d foot e reads free aims is (inl h) =
    inl (inr (
      us,
      record { reads = reads; none = free },
      inr (aimed files us target d aims, record { binder = d; foot = foot; aims = aims; is_foot = is; holds = h }),
    ))
judged_renamed files us target new d foot e reads free aims is (inr h) = inr h
