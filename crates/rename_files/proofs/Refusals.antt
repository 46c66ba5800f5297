-- What a refusal of a step is to the call that stops with it.
use Rattle.std.proofs.Common.{inl, inr, List, Err}
use Rattle.rotor_base.specs.declared.refusal.Refusal.{Refusal}
use Rattle.rotor_base.specs.declared.target.Target.{Target}
use Rattle.rotor_base.specs.Files.{FileSet}
use Rattle.ml_trees.specs.Tree.{UnitTree}
use Rattle.project_reading.specs.Reads.{Reads, IsRefused}
use Rattle.rename_model.specs.Project.{refusals_of_project}
use Rattle.rename_model.specs.Renaming.{HasNoTarget}
use Rattle.rename_files.specs.Answer.{Rejects, Shows}
use Rattle.rename_project.specs.Steps.{IsRefusedFor, IsFreeOf}

pub rejects : (files : FileSet) (us : List UnitTree) (e : Refusal) → Reads files us → IsRefusedFor (refusals_of_project us) e
    → IsRefusedFor (Rejects files) e
rejects files us e reads (inl h) = inl (inr (us, reads, h))
rejects files us e reads (inr h) = inr h

pub unread : (files : FileSet) (e : Refusal) → IsRefused files e → IsRefusedFor (Rejects files) e
unread files e (inl h) = inl (inl h)
unread files e (inr h) = inr h

pub not_shown : (files : FileSet) (target : Target) (e : Refusal) → IsRefusedFor (Rejects files) e
    → IsRefusedFor (λ why. Shows files target (Err why)) e
not_shown files target e (inl h) = inl (inl h)
not_shown files target e (inr h) = inr h

pub no_target_shown : (files : FileSet) (us : List UnitTree) (target : Target) (e : Refusal) → Reads files us → IsFreeOf (refusals_of_project us)
    → IsRefusedFor (HasNoTarget files us target) e
    → IsRefusedFor (λ why. Shows files target (Err why)) e
no_target_shown files us target e reads free (inl h) = inl (inr (us, record { reads = reads; none = free }, h))
no_target_shown files us target e reads free (inr h) = inr h
