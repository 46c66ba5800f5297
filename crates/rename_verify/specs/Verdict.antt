-- Verdict(old, new): whether one project is a valid respelling of another, and why it is not
-- (own).
use Rattle.std.specs.Prelude.{◌≡◌, ℕ, List, Result, Ok, Err, map}
use Rattle.rotor_base.specs.declared.place.Place.{Place}
use Rattle.rotor_base.specs.declared.refusal.Refusal.{Refusal}
use Rattle.rotor_base.specs.Files.{FileSet}
use Rattle.ml_lexer.specs.Lexed.{Lexeme}
use Rattle.ml_trees.specs.Tree.{UnitTree}
use Rattle.shape_core.specs.Shape.{Name}
use Rattle.binding_model.specs.Facts.{facts}
use Rattle.binding_model.specs.Renaming.{Renaming, Changes, IsFree, name_of}
use Rattle.capture_check.specs.Fault.{IsMet, before, faults}
use Rattle.project_reading.specs.Reads.{Reads}
use Rattle.rename_files.specs.Answer.{Accepts, Rejects}
use Rattle.rename_model.specs.Ladder.{IsLeast}
use Rattle.rename_respell.specs.Respelled.{AreRespelledBytes, mapped_words}
use Rattle.rename_survey.specs.Survey.{binders_of}
use Rattle.rename_verify.specs.declared.verdict.Verdict.{Verdict}
use Rattle.rename_verify.specs.declared.verdict.Verdict.TheVariants.{Yes, No}
use Rattle.rename_verify.specs.declared.verdict.Why.{Why}
use Rattle.rename_verify.specs.declared.verdict.Why.TheVariants as why
use Rattle.rename_verify.specs.Candidate.{AreLexemesOf, candidate, changes}
use Rattle.rename_verify.specs.Changed.{Changed}
use Rattle.rename_verify.specs.Differ.{HasOtherSources, FilesPartAt}

-- Sources: the names of the sources or the manifests differ
abbrev pub IsSources : FileSet → FileSet → Why → Type 0
IsSources old new (why.Sources name) = HasOtherSources old new name
IsSources old new _ = ⊥

-- Bytes: the bytes of the respelled old sources and of the new ones differ: in the first file, and there at the least
-- offset
abbrev pub IsBytes : List UnitTree → Renaming → FileSet → FileSet → Why → Type 0
IsBytes us r old new (why.Bytes file offset) =
    (sources : List (List ℕ)) × AreRespelledBytes (mapped_words us r) 0 old.entries sources
    × FilesPartAt sources (map (λ s. s.bytes) new.entries) file offset
IsBytes us r old new _ = ⊥

-- a binder takes another name, and may not
pub record IsFixed (us : List UnitTree) (r : Renaming) (d : Place) : Type 0 where
  pub name : Name
  pub changes : Changes us r d name
  pub fixed : IsFree us d → ⊥

-- Fixed: there is one; the least one
abbrev pub IsFixedAt : List UnitTree → Renaming → Why → Type 0
IsFixedAt us r (why.Fixed at) = IsLeast (IsFixed us r) at
IsFixedAt us r _ = ⊥

-- Broken: the first of Clash, Capture and Mislink between the old project and the one that the new files are read as
abbrev pub IsBroken : List UnitTree → FileSet → Why → Type 0
IsBroken us new (why.Broken fault) = (vs : List UnitTree) × Reads new vs × faults (name_of vs) (facts us) (facts vs) fault
IsBroken us new _ = ⊥

-- a condition on the candidate
abbrev pub ForCandidate : List UnitTree → FileSet → (Renaming → Why → Type 0) → Why → Type 0
ForCandidate us new c reason = (lists : List (List Lexeme)) × AreLexemesOf new.entries lists × c (candidate lists (binders_of us)) reason

-- why the new files are no valid respelling of the old ones, which are read as this project; the reasons in their order
abbrev pub reasons : List UnitTree → FileSet → FileSet → Why → Type 0
reasons us old new =
    before (IsSources old new)
    (ForCandidate us new (λ r.
    before (IsBytes us r old new)
    (before (IsFixedAt us r)
    (IsBroken us new))))

-- the binders that the candidate changes
abbrev pub AreChanges : List UnitTree → FileSet → List Changed → Type 0
AreChanges us new list = (lists : List (List Lexeme)) × AreLexemesOf new.entries lists × (list ≡ changes lists (binders_of us))

-- the verdict on a project and new files: yes with what is changed, or no with the first reason
abbrev pub IsVerdict : FileSet → FileSet → List UnitTree → Verdict → Type 0
IsVerdict old new us (Yes list) = (IsMet (reasons us old new) → ⊥) × AreChanges us new list.items
IsVerdict old new us (No reason) = reasons us old new reason

-- `verify`: the verdict, if `check` accepts the old files; or their first refusal
abbrev pub Verdicts : FileSet → FileSet → Result Verdict Refusal → Type 0
Verdicts old new (Ok verdict) = (us : List UnitTree) × Accepts old us × IsVerdict old new us verdict
Verdicts old new (Err refusal) = Rejects old refusal
