-- What a renaming to a name that nothing has is refused for (own).
use Rattle.std.specs.Prelude.{◌≡◌, ◌⊎◌, List, Ok, Err}
use Rattle.rotor_base.specs.Files.{FileSet, IsProject}
use Rattle.rotor_base.specs.declared.place.Foot.{Foot}
use Rattle.rotor_base.specs.declared.place.Goal.TheVariants.{Hidden}
use Rattle.rotor_base.specs.declared.place.Place.{Place}
use Rattle.rotor_base.specs.declared.refusal.Refusal.{Refusal}
use Rattle.rotor_base.specs.declared.refusal.Refusal.TheVariants as refusal
use Rattle.rotor_base.specs.declared.report.Renamed.{Renamed}
use Rattle.rotor_base.specs.declared.target.Target.{Target}
use Rattle.ml_trees.specs.Tree.{UnitTree}
use Rattle.shape_core.specs.Shape.{Name}
use Rattle.capture_check.specs.Fault.{IsMet}
use Rattle.rename_model.specs.Foot.{IsTheFoot}
use Rattle.rename_model.specs.Renaming.{IsGrown, watch_of}
use Rattle.rename_model.specs.Target.{Aims}
use Rattle.rename_parts.specs.Findings.{IsFree}
use Rattle.rename_files.specs.Answer.{Accepts, Renames}
use Rattle.unused_names.specs.Laws.{HidesNothing, IsUnused}

-- a refusal whose reason is not the names of other values
abbrev pub IsOfTheTarget : Refusal → Type 0
IsOfTheTarget refusal.NoTarget = Unit {0}
IsOfTheTarget refusal.Operator = Unit {0}
IsOfTheTarget refusal.BadName = Unit {0}
IsOfTheTarget (refusal.Outside at) = Unit {0}
IsOfTheTarget (refusal.Pun at) = Unit {0}
IsOfTheTarget (refusal.Blurred at) = Unit {0}
IsOfTheTarget (refusal.Grown file) = Unit {0}
IsOfTheTarget _ = ⊥

-- a link would find another source, and its item was hidden
abbrev pub WasHidden : Refusal → Type 0
WasHidden (refusal.Mislink item was would) = was ≡ Hidden
WasHidden _ = ⊥

-- Law: in a project that `check` accepts, a renaming to a name that nothing has is refused only so, or as a Mislink of
-- an item that was hidden
abbrev pub UnusedIsRefusedSo : Type 0
UnusedIsRefusedSo =
    (files : FileSet) (us : List UnitTree) (target : Target) (new : Name) (why : Refusal) → IsProject files → Accepts files us → IsUnused us new
    → Renames files target new (Err why) → IsOfTheTarget why ⊎ WasHidden why

-- Law: if nothing is hidden, it is refused only so
abbrev pub NothingIsHidden : Type 0
NothingIsHidden =
    (files : FileSet) (us : List UnitTree) (target : Target) (new : Name) (why : Refusal) → IsProject files → Accepts files us → IsUnused us new
    → HidesNothing us → Renames files target new (Err why) → IsOfTheTarget why

-- the renaming is accepted
abbrev pub IsAccepted : FileSet → Target → Name → Type 0
IsAccepted files target new = (done : Renamed) × Renames files target new (Ok done)

-- Law: and it is accepted if none of these refusals holds
abbrev pub UnusedIsAccepted : Type 0
UnusedIsAccepted =
    (files : FileSet) (us : List UnitTree) (target : Target) (d : Place) (foot : Foot) (new : Name) → IsProject files → Accepts files us
    → IsUnused us new → HidesNothing us → Aims files us target d → IsTheFoot us d foot → IsFree us d foot new
    → (IsMet (IsGrown files.entries us (watch_of us d foot new)) → ⊥) → IsAccepted files target new
