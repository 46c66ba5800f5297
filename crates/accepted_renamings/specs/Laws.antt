-- When a renaming is accepted, and what renamings one after another give (own).
use Rattle.std.specs.Prelude.{◌≡◌, ◌≢◌, ◌↔◌, List, Contains, Ok}
use Rattle.rotor_base.specs.declared.place.Place.{Place}
use Rattle.rotor_base.specs.declared.place.Foot.{Foot}
use Rattle.rotor_base.specs.declared.report.Renamed.{Renamed}
use Rattle.rotor_base.specs.declared.target.Target.{Target}
use Rattle.rotor_base.specs.Files.{FileSet, IsProject}
use Rattle.ml_trees.specs.Tree.{UnitTree}
use Rattle.shape_core.specs.Shape.{Name}
use Rattle.binding_model.specs.Renaming.{renaming}
use Rattle.binding_model.specs.Renaming.{Renaming, IsValid, name_of}
use Rattle.capture_check.specs.Fault.{IsMet}
use Rattle.project_reading.specs.Reads.{Reads}
use Rattle.respelled_reading.specs.Renamed.{AreRenamed, GivesValueNames}
use Rattle.rename_model.specs.Foot.{IsTheFoot}
use Rattle.rename_model.specs.Renaming.{IsGrown, watch_of}
use Rattle.rename_model.specs.Target.{Aims}
use Rattle.rename_files.specs.Answer.{Accepts, Renames}

-- the new name is another one, the map that gives it to a footprint is valid, and the new sources are within the limits
pub record CanTakeName (files : FileSet) (us : List UnitTree) (d : Place) (foot : Foot) (new : Name) : Type 0 where
  pub other : new ≢ name_of us d
  pub valid : IsValid us (renaming (watch_of us d foot new))
  pub small : IsMet (IsGrown files.entries us (watch_of us d foot new)) → ⊥

-- the renaming is accepted
abbrev pub IsAcceptedIn : FileSet → Target → Name → Type 0
IsAcceptedIn files target new = (done : Renamed) × Renames files target new (Ok done)

-- the renaming is accepted, and gives these files
abbrev pub GivesFiles : FileSet → Target → Name → FileSet → Type 0
GivesFiles files target new out = (done : Renamed) × Renames files target new (Ok done) × (done.files ≡ out)

-- Law: a renaming of a binder of a project that `check` accepts is accepted exactly if the map that gives the footprint
-- the new name is valid, the name is another one, and the new sources are within the limits
abbrev pub AcceptedExactly : Type 0
AcceptedExactly =
    (files : FileSet) (us : List UnitTree) (target : Target) (d : Place) (foot : Foot) (new : Name) → IsProject files → Accepts files us
    → Aims files us target d → IsTheFoot us d foot
    → IsAcceptedIn files target new ↔ CanTakeName files us d foot new

-- Law: a renaming that is accepted is accepted of each member of the footprint, and does the same there
abbrev pub MembersRenameTheSame : Type 0
MembersRenameTheSame =
    (files : FileSet) (us : List UnitTree) (target other : Target) (new : Name) (done : Renamed) (member : Place) → IsProject files
    → Renames files target new (Ok done) → Reads files us → Aims files us other member → Contains done.foot.decls member
    → Renames files other new (Ok (record done { undo_at = member }))

-- Law: a renaming to one name, and then of a member of the footprint to a second name, is the renaming to the second
abbrev pub TwiceIsOnce : Type 0
TwiceIsOnce =
    (files : FileSet) (target other : Target) (first second : Name) (one two : Renamed) → IsProject files → Renames files target first (Ok one)
    → Renames one.files other second (Ok two) → Contains one.foot.decls two.undo_at → second ≢ one.old
    → GivesFiles files target second two.files

-- Law: if a binder can be renamed to each of two names, the second renaming goes from the one name to the other too
abbrev pub OnceIsTwice : Type 0
OnceIsTwice =
    (files : FileSet) (vs : List UnitTree) (target other : Target) (first second : Name) (one once : Renamed) (member : Place) → IsProject files
    → Renames files target first (Ok one) → Renames files target second (Ok once) → first ≢ second → Reads one.files vs
    → Aims one.files vs other member → Contains one.foot.decls member
    → GivesFiles one.files other second once.files

-- no declaration is a member of both footprints
abbrev pub AreDisjoint : Foot → Foot → Type 0
AreDisjoint one other = (d : Place) → Contains one.decls d → Contains other.decls d → ⊥

-- Law: the renamings of two disjoint footprints give the same files in either order
abbrev pub EitherOrder : Type 0
EitherOrder =
    (files : FileSet) (here there other another : Target) (first second : Name) (one two three four : Renamed) → IsProject files
    → Renames files here first (Ok one) → Renames one.files there second (Ok two) → Renames files other second (Ok three)
    → Renames three.files another first (Ok four) → one.foot ≡ four.foot → two.foot ≡ three.foot → AreDisjoint one.foot two.foot
    → two.files ≡ four.files

-- the new files are the old ones with other words, by a valid renaming that gives value names
pub record AreValidlyRenamed (old new : FileSet) : Type 0 where
  pub project : List UnitTree
  pub reads : Reads old project
  pub names : Renaming
  pub valid : IsValid project names
  pub gives : GivesValueNames project names
  pub renamed : AreRenamed project names old new

-- Law: what a renaming that is accepted gives is validly renamed
abbrev pub AcceptedAreValid : Type 0
AcceptedAreValid =
    (files : FileSet) (target : Target) (new : Name) (done : Renamed) → IsProject files → Renames files target new (Ok done)
    → AreValidlyRenamed files done.files

-- Law: files that are validly renamed, and then again, are validly renamed from the first to the last
abbrev pub ValidRenamingsGoOn : Type 0
ValidRenamingsGoOn =
    (first middle last : FileSet) → IsProject first → IsProject middle → AreValidlyRenamed first middle → AreValidlyRenamed middle last
    → AreValidlyRenamed first last
