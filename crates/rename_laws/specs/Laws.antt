-- What a renaming that is accepted keeps (own).
use Rattle.std.specs.Prelude.{◌≡◌, ◌⊎◌, ◌↔◌, ◌||◌, ℕ, ◌<◌, ◌≤◌, List, map, length, Bool, true, not, nat_le, Some, None, All, Contains}
use Rattle.std.specs.Prelude.{IsSome, IsTrue, IsFalse, Ok, slice_get, slice_index}
use Rattle.std.specs.List.Sorted.{IsStrictlySortedBy}
use Rattle.std.specs.Ordering.{nat_cmp}
use Rattle.rotor_base.specs.Limits.{max_file_bytes}
use Rattle.rotor_base.specs.declared.place.Place.{Place}
use Rattle.rotor_base.specs.declared.place.Foot.{Foot}
use Rattle.rotor_base.specs.declared.refusal.Refusal.TheVariants.{Operator}
use Rattle.rotor_base.specs.declared.report.FootReport.{FootReport}
use Rattle.rotor_base.specs.declared.report.Renamed.{Renamed}
use Rattle.rotor_base.specs.declared.target.Target.{Target}
use Rattle.rotor_base.specs.declared.target.Target.TheVariants.{At}
use Rattle.rotor_base.specs.Name.{is_value_name}
use Rattle.rotor_base.specs.Stem.{is_source_name}
use Rattle.rotor_base.specs.Files.{FileSet, IsProject, load_refusal, names_of}
use Rattle.ml_lexer.specs.Bytes.{is_word_start}
use Rattle.value_sites.specs.Sound.{IsSound}
use Rattle.ml_trees.specs.Tree.{UnitTree}
use Rattle.ml_trees.specs.WellFormed.{keyword_level}
use Rattle.shape_core.specs.Shape.{Name}
use Rattle.binding_model.specs.Facts.{facts}
use Rattle.binding_model.specs.Renaming.{IsBinder}
use Rattle.binding_model.specs.Renaming.{Renaming, Changes, IsValid, name_of, respell}
use Rattle.module_meaning.specs.Run.{run}
use Rattle.project_reading.specs.Reads.{Reads}
use Rattle.rename_model.specs.Foot.{IsTheFoot}
use Rattle.rename_model.specs.Renaming.{IsOperator}
use Rattle.rename_model.specs.Target.{Aims, number_of}
use Rattle.rename_files.specs.Answer.{Shows, Renames}

-- the new sources have the old names, the manifest is the same, they are taken as a project's files, and each source
-- that differs is among those that changed
pub record Rewrites (files : FileSet) (done : Renamed) : Type 0 where
  pub names : names_of done.files.entries ≡ names_of files.entries
  pub manifest : done.files.manifest ≡ files.manifest
  pub taken : load_refusal done.files.entries done.files.manifest ≡ None
  pub covers : (k : ℕ) → (slice_get files.entries k ≡ slice_get done.files.entries k) ⊎ Contains done.changed k

-- the numbers of the sources that changed rise, and each numbers a source
pub record ListsChanges (done : Renamed) : Type 0 where
  pub ordered : IsStrictlySortedBy nat_cmp done.changed
  pub known : All (λ n. n < length done.files.entries) done.changed

-- the new name for each declaration of the footprint, and for no other
abbrev pub new_names : Renamed → Renaming
new_names done = map (λ d. (d, done.new)) done.foot.decls

-- the new names are a valid renaming of the project, and the new files are read as its respelling
pub record IsValidFor (files : FileSet) (done : Renamed) : Type 0 where
  pub project : List UnitTree
  pub reads : Reads files project
  pub valid : IsValid project (new_names done)
  pub respelled : Reads done.files (respell project (new_names done))

-- the files are read as projects with the same facts: every reference keeps its declaration, and every link stays
pub record KeepsFacts (old new : FileSet) : Type 0 where
  pub project : List UnitTree
  pub renamed : List UnitTree
  pub reads : Reads old project
  pub still : Reads new renamed
  pub same : facts renamed ≡ facts project

-- the files are read as projects of which every bounded run prints the same and ends the same
pub record KeepsRuns (old new : FileSet) : Type 0 where
  pub project : List UnitTree
  pub renamed : List UnitTree
  pub reads : Reads old project
  pub still : Reads new renamed
  pub same : (n : ℕ) → run n renamed ≡ run n project

-- a renaming that is valid and changes one of these declarations gives all of them the same name
pub record IsLeastFor (files : FileSet) (decls : List Place) : Type 0 where
  pub project : List UnitTree
  pub reads : Reads files project
  pub whole : (r : Renaming) (a : Place) (y : Name) → IsValid project r → Contains decls a → Changes project r a y
      → (b : Place) → Contains decls b → Changes project r b y

-- no renaming that is valid changes one of these declarations
pub record AreKept (files : FileSet) (decls : List Place) : Type 0 where
  pub project : List UnitTree
  pub reads : Reads files project
  pub kept : (r : Renaming) (a : Place) (y : Name) → IsValid project r → Contains decls a → Changes project r a y → ⊥

-- where an undo begins: the name of a source that gives the target's file, and the number of a token; the old name is a
-- value name
pub record IsUndoPlace (files : FileSet) (done : Renamed) : Type 0 where
  pub source : Name
  pub is_source : is_source_name source ≡ true
  pub source_at : slice_get (names_of files.entries) done.undo_at.file ≡ Some source
  pub number : number_of done.files.entries source ≡ Some done.undo_at.file
  pub above : 0 < done.undo_at.token
  pub below : done.undo_at.token ≤ max_file_bytes
  pub named : is_value_name done.old ≡ true

-- the name of an operator: it begins with no letter and no `_`, or it is one of the keywords that are operators
abbrev pub is_operator_name : Name → Bool
is_operator_name name = not (is_word_start (slice_index name 0)) || nat_le 1 (keyword_level name)

-- Law: a renaming that is accepted rewrites sources, and nothing else
abbrev pub RenamingsRewrite : Type 0
RenamingsRewrite = (files : FileSet) (target : Target) (new : Name) (done : Renamed) → IsProject files → Renames files target new (Ok done)
    → Rewrites files done

-- Law: it lists the sources that it changed
abbrev pub ChangesAreListed : Type 0
ChangesAreListed = (files : FileSet) (target : Target) (new : Name) (done : Renamed) → IsProject files → Renames files target new (Ok done)
    → ListsChanges done

-- Law: it is valid, and respells the declarations of the footprint and the references to them, and nothing else
abbrev pub RenamingsAreValid : Type 0
RenamingsAreValid = (files : FileSet) (target : Target) (new : Name) (done : Renamed) → IsProject files → Renames files target new (Ok done)
    → IsValidFor files done

-- Law: it keeps the facts
abbrev pub RenamingsKeepFacts : Type 0
RenamingsKeepFacts = (files : FileSet) (target : Target) (new : Name) (done : Renamed) → IsProject files → Renames files target new (Ok done)
    → KeepsFacts files done.files

-- Law: and the bounded runs
abbrev pub RenamingsKeepRuns : Type 0
RenamingsKeepRuns = (files : FileSet) (target : Target) (new : Name) (done : Renamed) → IsProject files → Renames files target new (Ok done)
    → KeepsRuns files done.files

-- Law: runs that are kept from files to others, and from these to further ones, are kept from the first to the last
abbrev pub KeptRunsGoOn : Type 0
KeptRunsGoOn = (first middle last : FileSet) → KeepsRuns first middle → KeepsRuns middle last → KeepsRuns first last

-- Law: and the declarations that it changes are a least footprint
abbrev pub FootprintsAreLeast : Type 0
FootprintsAreLeast = (files : FileSet) (target : Target) (new : Name) (done : Renamed) → IsProject files → Renames files target new (Ok done)
    → IsLeastFor files done.foot.decls

-- Law: the declarations that `footprint` shows are a least footprint too
abbrev pub ShownAreLeast : Type 0
ShownAreLeast = (files : FileSet) (target : Target) (shown : FootReport) → IsProject files → Shows files target (Ok shown)
    → IsLeastFor files shown.foot.decls

-- Law: and if `footprint` shows a place that is linked with the outside, no valid renaming changes any of them
abbrev pub ShownOutsideIsKept : Type 0
ShownOutsideIsKept = (files : FileSet) (target : Target) (shown : FootReport) → IsProject files → Shows files target (Ok shown)
    → IsSome shown.foot.outside → AreKept files shown.foot.decls

-- Law: a renaming that is accepted is undone. If a source's name gives the target's file, the renaming back of the
-- target's place is accepted, and gives the old files
abbrev pub RenamingsAreUndone : Type 0
RenamingsAreUndone =
    (files : FileSet) (target : Target) (new : Name) (done : Renamed) → IsProject files → Renames files target new (Ok done)
    → (source : Name) → number_of done.files.entries source ≡ Some done.undo_at.file
    → (back : Renamed) × Renames done.files (At source done.undo_at.token) done.old (Ok back) × (back.files ≡ files)

-- Law: there is such a name
abbrev pub UndosHavePlaces : Type 0
UndosHavePlaces = (files : FileSet) (target : Target) (new : Name) (done : Renamed) → IsProject files → Renames files target new (Ok done)
    → IsUndoPlace files done

-- Law: a footprint has an operator among its members and the references to them exactly if the binder's name is that of
-- an operator
abbrev pub OperatorsAreNamed : Type 0
OperatorsAreNamed =
    (us : List UnitTree) (d : Place) (foot : Foot) → IsSound us → IsBinder us d → IsTheFoot us d foot
    → IsOperator us foot Operator ↔ IsTrue (is_operator_name (name_of us d))

-- Law: so it is for the binder that a target names in the files of a project
abbrev pub OperatorsAreOfTheTarget : Type 0
OperatorsAreOfTheTarget =
    (files : FileSet) (us : List UnitTree) (target : Target) (d : Place) (foot : Foot) → IsProject files → Reads files us → Aims files us target d
    → IsTheFoot us d foot → IsOperator us foot Operator ↔ IsTrue (is_operator_name (name_of us d))

-- Law: the name of an operator is no value name
abbrev pub OperatorNamesAreNoValueNames : Type 0
OperatorNamesAreNoValueNames = (name : Name) → IsTrue (is_operator_name name) → IsFalse (is_value_name name)
