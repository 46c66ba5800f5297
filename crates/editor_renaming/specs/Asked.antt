-- What a renaming that an editor asks for is answered (own).
use Rattle.std.specs.Prelude.{◌≡◌, ℕ, List, [], Option, Some, None, Ok, Err, slice_get}
use Rattle.rotor_base.specs.declared.place.Place.{Place}
use Rattle.rotor_base.specs.declared.report.Renamed.{Renamed}
use Rattle.rotor_base.specs.declared.source.SourceFile.{SourceFile}
use Rattle.rotor_base.specs.declared.target.Target.{Target}
use Rattle.rotor_base.specs.declared.target.Target.TheVariants.{At}
use Rattle.rotor_base.specs.Files.{FileSet}
use Rattle.text_places.specs.declared.counting.Counting.{Counting}
use Rattle.ml_trees.specs.Tree.{UnitTree}
use Rattle.shape_core.specs.Shape.{Name}
use Rattle.rename_project.specs.Steps.{IsRefusedFor}
use Rattle.rename_files.specs.Answer.{Renames}
use Rattle.value_at.specs.declared.value.ValueAt.{ValueAt}
use Rattle.value_at.specs.declared.value.ValueAt.TheVariants.{Value}
use Rattle.value_at.specs.Value.{IsValueAt}
use Rattle.renaming_edits.specs.Edits.{AreEdits, IsNoText}
use Rattle.editor_renaming.specs.declared.asked.EditorRenaming.{EditorRenaming}
use Rattle.editor_renaming.specs.declared.asked.EditorRenaming.TheVariants as answer

-- the name of the source of a number; if there is none, no bytes
abbrev pub name_of_source : Option SourceFile → Name
name_of_source None = []
name_of_source (Some source) = source.name

abbrev pub name_at : List SourceFile → ℕ → Name
name_at sources number = name_of_source (slice_get sources number)

-- the target that names a place by its source and its token
abbrev pub target_of : List SourceFile → Place → Target
target_of sources place = At (name_at sources place.file) place.token

-- What renaming the value that a place declares is answered: the edits of what the renaming has done, a source that would
-- change and is no text, or the refusal that the renaming gives.
abbrev pub IsRenamedTo : Counting → FileSet → Place → Name → EditorRenaming → Type 0
IsRenamedTo counting files d new (answer.Edits done edits) =
    Renames files (target_of files.entries d) new (Ok done) × AreEdits counting files done edits.items
IsRenamedTo counting files d new (answer.NotText file) =
    (done : Renamed) × Renames files (target_of files.entries d) new (Ok done) × IsNoText files.entries done.changed file
IsRenamedTo counting files d new (answer.Refused why) = IsRefusedFor (λ w. Renames files (target_of files.entries d) new (Err w)) why
IsRenamedTo counting files d new (answer.NoValue found) = ⊥

-- The same for a place that declares or uses the value of a declaration. If it has none, the answer says what is there.
pub data IsAnswer (counting : Counting) (files : FileSet) (us : List UnitTree) (place : Place) (new : Name) (given : EditorRenaming) : Type 0 where
  renamed : (d : Place) → IsValueAt us place (Value d) → IsRenamedTo counting files d new given → IsAnswer counting files us place new given
  no_value : (found : ValueAt) → IsValueAt us place found → ((d : Place) → found ≡ Value d → ⊥) → given ≡ answer.NoValue found
      → IsAnswer counting files us place new given
