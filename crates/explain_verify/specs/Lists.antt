-- What is said of a list that gives no project (own).
use Rattle.std.specs.Prelude.{◌≡◌, ◌<◌, ◌≤◌, ℕ, List, [], ◌∷◌, Option, Some, None, Ok, Err, codes, length}
use Rattle.std.specs.FinMap.{get}
use Rattle.rotor_base.specs.Limits.{max_file_bytes}
use Rattle.rotor_base.specs.Lines.{feed_lines}
use Rattle.rotor_base.specs.declared.refusal.LoadError.{LoadError}
use Rattle.rotor_base.specs.declared.refusal.LoadError.TheVariants as load
use Rattle.tree_io.specs.Outside.{FileMap}
use Rattle.project_load.specs.Listed.{Lists}
use Rattle.project_load.specs.declared.error.ListError.{ListError}
use Rattle.project_load.specs.declared.error.ListError.TheVariants as list_error
use Rattle.report.specs.Pieces.{Word, join}
use Rattle.messages.specs.Words.{grouped}
use Rattle.messages.specs.declared.kinds.Kind.TheVariants as kind
use Rattle.messages.specs.declared.parts.Message.{Message}
use Rattle.line_stretches.specs.Stretch.{IsStretch}
use Rattle.refusal_words.specs.Commands.{list_line, no_list}
use Rattle.refusal_words.specs.Folder.{too_many}
use Rattle.refusal_words.specs.Parts.{bare}
use Rattle.explain.specs.declared.ending.Ending.TheVariants.{Project}
use Rattle.explain.specs.declared.explanation.Explanation.{Explanation}
use Rattle.explain.specs.Explanation.{explanation_of_message}
use Rattle.explain_verify.specs.declared.lists.Listed.{Listed}
use Rattle.explain_verify.specs.declared.lists.Listed.TheVariants as listed

-- of files with which there are too many bytes
abbrev pub large_message : Word → Message
large_message file =
    bare kind.TooLarge (join (file ∷ codes " has more than 1,048,576 bytes, or with it the sources have more than 8,388,608 bytes" ∷ [])) None

-- of a unit that two files make
abbrev pub double_message : Word → Message
double_message unit =
    bare kind.DoubleUnit (join (codes "two files make the unit `" ∷ unit ∷ codes "`" ∷ [])) (Some (codes "rename or move one of them"))

-- of a manifest whose line of this number is bad
abbrev pub manifest_message : ℕ → Message
manifest_message line =
    bare kind.BadManifest
    (join (codes "line " ∷ grouped line ∷ codes " of rotor.units names no unit or one of an earlier line, or a unit has no line" ∷ []))
    (Some (codes "each unit of the folder stands on one line"))

-- of files that are not taken as a project's
abbrev pub load_message : LoadError → Option Message
load_message (load.TooMany count) = Some (too_many count)
load_message (load.TooLarge file) = Some (large_message file)
load_message (load.DoubleUnit unit) = Some (double_message unit)
load_message (load.BadManifest line) = Some (manifest_message line)
load_message load.Read = None
load_message load.Memory = None

abbrev pub refused_with : Option Message → Explanation
refused_with message = explanation_of_message Project message

-- what is said of a line of a list that is bad, by the list's bytes
abbrev pub IsAtLine : Word → List ℕ → ℕ → Explanation → Type 0
IsAtLine list bytes number explanation =
    (start : ℕ) × (end : ℕ) × IsStretch (feed_lines bytes) number start end × (explanation ≡ refused_with (Some (list_line list bytes start end)))

-- what is said of a list whose line of this number is bad; of 0, the folder lacks the list
pub data IsBadList (held : FileMap) (list : Word) (number : ℕ) (explanation : Explanation) : Type 0 where
  missing : number ≡ 0 → explanation ≡ refused_with (Some (no_list list)) → IsBadList held list number explanation
  bad : (bytes : List ℕ) → get held list ≡ Some bytes → IsAtLine list bytes number explanation → IsBadList held list number explanation

-- the folder lacks the list, or the list has a line of this number
pub data MayBeBad (held : FileMap) (list : Word) (number : ℕ) : Type 0 where
  lacks : number ≡ 0 → MayBeBad held list number
  has : (bytes : List ℕ) → get held list ≡ Some bytes → length bytes ≤ max_file_bytes → 0 < number → number ≤ length (feed_lines bytes)
      → MayBeBad held list number

-- what is said of a list that is refused so
abbrev pub RefusesList : FileMap → Word → ListError → Explanation → Type 0
RefusesList held list list_error.Read explanation = ⊥
RefusesList held list (list_error.BadList number) explanation = IsBadList held list number explanation
RefusesList held list (list_error.Load why) explanation = explanation ≡ refused_with (load_message why)

-- the list is refused, and this is said of it
pub record IsRefusedList (held : FileMap) (list : Word) (explanation : Explanation) : Type 0 where
  pub error : ListError
  pub refused : Lists held list (Err error)
  pub says : RefusesList held list error explanation

-- the files of a list, or what is said of it
abbrev pub IsListed : FileMap → Word → Listed → Type 0
IsListed held list (listed.Files files) = Lists held list (Ok files)
IsListed held list (listed.Explanation explanation) = IsRefusedList held list explanation
