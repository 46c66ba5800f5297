-- What is said of the file of a batch (own).
use Rattle.std.specs.Prelude.{◌≡◌, ◌<◌, ◌≤◌, ℕ, List, Option, Some, None, length, if◌then◌else◌}
use Rattle.std.specs.FinMap.{get}
use Rattle.rotor_base.specs.Files.{FileSet}
use Rattle.rotor_base.specs.Limits.{max_batch_lines, max_file_bytes}
use Rattle.rotor_base.specs.Lines.{feed_lines}
use Rattle.tree_io.specs.Outside.{FileMap}
use Rattle.project_load.specs.Listed.{is_listed_name}
use Rattle.report.specs.Pieces.{Word}
use Rattle.rename_batch.specs.declared.step.Step.{Step}
use Rattle.rename_batch.specs.Reading.{IsBadLine, IsBatch}
use Rattle.messages.specs.declared.parts.Message.{Message}
use Rattle.line_stretches.specs.Stretch.{IsStretch}
use Rattle.refusal_words.specs.Commands.{batch_line, long_batch, no_batch}
use Rattle.refusal_words.specs.Folder.{large_file}
use Rattle.explain.specs.declared.ending.Ending.TheVariants.{Project}
use Rattle.explain.specs.declared.explanation.Explanation.{Explanation}
use Rattle.explain.specs.Explanation.{explanation_of_message}
use Rattle.explain_batch.specs.Steps.{SaysSteps}

-- the bytes of a batch in a folder: a source and the manifest are none
abbrev pub batch_in : FileMap → Word → Option (List ℕ)
batch_in held file = if is_listed_name file then None else get held file

-- of a file that is no batch
abbrev pub refused_with : Message → Explanation
refused_with message = explanation_of_message Project (Some message)

-- what is said of a batch whose line of this number is bad: it is one line too many, or it has no step
pub data SaysLine (file : Word) (bytes : List ℕ) (number : ℕ) (explanation : Explanation) : Type 0 where
  many : max_batch_lines < number → explanation ≡ refused_with (long_batch file) → SaysLine file bytes number explanation
  one : (start end : ℕ) → number ≤ max_batch_lines → IsStretch (feed_lines bytes) number start end
      → explanation ≡ refused_with (batch_line file bytes start end) → SaysLine file bytes number explanation

-- `batch`: what is said of a file with these bytes, over the files of a project
pub data SaysBatch (file : Word) (found : Option (List ℕ)) (files : FileSet) (explanation : Explanation) : Type 0 where
  lacks : found ≡ None → explanation ≡ refused_with (no_batch file) → SaysBatch file found files explanation
  large : (bytes : List ℕ) → found ≡ Some bytes → max_file_bytes < length bytes → explanation ≡ refused_with (large_file file)
      → SaysBatch file found files explanation
  unread : (bytes : List ℕ) (number : ℕ) → found ≡ Some bytes → length bytes ≤ max_file_bytes → IsBadLine (feed_lines bytes) number
      → SaysLine file bytes number explanation → SaysBatch file found files explanation
  runs : (bytes : List ℕ) (steps : List Step) → found ≡ Some bytes → length bytes ≤ max_file_bytes → IsBatch (feed_lines bytes) steps
      → SaysSteps files steps explanation → SaysBatch file found files explanation
