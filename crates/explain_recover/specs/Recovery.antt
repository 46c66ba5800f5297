-- What is said of a recovery (own).
use Rattle.std.specs.Prelude.{◌≡◌, List, [], ◌∷◌, ◌++◌, Some, codes, flat_map, length}
use Rattle.rotor_base.specs.declared.source.SourceFile.{SourceFile}
use Rattle.report.specs.Pieces.{Word, join}
use Rattle.tree_io.specs.Outside.{FileMap}
use Rattle.apply_journal.specs.Recovered.{HoldsPlan, IsLost, IsOpen}
use Rattle.messages.specs.Words.{counted}
use Rattle.refusal_words.specs.Commands.{bad_plan}
use Rattle.explain.specs.declared.ending.Ending.TheVariants.{Done, Project}
use Rattle.explain.specs.declared.explanation.Explanation.{Explanation}
use Rattle.explain.specs.Explanation.{explanation_of_message, explanation_of_text}

-- the name of a file, on a line
abbrev pub name_line : SourceFile → Word
name_line file = file.name ++ codes "\n"

-- the number of the files that a recovery would write, and the name of each
abbrev pub recovery_text : List SourceFile → Word
recovery_text files =
    join (codes "`rotor recover` would write " ∷ counted (length files) (codes "file") ∷ codes "\n" ∷ []) ++ flat_map name_line files

-- `recover`: nothing, if the gate is not open; the files of the plan; or that there is no plan
pub data SaysRecovery (held : FileMap) (explanation : Explanation) : Type 0 where
  idle : (IsOpen held → ⊥) → explanation ≡ explanation_of_text Done (codes "nothing to recover\n") → SaysRecovery held explanation
  finished : (files : List SourceFile) → IsOpen held → HoldsPlan held files → explanation ≡ explanation_of_text Done (recovery_text files)
      → SaysRecovery held explanation
  lost : IsLost held → explanation ≡ explanation_of_message Project (Some bad_plan) → SaysRecovery held explanation
