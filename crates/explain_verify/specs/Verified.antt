-- What is said of two lists (own).
use Rattle.std.specs.Prelude.{Ok}
use Rattle.rotor_base.specs.Files.{FileSet}
use Rattle.tree_io.specs.Outside.{FileMap}
use Rattle.project_load.specs.Listed.{Lists}
use Rattle.report.specs.Pieces.{Word}
use Rattle.explain.specs.declared.explanation.Explanation.{Explanation}
use Rattle.explain_verify.specs.Judged.{IsJudged}
use Rattle.explain_verify.specs.Lists.{IsRefusedList}

-- `verify`: the first list that gives no project; or the verdict on the two projects
pub data SaysVerify (old new : Word) (held : FileMap) (explanation : Explanation) : Type 0 where
  no_old : IsRefusedList held old explanation → SaysVerify old new held explanation
  no_new : (olds : FileSet) → Lists held old (Ok olds) → IsRefusedList held new explanation → SaysVerify old new held explanation
  judged : (olds news : FileSet) → Lists held old (Ok olds) → Lists held new (Ok news) → IsJudged olds news explanation
      → SaysVerify old new held explanation
