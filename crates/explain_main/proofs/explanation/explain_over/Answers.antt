use Rattle.std.proofs.Common.{IfOk, List, ℕ, subst, sym}
use Rattle.explain.specs.Says.{SaysRename}
use Rattle.explain_main.specs.declared.words.FilesQuestion.{FilesQuestion}
use Rattle.explain_main.specs.Said.{SaysOver}
use Rattle.explain_main.proofs.explanation.explain_over.Goals as goal

pub returns-in-Rename : goal.returns-in-Rename
returns-in-Rename c =
    subst (λ (question : FilesQuestion). IfOk c.explain_rename.result (SaysOver question c.args.as_json c.args.files.now)) (sym c.in-Rename.is)
    (subst (λ (name : List ℕ). IfOk c.explain_rename.result (SaysRename c.args.files.now c.in-Rename.target name c.args.as_json))
    c.as_bytes.ensures c.explain_rename.ensures)
