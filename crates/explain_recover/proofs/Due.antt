-- What is said of the writes that a recovery owes.
use Rattle.std.proofs.Common.{◌≡◌, List, Option, None, Some, IfSome}
use Rattle.rotor_base.specs.declared.source.SourceFile.{SourceFile}
use Rattle.tree_io.specs.Outside.{FileMap}
use Rattle.apply_journal.specs.Recovered.{IsDue, rests, due, plan_writes}
use Rattle.explain.specs.declared.ending.Ending.TheVariants.{Done}
use Rattle.explain.specs.declared.explanation.Explanation.{Explanation}
use Rattle.explain.specs.Explanation.{explanation_of_text}
use Rattle.explain_recover.specs.Recovery.{SaysRecovery, finished, recovery_text}

pub due_said : (content : Option FileMap) (found : Option (List SourceFile)) (writes : List SourceFile) (explanation : Explanation)
    → found ≡ Some writes
    → IfSome content (λ held. IsDue held found)
    → ((files : List SourceFile) → writes ≡ plan_writes files → explanation ≡ explanation_of_text Done (recovery_text files))
    → IfSome content (λ held. SaysRecovery held explanation)
due_said None found writes explanation e h said = tt
due_said (Some held) found writes explanation e h said = by found e h where
  by : (found : Option (List SourceFile)) → found ≡ Some writes → IsDue held found → SaysRecovery held explanation
  by None e (rests closed) = cc
  by (Some ws) e (due files opened plan) = finished files opened plan (said files (one e)) where
    one : Some (plan_writes files) ≡ Some writes → writes ≡ plan_writes files
    one e = cc
