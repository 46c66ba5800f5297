-- Queries that are refused.
use Rattle.std.proofs.Common.{◌≡◌, ℕ, List, Result, Ok, Err, refl, subst, sym}
use Rattle.std.specs.Borrow.{Bor}
use Rattle.lsp_answers.specs.declared.answer.Answer.{Answer}
use Rattle.lsp_answers.specs.declared.answer.Answer.TheVariants.{Nothing}
use Rattle.lsp_answers.specs.declared.answer.Failure.{Failure}
use Rattle.requests.specs.Asked.{query_words}
use Rattle.requests.specs.declared.asked.Query.{Query}
use Rattle.requests.specs.declared.asked.Query.TheVariants as query
use Rattle.document_answers.specs.Refused.{Fails, IsRefused}

-- a query that asks no highlights fails
pub refused_by : (asked : Query (Bor (List ℕ))) (fails : Failure → Type 0) (failure : Failure) → (asked ≡ query.DocumentHighlight → ⊥)
    → fails failure → IsRefused (query_words asked) fails (Err failure)
refused_by query.PrepareRename fails failure other h = h
refused_by (query.Rename name) fails failure other h = h
refused_by (query.References with_declarations) fails failure other h = h
refused_by query.Definition fails failure other h = h
refused_by query.DocumentHighlight fails failure other h = absurd (other refl)

-- highlights are none
pub refused_silently : (asked : Query (Bor (List ℕ))) (fails : Failure → Type 0) → asked ≡ query.DocumentHighlight
    → IsRefused (query_words asked) fails (Ok Nothing)
refused_silently query.PrepareRename fails e = cc
refused_silently (query.Rename name) fails e = cc
refused_silently (query.References with_declarations) fails e = cc
refused_silently query.Definition fails e = cc
refused_silently query.DocumentHighlight fails e = refl

failed_as : (fails : Failure → Type 0) (failure : Failure) (reply : Result Answer Failure) → Fails (λ given. given ≡ failure) reply → fails failure
    → Fails fails reply
failed_as fails failure (Ok answer) is h = is
failed_as fails failure (Err given) is h = subst fails (sym is) h

-- a query that is refused with a failure is refused as that failure is
pub refused_as : (asked : Query (List ℕ)) (fails : Failure → Type 0) (failure : Failure) (reply : Result Answer Failure)
    → IsRefused asked (λ given. given ≡ failure) reply → fails failure → IsRefused asked fails reply
refused_as query.PrepareRename fails failure reply is h = failed_as fails failure reply is h
refused_as (query.Rename name) fails failure reply is h = failed_as fails failure reply is h
refused_as (query.References with_declarations) fails failure reply is h = failed_as fails failure reply is h
refused_as query.Definition fails failure reply is h = failed_as fails failure reply is h
refused_as query.DocumentHighlight fails failure reply is h = is
