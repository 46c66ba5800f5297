-- Replies that are failures, and replies without one (Language Server Protocol 3.17, "Response Message"; own where it says
-- the sentences).
use Rattle.std.specs.Prelude.{◌≡◌, [], ◌∷◌, Result, Ok, Err, codes}
use Rattle.report.specs.Pieces.{Word, join}
use Rattle.lsp_answers.specs.declared.answer.Answer.{Answer}
use Rattle.lsp_answers.specs.declared.answer.Answer.TheVariants.{Nothing}
use Rattle.lsp_answers.specs.declared.answer.ErrorCode.TheVariants.{BadParameters, Refused}
use Rattle.lsp_answers.specs.declared.answer.Failure.{Failure}
use Rattle.requests.specs.declared.asked.Query.{Query}
use Rattle.requests.specs.declared.asked.Query.TheVariants as query
use Rattle.query_failures.specs.Failure.{IsSaid}

-- the reply is such a failure
abbrev pub Fails : (Failure → Type 0) → Result Answer Failure → Type 0
Fails fails (Ok answer) = ⊥
Fails fails (Err failure) = fails failure

-- the reply is such an answer
abbrev pub Succeeds : (Answer → Type 0) → Result Answer Failure → Type 0
Succeeds answers (Ok answer) = answers answer
Succeeds answers (Err failure) = ⊥

-- A query is refused with such a failure. Highlights, which an editor asks at each move of the cursor, are none.
abbrev pub IsRefused : Query Word → (Failure → Type 0) → Result Answer Failure → Type 0
IsRefused query.DocumentHighlight fails reply = reply ≡ Ok Nothing
IsRefused asked fails reply = Fails fails reply

-- ---- sentences

abbrev pub no_source_text : Word
no_source_text = codes "this document is no .ml or .mli file of a folder"

abbrev pub unknown_text : Word → Word
unknown_text name =
    join (codes "the editor's text of " ∷ name ∷ codes " is not known here; close the file and open it again" ∷ [])

abbrev pub unread_text : Word
unread_text = codes "the folder of this file cannot be read"

abbrev pub lacking_text : Word → Word
lacking_text name = join (name ∷ codes " is not in its folder" ∷ [])

abbrev pub no_character_text : Word
no_character_text = codes "the position names no character of the document"

abbrev pub no_name_text : Word
no_name_text = codes "newName is wanted"

abbrev pub no_text_text : Word → Word
no_text_text name =
    join (name ∷ codes " is not UTF-8, so an editor cannot be given its changes; `rotor rename` can make them" ∷ [])

-- a query is refused with a sentence alone
abbrev pub IsRefusedAs : Query Word → Word → Result Answer Failure → Type 0
IsRefusedAs asked text reply = IsRefused asked (IsSaid Refused text) reply

-- its parameters are bad
abbrev pub IsBad : Word → Result Answer Failure → Type 0
IsBad text reply = Fails (IsSaid BadParameters text) reply
