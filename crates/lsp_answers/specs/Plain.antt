-- Replies whose numbers are integers (own).
use Rattle.std.specs.Prelude.{◌≡◌, false, Option, Some, None, Result, Ok, Err}
use Rattle.serde_json.specs.declared.value.Value.{Value}
use Rattle.serde_json.specs.View.{view}
use Rattle.serde_json.specs.Written.{has_float}
use Rattle.lsp_answers.specs.declared.answer.Answer.{Answer}
use Rattle.lsp_answers.specs.declared.answer.Failure.{Failure}

abbrev pub IsPlainNote : Option Value → Type 0
IsPlainNote None = Unit {0}
IsPlainNote (Some value) = has_float (view value) ≡ false

-- the data of a failure has no number that is no integer
abbrev pub IsPlain : Result Answer Failure → Type 0
IsPlain (Ok answer) = Unit {0}
IsPlain (Err failure) = IsPlainNote failure.«data»
