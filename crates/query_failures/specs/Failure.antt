-- Failures (JSON-RPC 2.0, "Error object"; own where it says the data).
use Rattle.std.specs.Prelude.{◌≡◌, Option, None, Some, string_bytes}
use Rattle.std.specs.Str.Lossy.{utf8_lossy}
use Rattle.serde_json.specs.Data.{Data}
use Rattle.report.specs.Pieces.{Word}
use Rattle.lsp_answers.specs.Json.{noted_data}
use Rattle.lsp_answers.specs.Plain.{IsPlainNote}
use Rattle.lsp_answers.specs.declared.answer.ErrorCode.{ErrorCode}
use Rattle.lsp_answers.specs.declared.answer.ErrorCode.TheVariants.{Refused}
use Rattle.lsp_answers.specs.declared.answer.Failure.{Failure}

-- a failure has this code, this sentence and this data, whose numbers are integers
pub record IsFailure (code : ErrorCode) (text : Word) (note : Option Data) (failure : Failure) : Type 0 where
  pub kind : failure.code ≡ code
  pub message : string_bytes failure.message ≡ utf8_lossy text
  pub noted : noted_data failure.«data» ≡ note
  pub plain : IsPlainNote failure.«data»

-- a failure with a sentence alone
abbrev pub IsSaid : ErrorCode → Word → Failure → Type 0
IsSaid code text failure = IsFailure code text None failure

-- a refusal, with what a program reads
abbrev pub IsNoted : Word → Data → Failure → Type 0
IsNoted text note failure = IsFailure Refused text (Some note) failure
