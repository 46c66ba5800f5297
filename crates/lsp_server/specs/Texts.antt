-- The texts of responses (JSON-RPC 2.0, "Response object"; the sentences are own).
use Rattle.std.specs.Prelude.{ℕ, List, Option, Some, None, Result, Ok, Err, codes}
use Rattle.serde_json.specs.Data.{Data, null, string}
use Rattle.serde_json.specs.Written.{compact_text}
use Rattle.requests.specs.declared.client.Encoding.TheVariants as asked
use Rattle.requests.specs.declared.client.Encoding.{Encoding as AskedEncoding}
use Rattle.requests.specs.declared.message.Id.{Id}
use Rattle.requests.specs.declared.message.Id.TheVariants.{Number, Text}
use Rattle.lsp_session.specs.declared.task.Fault.{Fault}
use Rattle.lsp_session.specs.declared.task.Fault.TheVariants.{NotJson, Invalid, NotStarted, UnknownMethod, BadParameters, TextsLost}
use Rattle.lsp_session.specs.declared.task.Reply.{Reply}
use Rattle.lsp_session.specs.declared.task.Reply.TheVariants.{Started, Null, Failed}
use Rattle.lsp_answers.specs.Json.{answer_data, code_number, failed_of, failure_data, failure_of, integer_data, started_data, succeeded_of}
use Rattle.lsp_answers.specs.declared.answer.Answer.{Answer}
use Rattle.lsp_answers.specs.declared.answer.Encoding.{Encoding}
use Rattle.lsp_answers.specs.declared.answer.Encoding.TheVariants.{Utf8, Utf16}
use Rattle.lsp_answers.specs.declared.answer.ErrorCode.{ErrorCode}
use Rattle.lsp_answers.specs.declared.answer.ErrorCode.TheVariants as code
use Rattle.lsp_answers.specs.declared.answer.Failure.{Failure}

-- the JSON of an id; of a message without one, null
abbrev pub id_value : Option (Id (List ℕ)) → Data
id_value None = null
id_value (Some (Number number)) = integer_data number
id_value (Some (Text text)) = string text

-- the response with an id that gives a reply
abbrev pub answered_text : Option (Id (List ℕ)) → Result Answer Failure → List ℕ
answered_text id (Ok answer) = compact_text (succeeded_of (id_value id) (answer_data answer))
answered_text id (Err failure) = compact_text (failed_of (failure_data failure) (id_value id))

-- the response with an id that fails with a sentence alone
abbrev pub failed_text : Option (Id (List ℕ)) → ErrorCode → List ℕ → List ℕ
failed_text id kind sentence = compact_text (failed_of (failure_of (code_number kind) (string sentence)) (id_value id))

-- how columns count, as the server says it
abbrev pub encoding_for : AskedEncoding → Encoding
encoding_for asked.Utf8 = Utf8
encoding_for asked.Utf16 = Utf16

-- the code of a fault
abbrev pub code_for : Fault → ErrorCode
code_for NotJson = code.Parse
code_for Invalid = code.InvalidRequest
code_for NotStarted = code.NotInitialized
code_for UnknownMethod = code.UnknownMethod
code_for BadParameters = code.BadParameters
code_for TextsLost = code.Refused

-- the sentence of a fault
abbrev pub sentence_for : Fault → List ℕ
sentence_for NotJson = codes "the message is no JSON"
sentence_for Invalid = codes "the message is no request that can be made now"
sentence_for NotStarted = codes "the request is made before initialize"
sentence_for UnknownMethod = codes "the server does not answer this method"
sentence_for BadParameters = codes "the parameters are not those of the method"
sentence_for TextsLost = codes "an earlier message could not be read, so the texts of the editor are not known here; restart the server"

-- the response with an id that says what a session replies
abbrev pub said_text : Option (Id (List ℕ)) → Reply → List ℕ
said_text id (Started client) =
    compact_text (succeeded_of (id_value id) (started_data (encoding_for client.encoding) client.prepare_support))
said_text id Null = compact_text (succeeded_of (id_value id) null)
said_text id (Failed fault) = failed_text id (code_for fault) (sentence_for fault)

-- the response of a message for which there is no memory
abbrev pub starved_text : Option (Id (List ℕ)) → List ℕ
starved_text id = failed_text id code.Internal (codes "out of memory")

-- the response of an input in which no message can be found
abbrev pub unreadable_text : List ℕ
unreadable_text = failed_text None code.Parse (codes "the input has no message here")
