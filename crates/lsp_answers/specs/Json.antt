-- The JSON of the server's answers (JSON-RPC 2.0, "Response object"; Language Server Protocol 3.17).
use Rattle.std.specs.Prelude.{ℕ, ℤ, negsuc, List, [], ◌∷◌, Bool, true, false, map, codes, Option, Some, None, Result, Ok, Err, string_bytes}
use Rattle.std.specs.Prelude.{if◌then◌else◌}
use Rattle.serde_json.specs.Data.{Data, null, boolean, string, array, object, number, unsigned, Members, member, no_members, put}
use Rattle.serde_json.specs.Find.{of_integer}
use Rattle.serde_json.specs.View.{items_of, view}
use Rattle.serde_json.specs.declared.value.Value.{Value}
use Rattle.serde_json.specs.Written.{compact_text}
use Rattle.text_places.specs.declared.counting.Position.{Position}
use Rattle.source_edits.specs.declared.ranges.TextRange.{TextRange}
use Rattle.source_edits.specs.declared.text_edit.TextEdit.{TextEdit}
use Rattle.report.specs.Json.{text_data}
use Rattle.lsp_answers.specs.declared.answer.Id.{Id}
use Rattle.lsp_answers.specs.declared.answer.Id.TheVariants.{Number, Text}
use Rattle.lsp_answers.specs.declared.answer.Encoding.{Encoding}
use Rattle.lsp_answers.specs.declared.answer.Encoding.TheVariants.{Utf8, Utf16}
use Rattle.lsp_answers.specs.declared.answer.ErrorCode.{ErrorCode}
use Rattle.lsp_answers.specs.declared.answer.ErrorCode.TheVariants as code
use Rattle.lsp_answers.specs.declared.answer.Failure.{Failure}
use Rattle.lsp_answers.specs.declared.answer.Location.{Location}
use Rattle.lsp_answers.specs.declared.answer.Highlight.{Highlight}
use Rattle.lsp_answers.specs.declared.answer.DocumentEdits.{DocumentEdits}
use Rattle.lsp_answers.specs.declared.answer.Answer.{Answer}
use Rattle.lsp_answers.specs.declared.answer.Answer.TheVariants as answer

abbrev pub count_data : ℕ → Data
count_data n = number (unsigned n)

abbrev pub integer_data : ℤ → Data
integer_data z = number (of_integer z)

-- ---- places

abbrev pub position_data : Position → Data
position_data p = object (member (codes "character") (count_data p.column) (member (codes "line") (count_data p.line) no_members))

abbrev pub range_of : Data → Data → Data
range_of end start = object (member (codes "end") end (member (codes "start") start no_members))

abbrev pub range_data : TextRange → Data
range_data r = range_of (position_data r.end) (position_data r.start)

abbrev pub location_of : Data → Data → Data
location_of range uri = object (member (codes "range") range (member (codes "uri") uri no_members))

abbrev pub location_data : Location → Data
location_data l = location_of (range_data l.range) (string (string_bytes l.uri))

-- 3 for a place that is written, and 2 for one that is read
abbrev pub kind_of : Highlight → ℕ
kind_of h = if h.is_declaration then 3 else 2

abbrev pub highlight_of : ℕ → Data → Data
highlight_of kind range = object (member (codes "kind") (count_data kind) (member (codes "range") range no_members))

abbrev pub highlight_data : Highlight → Data
highlight_data h = highlight_of (kind_of h) (range_data h.range)

-- ---- edits

abbrev pub word_of : Data → Data → Data
word_of placeholder range = object (member (codes "placeholder") placeholder (member (codes "range") range no_members))

abbrev pub word_data : TextRange → List ℕ → Data
word_data range word = word_of (text_data word) (range_data range)

abbrev pub edit_of : Data → Data → Data
edit_of text range = object (member (codes "newText") text (member (codes "range") range no_members))

abbrev pub edit_data : TextEdit → Data
edit_data e = edit_of (text_data e.text) (range_data e.range)

abbrev pub edits_data : List TextEdit → Data
edits_data es = array (items_of (map edit_data es))

-- the edits of documents under their URIs, beside members that are there
abbrev pub changes_members : Members → List DocumentEdits → Members
changes_members found [] = found
changes_members found (d ∷ ds) = changes_members (put (string_bytes d.uri) (edits_data d.edits.items) found) ds

abbrev pub changes_of : Data → Data
changes_of changes = object (member (codes "changes") changes no_members)

-- the version of a document that a client has open; of another, null
abbrev pub version_data : Option ℤ → Data
version_data None = null
version_data (Some version) = integer_data version

abbrev pub identified_data : Data → Data → Data
identified_data uri version = object (member (codes "uri") uri (member (codes "version") version no_members))

abbrev pub document_of : Data → Data → Data
document_of edits document = object (member (codes "edits") edits (member (codes "textDocument") document no_members))

abbrev pub document_data : DocumentEdits → Data
document_data d = document_of (edits_data d.edits.items) (identified_data (string (string_bytes d.uri)) (version_data d.version))

abbrev pub versioned_of : Data → Data
versioned_of documents = object (member (codes "documentChanges") documents no_members)

-- ---- what the server can do

abbrev pub encoding_text : Encoding → List ℕ
encoding_text Utf8 = codes "utf-8"
encoding_text Utf16 = codes "utf-16"

abbrev pub rename_data : Bool → Data
rename_data true = object (member (codes "prepareProvider") (boolean true) no_members)
rename_data false = boolean true

abbrev pub sync_data : Data
sync_data = object (member (codes "change") (count_data 1) (member (codes "openClose") (boolean true) no_members))

abbrev pub capabilities_data : Data → Data → Data → Data
capabilities_data encoding rename sync =
    object (member (codes "definitionProvider") (boolean true)
    (member (codes "documentHighlightProvider") (boolean true)
    (member (codes "positionEncoding") encoding
    (member (codes "referencesProvider") (boolean true)
    (member (codes "renameProvider") rename
    (member (codes "textDocumentSync") sync no_members))))))

abbrev pub server_data : Data
server_data = object (member (codes "name") (string (codes "rotor_lsp")) (member (codes "version") (string (codes "1")) no_members))

abbrev pub started_of : Data → Data → Data
started_of capabilities server = object (member (codes "capabilities") capabilities (member (codes "serverInfo") server no_members))

abbrev pub started_data : Encoding → Bool → Data
started_data encoding prepares = started_of (capabilities_data (string (encoding_text encoding)) (rename_data prepares) sync_data) server_data

-- ---- responses

abbrev pub answer_data : Answer → Data
answer_data answer.Nothing = null
answer_data (answer.Started encoding prepares) = started_data encoding prepares
answer_data (answer.Word range word) = word_data range word
answer_data (answer.Changes documents) = changes_of (object (changes_members no_members documents.items))
answer_data (answer.VersionedChanges documents) = versioned_of (array (items_of (map document_data documents.items)))
answer_data (answer.Definition location) = location_data location
answer_data (answer.References locations) = array (items_of (map location_data locations.items))
answer_data (answer.Highlights highlights) = array (items_of (map highlight_data highlights.items))

-- the numbers of the error codes
abbrev pub code_number : ErrorCode → ℤ
code_number code.Parse = negsuc 32699
code_number code.InvalidRequest = negsuc 32599
code_number code.UnknownMethod = negsuc 32600
code_number code.BadParameters = negsuc 32601
code_number code.Internal = negsuc 32602
code_number code.NotInitialized = negsuc 32001
code_number code.Refused = negsuc 32802

abbrev pub failure_of : ℤ → Data → Data
failure_of z message = object (member (codes "code") (integer_data z) (member (codes "message") message no_members))

abbrev pub noted_of : ℤ → Data → Data → Data
noted_of z noted message =
    object (member (codes "code") (integer_data z) (member (codes "data") noted (member (codes "message") message no_members)))

abbrev pub failed_with : ErrorCode → Option Data → Data → Data
failed_with kind None message = failure_of (code_number kind) message
failed_with kind (Some noted) message = noted_of (code_number kind) noted message

abbrev pub noted_data : Option Value → Option Data
noted_data None = None
noted_data (Some value) = Some (view value)

abbrev pub failure_data : Failure → Data
failure_data f = failed_with f.code (noted_data f.«data») (string (string_bytes f.message))

abbrev pub id_data : Id → Data
id_data (Number z) = integer_data z
id_data (Text text) = string (string_bytes text)

abbrev pub optional_id_data : Option Id → Data
optional_id_data None = null
optional_id_data (Some id) = id_data id

abbrev pub succeeded_of : Data → Data → Data
succeeded_of id answer =
    object (member (codes "id") id (member (codes "jsonrpc") (string (codes "2.0")) (member (codes "result") answer no_members)))

abbrev pub failed_of : Data → Data → Data
failed_of error id = object (member (codes "error") error (member (codes "id") id (member (codes "jsonrpc") (string (codes "2.0")) no_members)))

-- the response with an id, or with none
abbrev pub response_data : Option Id → Result Answer Failure → Data
response_data id (Ok answer) = succeeded_of (optional_id_data id) (answer_data answer)
response_data id (Err failure) = failed_of (failure_data failure) (optional_id_data id)

abbrev pub response_text : Option Id → Result Answer Failure → List ℕ
response_text id reply = compact_text (response_data id reply)
