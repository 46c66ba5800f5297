-- The edits of documents, in order (Language Server Protocol 3.17, "WorkspaceEdit"; own where it says the order).
use Rattle.std.specs.Prelude.{ℤ, ℕ, ◌==◌, ◌&&◌, List, ◌++◌, Bool, not, Option, filter, map, string_bytes}
use Rattle.std.specs.Option.{is_some}
use Rattle.report.specs.Pieces.{Word}
use Rattle.source_edits.specs.declared.text_edit.TextEdit.{TextEdit}
use Rattle.renaming_edits.specs.declared.renaming.FileEdits.{FileEdits}
use Rattle.lsp_answers.specs.declared.answer.DocumentEdits.{DocumentEdits}
use Rattle.document_scene.specs.Scene.{Telling, document_at, uri_at, version_at}

-- the edits of a document by its URI's bytes and its version
abbrev pub document_words : DocumentEdits → Word × Option ℤ × List TextEdit
document_words d = (string_bytes d.uri, d.version, d.edits.items)

-- the edits of a source, as those of its document
abbrev pub document_of : Telling → FileEdits → Word × Option ℤ × List TextEdit
document_of t e = (uri_at t e.file, version_at t e.file, e.edits.items)

-- the source is that of the request; or it is another one that the editor holds; or it is neither
abbrev pub is_asked : ℕ → FileEdits → Bool
is_asked asked e = e.file == asked

abbrev pub is_held : Telling → FileEdits → Bool
is_held t e = is_some (document_at t e.file)

abbrev pub is_other : Telling → ℕ → FileEdits → Bool
is_other t asked e = not (is_asked asked e) && is_held t e

abbrev pub is_rest : Telling → ℕ → FileEdits → Bool
is_rest t asked e = not (is_asked asked e) && not (is_held t e)

-- the edits of the source of the request first, then those of the other ones that the editor holds, then the rest
abbrev pub in_turn : Telling → ℕ → List FileEdits → List FileEdits
in_turn t asked list = filter (is_asked asked) list ++ (filter (is_other t asked) list ++ filter (is_rest t asked) list)

abbrev pub documents_of : Telling → ℕ → List FileEdits → List (Word × Option ℤ × List TextEdit)
documents_of t asked list = map (document_of t) (in_turn t asked list)
