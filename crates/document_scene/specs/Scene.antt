-- What an answer is made from (own).
use Rattle.std.specs.Prelude.{ℤ, List, [], ℕ, Option, None, Some, map, slice_get, string_bytes}
use Rattle.std.specs.FinMap.{get}
use Rattle.report.specs.Pieces.{Word}
use Rattle.rotor_base.specs.declared.source.SourceFile.{SourceFile}
use Rattle.text_places.specs.declared.counting.Counting.{Counting}
use Rattle.document_uris.specs.Written.{written_uri}
use Rattle.open_documents.specs.Documents.{DocumentMap, documents}
use Rattle.open_documents.specs.declared.document.Document.{Document}
use Rattle.refusal_words.specs.Cut.{Cut, view_cut}
use Rattle.document_scene.specs.declared.scene.Scene.{Scene}

-- a folder: its path, the documents that the editor holds there, its sources with their lexemes, and how columns count
pub record Telling : Type 0 where
  pub folder : Word
  pub held : DocumentMap
  pub sources : List SourceFile
  pub cuts : List Cut
  pub counting : Counting

abbrev pub view_scene : Scene → Telling
view_scene s = record {
  folder = s.folder.now;
  held = documents s.held.now;
  sources = s.sources.now;
  cuts = map view_cut s.cuts.now;
  counting = s.counting;
}

-- the name of the source of a number; if there is none, no bytes
abbrev pub name_from : Option SourceFile → Word
name_from None = []
name_from (Some source) = source.name

abbrev pub name_at : List SourceFile → ℕ → Word
name_at sources file = name_from (slice_get sources file)

-- the document that the editor holds for the source of a number, if it holds one
abbrev pub document_at : Telling → ℕ → Option Document
document_at t file = get t.held (name_at t.sources file)

-- the URI of a document that is held is its own; the others have the one that is written for the file
abbrev pub uri_from : Telling → ℕ → Option Document → Word
uri_from t file None = written_uri t.folder (name_at t.sources file)
uri_from t file (Some document) = string_bytes document.uri

abbrev pub uri_at : Telling → ℕ → Word
uri_at t file = uri_from t file (document_at t file)

-- the version that the editor said of a document that it holds
abbrev pub version_from : Option Document → Option ℤ
version_from None = None
version_from (Some document) = document.version

abbrev pub version_at : Telling → ℕ → Option ℤ
version_at t file = version_from (document_at t file)
