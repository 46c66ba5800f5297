-- A document that an editor holds (Language Server Protocol 3.17, "Text Document Synchronization"; own where it says a
-- part of a change).
use Rattle.std.specs.Prelude.{ℤ, List, [], ℕ, Bool, true, false, String, string_bytes, Option, Some, None}
use Rattle.std.specs.Option.{unwrap_or}
use Rattle.std.specs.declared.alloc.Global.{Global}
use Rattle.open_documents.specs.declared.document.Document.{Document}
use Rattle.open_documents.specs.declared.document.OpenText.{OpenText}
use Rattle.open_documents.specs.declared.document.OpenText.TheVariants.{Known, Unknown}

-- the text is known
abbrev pub is_known_text : OpenText → Bool
is_known_text (Known text) = true
is_known_text Unknown = false

abbrev pub is_known : Document → Bool
is_known document = is_known_text document.text

-- the bytes of a text; none if it is not known
abbrev pub text_bytes : OpenText → List ℕ
text_bytes (Known text) = string_bytes text
text_bytes Unknown = []

-- a document after a change: its new version, and the text of the change if it has one
abbrev pub changed : Document → Option ℤ → Option OpenText → Document
changed old version text = record { uri = old.uri; version = version; text = unwrap_or text old.text }

-- the same of a document that may not be open: if it is not, its URI is that of the change, and its text is known from
-- the change alone
abbrev pub changed_from : Option Document → String Global → Option ℤ → Option OpenText → Document
changed_from None uri version text = record { uri = uri; version = version; text = unwrap_or text Unknown }
changed_from (Some old) uri version text = changed old version text
