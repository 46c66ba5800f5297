-- The edits that give words of a source a new word (own).
use Rattle.std.specs.Prelude.{ℕ, List, IsTrue, slice_range}
use Rattle.std.specs.List.{list_all}
use Rattle.rotor_base.specs.Name.{is_identifier_byte}
use Rattle.edits.specs.declared.Edit.{Edit}
use Rattle.text_places.specs.declared.counting.Counting.{Counting}
use Rattle.source_edits.specs.declared.ranges.Span.{Span}
use Rattle.source_edits.specs.declared.text_edit.TextEdit.{TextEdit}
use Rattle.source_edits.specs.Ranges.{range_of}

-- all bytes of a span are letters, digits, `_` or `'`
abbrev pub IsWord : List ℕ → Span → Type 0
IsWord source span = IsTrue (list_all is_identifier_byte (slice_range source span.start span.end))

-- the span and the word that replaces it, by bytes and as an editor takes it
abbrev pub edit_of : List ℕ → Span → Edit
edit_of new span = record { start = span.start; end = span.end; text = new }

abbrev pub text_edit_of : Counting → List ℕ → List ℕ → Span → TextEdit
text_edit_of counting source new span = record { range = range_of counting source span; text = new }
