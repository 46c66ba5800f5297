-- The ranges of places (Language Server Protocol 3.17, "Location" and "Document Highlight"; own where it says the word of a
-- token).
use Rattle.std.specs.Prelude.{ℕ, ◌-◌, ◌==◌, ◌||◌, List, [], Bool, not, Option, None, Some, filter, length, map, slice_get, string_bytes}
use Rattle.report.specs.Pieces.{Word}
use Rattle.rotor_base.specs.declared.place.Place.{Place}
use Rattle.text_places.specs.declared.counting.Counting.{Counting}
use Rattle.source_edits.specs.declared.ranges.Span.{Span}
use Rattle.source_edits.specs.declared.ranges.TextRange.{TextRange}
use Rattle.source_edits.specs.Ranges.{range_of}
use Rattle.ml_lexer.specs.Lexed.{Lexeme}
use Rattle.refusal_words.specs.Cut.{Cut}
use Rattle.refusal_words.specs.Stretches.{word_end, word_start}
use Rattle.value_at.specs.declared.footprint_places.ValuePlace.{ValuePlace}
use Rattle.lsp_answers.specs.declared.answer.Highlight.{Highlight}
use Rattle.lsp_answers.specs.declared.answer.Location.{Location}
use Rattle.document_scene.specs.Scene.{Telling, uri_at}

abbrev pub span_of : ℕ → ℕ → Span
span_of start end = record { start = start; end = end }

-- the span of the word of a lexeme: of a label, its name alone; without a lexeme, the end of the source
abbrev pub found_span : Cut → Option Lexeme → Span
found_span cut (Some x) = span_of (word_start x) (word_end x)
found_span cut None = span_of (length cut.bytes) (length cut.bytes)

-- the bytes of a source; without one, none
abbrev pub bytes_among : Option Cut → List ℕ
bytes_among None = []
bytes_among (Some cut) = cut.bytes

-- the span of a word of a source, by the number of its lexeme
abbrev pub span_among : Option Cut → ℕ → Span
span_among None number = span_of 0 0
span_among (Some cut) number = found_span cut (slice_get cut.lexemes (number - 1))

abbrev pub range_among : Counting → Option Cut → ℕ → TextRange
range_among counting cut number = range_of counting (bytes_among cut) (span_among cut number)

-- the range of the word at a place
abbrev pub range_at : Telling → Place → TextRange
range_at t p = range_among t.counting (slice_get t.cuts p.file) p.token

-- ---- locations and highlights

-- a location by its URI's bytes and its range
abbrev pub location_words : Location → Word × TextRange
location_words l = (string_bytes l.uri, l.range)

abbrev pub location_at : Telling → Place → Word × TextRange
location_at t p = (uri_at t p.file, range_at t p)

-- the declarations are wanted, or the place is none
abbrev pub is_wanted : Bool → ValuePlace → Bool
is_wanted with_declarations q = with_declarations || not q.is_declaration

-- the locations of the places that are wanted
abbrev pub locations_of : Telling → Bool → List ValuePlace → List (Word × TextRange)
locations_of t with_declarations places = map (λ q. location_at t q.at) (filter (is_wanted with_declarations) places)

abbrev pub highlight_at : Telling → ValuePlace → Highlight
highlight_at t q = record { range = range_at t q.at; is_declaration = q.is_declaration }

-- the highlights of the places in the source of a number
abbrev pub highlights_of : Telling → ℕ → List ValuePlace → List Highlight
highlights_of t file places = map (highlight_at t) (filter (λ q. q.at.file == file) places)
