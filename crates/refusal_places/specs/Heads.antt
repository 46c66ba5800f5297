-- The heads of the paths in lexemes (the OCaml manual, "Names" and "Compilation units").
use Rattle.std.specs.Prelude.{ℕ, ◌+◌, List, [], length}
use Rattle.rotor_base.specs.Unit.{unit_of}
use Rattle.ml_lexer.specs.Lexed.{Lexeme}
use Rattle.ml_syntax.specs.RespelledFile.{lexeme_toks}
use Rattle.parse_module.specs.declared.files.FileKind.{FileKind}
use Rattle.parse_module.specs.declared.files.FileKind.TheVariants as kind
use Rattle.module_reading.specs.ModReading.{body_start, face_start}
use Rattle.unit_heads.specs.Heads.{items_heads, sig_items_heads}
use Rattle.need_chains.specs.declared.unit_heads.UnitHeads.{UnitHeads}
use Rattle.project_reading.specs.Source.{kind_of_source}
use Rattle.refusal_words.specs.Cut.{Cut}

-- those of the items with which lexemes begin, read one after another; of a source that is read, these are all its
-- items
abbrev pub heads_of : FileKind → List Lexeme → List (List ℕ)
heads_of kind.Body xs = items_heads [] (body_start (length xs + 1) (lexeme_toks 1 xs)).0
heads_of kind.Face xs = sig_items_heads [] (face_start (length xs + 1) (lexeme_toks 1 xs)).0

-- the unit of a source, and the heads in the source
abbrev pub cut_heads : Cut → UnitHeads
cut_heads cut = record { unit = unit_of cut.name; heads = heads_of (kind_of_source cut.name) cut.lexemes }
