-- Where the item begins that is not read (own; the OCaml manual, "Compilation units" and "Expressions").
use Rattle.std.specs.Prelude.{ℕ, ◌+◌, ◌-◌, ◌==◌, ◌&&◌, List, [], ◌∷◌, Bool, false, Option, Some, None, bytes_eq, codes, cond, length, slice_get, take}
use Rattle.report.specs.Pieces.{Word}
use Rattle.ml_lexer.specs.Lexed.{Lexeme}
use Rattle.ml_syntax.specs.RespelledFile.{lexeme_toks}
use Rattle.ml_trees.specs.Tok.{Tok}
use Rattle.parse_module.specs.declared.files.FileKind.{FileKind}
use Rattle.parse_module.specs.declared.files.FileKind.TheVariants as kind
use Rattle.module_reading.specs.ModReading.{body_start, face_start}

-- the tokens behind the items with which lexemes begin, read one after another, each as long as it can be read
abbrev pub behind_items : FileKind → List Lexeme → List Tok
behind_items kind.Body xs = (body_start (length xs + 1) (lexeme_toks 1 xs)).1
behind_items kind.Face xs = (face_start (length xs + 1) (lexeme_toks 1 xs)).1

-- the place, from 0, of the first lexeme that none of these items covers
abbrev pub items_end : FileKind → List Lexeme → ℕ
items_end k xs = length xs - length (behind_items k xs)

-- one more word before some with so many `in` that no `let` takes
abbrev pub ins_before : Word → ℕ → ℕ
ins_before word n = cond (bytes_eq word (codes "let")) (n - 1) (cond (bytes_eq word (codes "in")) (n + 1) n)

-- how many `in` there are among lexemes that no `let` among them takes
abbrev pub open_ins : List Lexeme → ℕ
open_ins [] = 0
open_ins (x ∷ xs) = ins_before x.bytes (open_ins xs)

-- how many lexemes there are from the last `let` on that has no `in` among them; without one, 0
abbrev pub last_let : List Lexeme → ℕ
last_let [] = 0
last_let (x ∷ xs) = cond (last_let xs == 0 && bytes_eq x.bytes (codes "let") && open_ins xs == 0) (length xs + 1) (last_let xs)

abbrev pub is_in : Option Lexeme → Bool
is_in None = false
is_in (Some x) = bytes_eq x.bytes (codes "in")

-- the place where an item begins that is not read, by the place behind the items: if an `in` is there, its `let`
abbrev pub front_at : List Lexeme → ℕ → ℕ
front_at xs end = end - cond (is_in (slice_get xs end)) (last_let (take end xs)) 0

-- the place where the item begins that is not read
abbrev pub front_of : FileKind → List Lexeme → ℕ
front_of k xs = front_at xs (items_end k xs)
