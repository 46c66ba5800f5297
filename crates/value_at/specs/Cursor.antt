-- The token of a cursor (own).
use Rattle.std.specs.Prelude.{ℕ, suc, List, Bool, ◌==◌, ◌&&◌, Option, option_map}
use Rattle.std.specs.List.{position}
use Rattle.ml_lexer.specs.Lexed.{Lexeme}
use Rattle.shape_core.specs.Shape.{or_else}
use Rattle.rename_model.specs.Target.{holds}
use Rattle.rename_parts.specs.Hits.{is_lower}

-- a lower-case word holds the byte at an offset
abbrev pub is_word_over : ℕ → Lexeme → Bool
is_word_over offset x = is_lower x.class && holds offset x

-- a lower-case word ends before it
abbrev pub is_word_before : ℕ → Lexeme → Bool
is_word_before offset x = is_lower x.class && x.end == offset

-- the position of the token of a cursor: of the word that holds the byte, else of the word that ends before it, else of the
-- lexeme that holds the byte
abbrev pub cursor_position : ℕ → List Lexeme → Option ℕ
cursor_position offset xs = or_else (position (is_word_over offset) xs) (or_else (position (is_word_before offset) xs) (position (holds offset) xs))

-- its number, from 1
abbrev pub token_at : ℕ → List Lexeme → Option ℕ
token_at offset xs = option_map suc (cursor_position offset xs)
