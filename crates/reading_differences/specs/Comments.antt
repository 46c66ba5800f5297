-- Quotes directly behind a name, in comments and attributes: OCaml skips the name with its quotes, and the lexemes of the
-- book let a character begin there (the OCaml manual, "Lexical conventions").
use Rattle.std.specs.Prelude.{ℕ, zero, suc, ◌+◌, ◌-◌, List, [], ◌∷◌, ◌++◌, Bool, ◌&&◌, is_some, cond, drop, take}
use Rattle.rotor_base.specs.Name.{is_identifier_byte}
use Rattle.rotor_base.specs.declared.place.Place.{Place}
use Rattle.ml_lexer.specs.Lexed.{Lexeme}
use Rattle.ml_lexer.specs.Quotes.{char_length}
use Rattle.ml_lexer.specs.Trivia.{plain_part, size_of}
use Rattle.reading_differences.specs.declared.difference.Difference.{Difference}
use Rattle.reading_differences.specs.declared.difference.Parting.TheVariants.{Comment}

-- a Char begins here
abbrev pub begins_char : List ℕ → Bool
begins_char bytes = is_some (char_length bytes)

abbrev pub quote_at : Place → ℕ → Difference
quote_at at offset = record { at = at; how = Comment offset }

-- the quote that begins here, behind a byte, if it follows a name and begins a Char
abbrev pub quote_here : Place → ℕ → ℕ → List ℕ → List Difference
quote_here at before offset bytes = cond (is_identifier_byte before && begins_char bytes) (quote_at at offset ∷ []) []

-- The quotes that directly follow an identifier character and begin a Char, in bytes that begin at this offset, behind a
-- byte. The next `skip` bytes belong to a Text, a Quoted or a Char that has begun.
unfoldable pub quotes_in : Place → ℕ → ℕ → ℕ → List ℕ → List Difference
quotes_in at before skip offset [] = []
quotes_in at before (suc skip) offset (c ∷ bytes) = quotes_in at c skip (offset + 1) bytes
quotes_in at before zero offset (c ∷ bytes) =
    quote_here at before offset (c ∷ bytes) ++ quotes_in at c (size_of (plain_part (c ∷ bytes)) - 1) (offset + 1) bytes

-- those before each lexeme of a source and behind the last one, from an offset on; so many lexemes end before it
abbrev pub comments_in : ℕ → List ℕ → ℕ → ℕ → List Lexeme → List Difference
comments_in file bytes number from [] = quotes_in (record { file = file; token = number }) 0 0 from (drop from bytes)
comments_in file bytes number from (x ∷ xs) =
    quotes_in (record { file = file; token = number }) 0 0 from (take (x.start - from) (drop from bytes))
    ++ comments_in file bytes (number + 1) x.end xs
