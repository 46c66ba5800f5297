-- Names of values (the OCaml manual, "Lexical conventions" and "Names").
use Rattle.std.specs.Prelude.{ℕ, List, [], ◌∷◌, Bool, false, ◌==◌, ◌&&◌, ◌||◌, not, length, nat_le, codes}
use Rattle.std.specs.Char.{is_ascii_lowercase, is_ascii_alphanumeric}
use Rattle.std.specs.List.{list_all, list_any}
use Rattle.std.specs.Str.{bytes_eq}
use Rattle.rotor_base.specs.Limits.{max_name_bytes}

-- a value name begins with a lower-case letter or `_`
abbrev pub starts_as_value_name : List ℕ → Bool
starts_as_value_name [] = false
starts_as_value_name (b ∷ bs) = is_ascii_lowercase b || b == 95

-- letters, digits, `_` and `'`
abbrev pub is_identifier_byte : ℕ → Bool
is_identifier_byte b = is_ascii_alphanumeric b || b == 95 || b == 39

-- the keywords of the language
abbrev pub keywords : List (List ℕ)
keywords =
    codes "and" ∷ codes "as" ∷ codes "assert" ∷ codes "asr" ∷ codes "begin" ∷ codes "class" ∷
    codes "constraint" ∷ codes "do" ∷ codes "done" ∷ codes "downto" ∷ codes "else" ∷ codes "end" ∷
    codes "exception" ∷ codes "external" ∷ codes "false" ∷ codes "for" ∷ codes "fun" ∷ codes "function" ∷
    codes "functor" ∷ codes "if" ∷ codes "in" ∷ codes "include" ∷ codes "inherit" ∷ codes "initializer" ∷
    codes "land" ∷ codes "lazy" ∷ codes "let" ∷ codes "lor" ∷ codes "lsl" ∷ codes "lsr" ∷ codes "lxor" ∷
    codes "match" ∷ codes "method" ∷ codes "mod" ∷ codes "module" ∷ codes "mutable" ∷ codes "new" ∷
    codes "nonrec" ∷ codes "object" ∷ codes "of" ∷ codes "open" ∷ codes "or" ∷ codes "private" ∷ codes "rec" ∷
    codes "sig" ∷ codes "struct" ∷ codes "then" ∷ codes "to" ∷ codes "true" ∷ codes "try" ∷ codes "type" ∷
    codes "val" ∷ codes "virtual" ∷ codes "when" ∷ codes "while" ∷ codes "with" ∷ []

-- one of the keywords
unfoldable pub is_keyword_word : List ℕ → Bool
is_keyword_word word = list_any (λ keyword. bytes_eq keyword word) keywords

-- a keyword, or the word `_`
abbrev pub is_reserved_word : List ℕ → Bool
is_reserved_word word = is_keyword_word word || bytes_eq word (codes "_")

-- the words that may name a value
abbrev pub is_value_name : List ℕ → Bool
is_value_name word = starts_as_value_name word && nat_le (length word) max_name_bytes && not (is_reserved_word word) && list_all is_identifier_byte
    word
