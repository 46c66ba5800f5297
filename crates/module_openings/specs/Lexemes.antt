-- Tests of lexemes (the OCaml manual, "Lexical conventions").
use Rattle.std.specs.Prelude.{Bool, true, false, ◌||◌, codes}
use Rattle.std.specs.Str.{bytes_eq}
use Prim.Native.String.{String}
use Rattle.rotor_base.specs.declared.token.Class.{Class}
use Rattle.rotor_base.specs.declared.token.Class.TheVariants as class
use Rattle.ml_lexer.specs.Lexed.{Lexeme}

-- a lexeme is this word
abbrev pub is : String → Lexeme → Bool
is word x = bytes_eq x.bytes (codes word)

abbrev pub is_upper_class : Class → Bool
is_upper_class class.Upper = true
is_upper_class _ = false

-- a name that begins with an upper-case letter
abbrev pub is_upper : Lexeme → Bool
is_upper x = is_upper_class x.class

abbrev pub is_lower_class : Class → Bool
is_lower_class class.Lower = true
is_lower_class _ = false

-- a name that begins with a lower-case letter or `_`
abbrev pub is_lower : Lexeme → Bool
is_lower x = is_lower_class x.class

-- a word of which the class is no keyword, operator or mark
abbrev pub is_word_class : Class → Bool
is_word_class class.Keyword = false
is_word_class class.Prefix = false
is_word_class class.Infix = false
is_word_class class.Mark = false
is_word_class _ = true

-- a bracket opens, or a word that `end` or `done` closes
unfoldable pub begins_nest : Lexeme → Bool
begins_nest x =
    is "(" x || is "[" x || is "[|" x || is "[<" x || is "[>" x || is "{" x || is "begin" x || is "do" x || is "struct" x || is "sig" x

-- it closes
unfoldable pub ends_nest : Lexeme → Bool
ends_nest x = is ")" x || is "]" x || is "|]" x || is "}" x || is "end" x || is "done" x

-- an expression may end with it
unfoldable pub ends_value : Lexeme → Bool
ends_value x = is_word_class x.class || ends_nest x || is "true" x || is "false" x
