-- Rows: what begins at the front of some short texts.
use Rattle.std.proofs.Common.{◌≡◌, ℕ, refl}
use Rattle.std.specs.Prelude.{codes, replicate}
use Prim.Native.String.{String}
use Rattle.rotor_base.specs.Name.{is_keyword_word}
use Rattle.rotor_base.specs.declared.token.Class.{Class}
use Rattle.rotor_base.specs.declared.token.Class.TheVariants.{Lower, Upper, Keyword, Int, Float, Char, Text, Quoted, TypeVar, Tag, Label, Prefix}
use Rattle.rotor_base.specs.declared.token.Class.TheVariants.{Infix, Mark}
use Rattle.ml_lexer.specs.declared.piece.Piece.TheVariants.{Trivia, Lexeme, Bad, LongName}
use Rattle.ml_lexer.specs.Numbers.{number_at, digits_length, base_of, fraction_length, exponent_length, float_part_length}
use Rattle.ml_lexer.specs.Quotes.{char_length, text_end, opens_quoted, closes_quoted, quoted_end, quoted_length}
use Rattle.ml_lexer.specs.Trivia.{plain_part, comment_part, level_end, comment_length, attribute_part, attribute_length}
use Rattle.ml_lexer.specs.Pieces.{piece_at, lexeme_at, word_at, word_class, marked_word_at, label_at, operator_of, operator_at, mark_length}
use Rattle.ml_lexer.specs.Pieces.{begins_label, begins_operator, sign_at}

-- the text begins with this lexeme
abbrev Begins : String → Class → ℕ → Type 0
Begins text class n = piece_at (codes text) ≡ Lexeme class n

abbrev IsBad : String → Type 0
IsBad text = piece_at (codes text) ≡ Bad

abbrev IsTrivia : String → ℕ → Type 0
IsTrivia text n = piece_at (codes text) ≡ Trivia n

words : Begins "let x" Keyword 3 × Begins "_" Keyword 1 × Begins "_a" Lower 2 × Begins "x1'+" Lower 3 × Begins "Ab" Upper 2 × Begins "effect" Lower 6
    × Begins "'a " TypeVar 2 × Begins "`A" Tag 2 × Begins "~x:" Label 3 × Begins "?x" Label 2 × Begins "~Foo" Label 4
unfolding piece_at lexeme_at word_at word_class marked_word_at label_at operator_of operator_at mark_length begins_label begins_operator sign_at
    number_at digits_length base_of fraction_length exponent_length float_part_length char_length text_end opens_quoted closes_quoted quoted_end
    quoted_length plain_part comment_part level_end comment_length attribute_part attribute_length is_keyword_word
words = (refl, refl, refl, refl, refl, refl, refl, refl, refl, refl, refl)

numbers : Begins "1." Float 2 × Begins "1e5" Float 3 × Begins "0x1p3" Float 5 × Begins "0x1F" Int 4 × Begins "0b11" Int 4 × Begins "0o17" Int 4
    × Begins "1_0l" Int 4 × Begins "12" Int 2
unfolding piece_at lexeme_at word_at word_class marked_word_at label_at operator_of operator_at mark_length begins_label begins_operator sign_at
    number_at digits_length base_of fraction_length exponent_length float_part_length char_length text_end opens_quoted closes_quoted quoted_end
    quoted_length plain_part comment_part level_end comment_length attribute_part attribute_length is_keyword_word
numbers = (refl, refl, refl, refl, refl, refl, refl, refl)

quotes : Begins "'a'" Char 3 × Begins "'\\''" Char 4 × Begins "'\\123'" Char 6 × Begins "\"a\\\"\"" Text 5 × Begins "{x|..|x}" Quoted 8
    × Begins "{|a|}" Quoted 5
unfolding piece_at lexeme_at word_at word_class marked_word_at label_at operator_of operator_at mark_length begins_label begins_operator sign_at
    number_at digits_length base_of fraction_length exponent_length float_part_length char_length text_end opens_quoted closes_quoted quoted_end
    quoted_length plain_part comment_part level_end comment_length attribute_part attribute_length is_keyword_word
quotes = (refl, refl, refl, refl, refl, refl)

signs : Begins "->" Mark 2 × Begins "->>" Infix 3 × Begins "|" Mark 1 × Begins "|]" Mark 2 × Begins "||]" Infix 2 × Begins "=" Mark 1
    × Begins "!=" Infix 2 × Begins "!==" Prefix 3 × Begins "!x" Prefix 1 × Begins "~+" Prefix 2 × Begins "~ " Mark 1 × Begins "#" Infix 1
    × Begins "[%%" Mark 3 × Begins "[%" Mark 2 × Begins "[|]" Mark 2 × Begins "{%" Mark 2 × Begins ":=" Mark 2 × Begins ".." Mark 2
    × Begins ";;" Mark 2
unfolding piece_at lexeme_at word_at word_class marked_word_at label_at operator_of operator_at mark_length begins_label begins_operator sign_at
    number_at digits_length base_of fraction_length exponent_length float_part_length char_length text_end opens_quoted closes_quoted quoted_end
    quoted_length plain_part comment_part level_end comment_length attribute_part attribute_length is_keyword_word
signs = (refl, refl, refl, refl, refl, refl, refl, refl, refl, refl, refl, refl, refl, refl, refl, refl, refl, refl, refl)

bad : IsBad "1x" × IsBad "1e5_0" × IsBad "0b12" × IsBad "~let" × IsBad "?_" × IsBad "{x|a|y}" × IsBad "(* \"" × IsBad "(* (* *)" × IsBad "[@a"
    × IsBad "\"abc" × IsBad "1e" × IsBad "'+" × IsBad "`1" × IsBad "\\"
unfolding piece_at lexeme_at word_at word_class marked_word_at label_at operator_of operator_at mark_length begins_label begins_operator sign_at
    number_at digits_length base_of fraction_length exponent_length float_part_length char_length text_end opens_quoted closes_quoted quoted_end
    quoted_length plain_part comment_part level_end comment_length attribute_part attribute_length is_keyword_word
bad = (refl, refl, refl, refl, refl, refl, refl, refl, refl, refl, refl, refl, refl, refl)

trivia : IsTrivia " " 1 × IsTrivia "(* \"*)\" *) x" 10 × IsTrivia "(*)*)" 5 × IsTrivia "(* (* *) *)" 11 × IsTrivia "(* '\"' *)" 9
    × IsTrivia "[@a [b] \"]\"]" 12 × IsTrivia "[@@a (* ] *)] x" 13
unfolding piece_at lexeme_at word_at word_class marked_word_at label_at operator_of operator_at mark_length begins_label begins_operator sign_at
    number_at digits_length base_of fraction_length exponent_length float_part_length char_length text_end opens_quoted closes_quoted quoted_end
    quoted_length plain_part comment_part level_end comment_length attribute_part attribute_length is_keyword_word
trivia = (refl, refl, refl, refl, refl, refl, refl)

long_name : piece_at (replicate 256 97) ≡ LongName
unfolding piece_at lexeme_at word_at word_class marked_word_at label_at operator_of operator_at mark_length begins_label begins_operator sign_at
    number_at digits_length base_of fraction_length exponent_length float_part_length char_length text_end opens_quoted closes_quoted quoted_end
    quoted_length plain_part comment_part level_end comment_length attribute_part attribute_length is_keyword_word
long_name = refl
