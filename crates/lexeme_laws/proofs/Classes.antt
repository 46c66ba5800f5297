-- No lexeme of another class has the bytes of what is taken, but an Infix those of a Mark.
use Rattle.std.proofs.Common.{◌≡◌, ℕ, ◌≤◌, ◌⊎◌, inl, inr, List, ◌++◌, length, drop, take, ap, ◌∙◌, refl}
use Rattle.std.proofs.lemmas.List.{take-append-drop, length-take-le}
use Rattle.rotor_base.specs.declared.token.Class.{Class}
use Rattle.rotor_base.specs.declared.token.Class.TheVariants as class
use Rattle.ml_lexer.specs.declared.piece.Piece.TheVariants as piece
use Rattle.ml_lexer.specs.Quotes.{char_length}
use Rattle.ml_lexer.specs.Pieces.{piece_at}
use Rattle.lexeme_laws.specs.Begins.{Begins}
use Rattle.lexeme_laws.specs.Laws.{ClassesAreApart}
use Rattle.lexeme_laws.proofs.Longest.{no_char}
use Rattle.lexeme_laws.proofs.WordClass.{Gives, lower_gives, upper_gives, keyword_gives, variable_gives, tag_gives, label_gives}
use Rattle.lexeme_laws.proofs.SignClass.{IsInfixOrMark, prefix_gives, infix_gives, mark_gives}
use Rattle.lexeme_laws.proofs.QuoteClass.{char_gives, text_gives, quoted_gives}
use Rattle.lexeme_laws.proofs.NumberClass.{int_gives, float_gives}

-- the class, or an Infix that is a Mark
abbrev OneClass : Class → Class → Type 0
OneClass other kind = (other ≡ kind) ⊎ ((other ≡ class.Infix) × (kind ≡ class.Mark))

moved : (other : Class) (bytes : List ℕ) (n : ℕ) → n ≤ length bytes → Gives other (length (take n bytes)) (take n bytes ++ drop n bytes)
    → (kind : Class) → piece_at bytes ≡ piece.Lexeme kind n → OneClass other kind
moved other bytes n fits gives kind e = inl (gives kind n (ap piece_at (take-append-drop n bytes) ∙ e) (length-take-le n bytes fits))

infix_or_mark : (kind : Class) → IsInfixOrMark kind → OneClass class.Infix kind
infix_or_mark kind (inl e) = inl e
infix_or_mark kind (inr e) = inr (refl, e)

one_class : (other : Class) (bytes : List ℕ) (n : ℕ) → Begins other n bytes → (kind : Class) → piece_at bytes ≡ piece.Lexeme kind n
    → OneClass other kind
one_class class.Lower bytes n h = moved class.Lower bytes n h.0 (lower_gives (take n bytes) (drop n bytes) h.1)
one_class class.Upper bytes n h = moved class.Upper bytes n h.0 (upper_gives (take n bytes) (drop n bytes) h.1)
one_class class.Keyword bytes n h = moved class.Keyword bytes n h.0 (keyword_gives (take n bytes) (drop n bytes) h.1)
one_class class.Int bytes n h = moved class.Int bytes n h.0 (int_gives (take n bytes) (drop n bytes) h.1)
one_class class.Float bytes n h = moved class.Float bytes n h.0 (float_gives (take n bytes) (drop n bytes) h.1)
one_class class.Char bytes n h = moved class.Char bytes n h.0 (char_gives (take n bytes) (drop n bytes) h.1)
one_class class.Text bytes n h = moved class.Text bytes n h.0 (text_gives (take n bytes) (drop n bytes) h.1)
one_class class.Quoted bytes n h = moved class.Quoted bytes n h.0 (quoted_gives (take n bytes) (drop n bytes) h.1)
one_class class.TypeVar bytes n h =
    moved class.TypeVar bytes n h.0
    (variable_gives (take n bytes) (drop n bytes) h.1 (ap char_length (take-append-drop n bytes) ∙ no_char bytes h.2.1))
one_class class.Tag bytes n h = moved class.Tag bytes n h.0 (tag_gives (take n bytes) (drop n bytes) h.1)
one_class class.Label bytes n h = moved class.Label bytes n h.0 (label_gives (take n bytes) (drop n bytes) h.1)
one_class class.Prefix bytes n h = moved class.Prefix bytes n h.0 (prefix_gives (take n bytes) (drop n bytes) h.1)
one_class class.Mark bytes n h = moved class.Mark bytes n h.0 (mark_gives (take n bytes) (drop n bytes) h.1)
one_class class.Infix bytes n h =
    λ kind e. infix_or_mark kind
    (infix_gives (take n bytes) (drop n bytes) h.1 kind n (ap piece_at (take-append-drop n bytes) ∙ e) (length-take-le n bytes h.0))

pub classes_are_apart : ClassesAreApart
classes_are_apart bytes kind n e other begins = one_class other bytes n begins kind e
