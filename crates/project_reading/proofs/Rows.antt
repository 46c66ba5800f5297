-- Small folders: what their sources are cut into, what units they give, and in what order.
use Rattle.std.proofs.Common.{◌≡◌, ℕ, List, [], ◌∷◌, inl, Some, None, codes, refl, rules}
use Prim.Native.String.{String}
use Rattle.rotor_base.specs.Name.{is_keyword_word}
use Rattle.rotor_base.specs.Stem.{ends_stem}
use Rattle.rotor_base.specs.Unit.{unit_of}
use Rattle.rotor_base.specs.declared.refusal.Refusal.TheVariants as refusal
use Rattle.rotor_base.specs.declared.source.SourceFile.{SourceFile}
use Rattle.rotor_base.specs.declared.token.Class.TheVariants as class
use Rattle.rotor_base.specs.declared.token.FormKind.TheVariants as forms
use Rattle.ml_lexer.specs.Lexed.{Lexeme}
use Rattle.ml_lexer.specs.Lexed as lexed
use Rattle.ml_lexer.specs.Numbers.{number_at, digits_length, base_of, fraction_length, exponent_length, float_part_length}
use Rattle.ml_lexer.specs.Pieces.{piece_at, lexeme_at, word_at, word_class, marked_word_at, label_at, operator_of, operator_at, mark_length}
use Rattle.ml_lexer.specs.Pieces.{begins_label, begins_operator, sign_at}
use Rattle.ml_lexer.specs.Quotes.{char_length, text_end, opens_quoted, closes_quoted, quoted_end, quoted_length}
use Rattle.ml_lexer.specs.Trivia.{plain_part, comment_part, level_end, comment_length, attribute_part, attribute_length}
use Rattle.ml_trees.specs.Tok.{Name}
use Rattle.ml_trees.specs.Tree as pure
use Rattle.parse_module.specs.declared.files.FileKind.TheVariants as kind
use Rattle.unit_order.specs.Order.{taking, order_of}
use Rattle.project_reading.specs.Source.{kind_of_source, bad, form, place}
use Rattle.project_reading.specs.Sources.{FirstUnread}
use Rattle.project_reading.specs.Reads.{AreStuck}
use Rattle.project_reading.specs.Units.{units_of, in_order}

-- a source of this name with these bytes
abbrev file : String → String → SourceFile
file name text = record { name = codes name; bytes = codes text }

-- ---- names

kinds : (kind_of_source (codes "a.ml") ≡ kind.Body) × (kind_of_source (codes "a.mli") ≡ kind.Face)
unfolding ends_stem
kinds = (refl, refl)

-- ---- units

abbrev word : ℕ → String → Name
word at text = record { at = at; text = codes text }

-- a body, or an interface, that uses a value of each of these modules
abbrev uses : List String → pure.Items
uses [] = pure.no_item
uses (m ∷ ms) = pure.more_item (pure.ExprItem (pure.Value (word 1 m ∷ []) (pure.PlainName (word 3 "x")))) (uses ms)

abbrev body : ℕ → List String → pure.FileTree
body number ms = pure.Body number (uses ms)

abbrev face : ℕ → pure.FileTree
face number = pure.Face number pure.no_sig_item

abbrev unit : String → pure.FileTree → pure.UnitTree
unit name tree = record { name = codes name; body = Some tree; face = None }

-- `A.ml` and `a.mli` are the first source and the third, and the body and the interface of one unit
parts : units_of (file "A.ml" "" ∷ file "B.ml" "" ∷ file "a.mli" "" ∷ []) (body 0 [] ∷ body 1 [] ∷ face 2 ∷ [])
    ≡ record { name = codes "A"; body = Some (body 0 []); face = Some (face 2) } ∷ unit "B" (body 1 []) ∷ []
unfolding unit_of ends_stem
parts = refl

-- `B.ml` is before `a.ml`, and the unit `A` before the unit `B`
turned : units_of (file "B.ml" "" ∷ file "a.ml" "" ∷ []) (body 0 [] ∷ body 1 [] ∷ []) ≡ unit "A" (body 1 []) ∷ unit "B" (body 0 []) ∷ []
unfolding unit_of ends_stem
turned = refl

-- an interface alone
outside : units_of (file "c.mli" "" ∷ []) (face 0 ∷ []) ≡ record { name = codes "C"; body = None; face = Some (face 0) } ∷ []
unfolding unit_of ends_stem
outside = refl

-- ---- their order

-- `A` needs `B`
abbrev pair : List pure.UnitTree
pair = unit "A" (body 0 ("B" ∷ [])) ∷ unit "B" (body 1 []) ∷ []

derived : in_order pair (order_of pair None) ≡ unit "B" (body 1 []) ∷ unit "A" (body 0 ("B" ∷ [])) ∷ []
unfolding taking
derived = refl

-- a manifest is believed
given : in_order pair (order_of pair (Some (codes "A\n\nB\n"))) ≡ pair
given = refl

-- `A` and `B` need each other, and `C` needs `A`: the refusal names `A`
abbrev ring : List pure.UnitTree
ring = unit "A" (body 0 ("B" ∷ [])) ∷ unit "B" (body 1 ("A" ∷ [])) ∷ unit "C" (body 2 ("A" ∷ [])) ∷ []

stuck : AreStuck ring None (codes "A")
unfolding taking
stuck = record {
  derived = refl;
  left = refl;
  stuck = record {
    before = [];
    at = unit "A" (body 0 ("B" ∷ []));
    behind = unit "B" (body 1 ("A" ∷ [])) ∷ unit "C"
        (body 2 ("A" ∷ [])) ∷ [];
    split = refl;
    named = refl;
    cycle = (1, refl);
    first = search rules;
  };
}

-- ---- sources that are not read

-- no lexeme begins at the `\` of `x \`
no_lexeme : FirstUnread 0 (file "a.ml" "x \\" ∷ []) (refusal.Lex 0 2)
unfolding piece_at lexeme_at word_at word_class marked_word_at label_at operator_of operator_at mark_length begins_label begins_operator sign_at
    number_at digits_length base_of fraction_length exponent_length float_part_length char_length text_end opens_quoted closes_quoted quoted_end
    quoted_length plain_part comment_part level_end comment_length attribute_part attribute_length is_keyword_word
no_lexeme = inl (bad 2 (lexed.lexeme class.Lower (codes "x") (codes " \\") refl refl
    (lexed.trivia (codes " ") (codes "\\") refl refl (lexed.bad (λ e. cc) refl))))

-- `class` is refused at the second token of `x class`
abbrev lexemes : List Lexeme
lexemes =
    record { class = class.Lower; start = 0; end = 1; bytes = codes "x" }
    ∷ record { class = class.Keyword; start = 2; end = 7; bytes = codes "class" } ∷ []

object : FirstUnread 0 (file "a.ml" "x class" ∷ []) (refusal.Form (place 0 2) forms.Object)
unfolding piece_at lexeme_at word_at word_class marked_word_at label_at operator_of operator_at mark_length begins_label begins_operator sign_at
    number_at digits_length base_of fraction_length exponent_length float_part_length char_length text_end opens_quoted closes_quoted quoted_end
    quoted_length plain_part comment_part level_end comment_length attribute_part attribute_length is_keyword_word
object = inl (form lexemes 2 forms.Object
    (lexed.lexeme class.Lower (codes "x") (codes " class") refl refl
    (lexed.trivia (codes " ") (codes "class") refl refl (lexed.lexeme class.Keyword (codes "class") [] refl refl lexed.nothing))) refl)
