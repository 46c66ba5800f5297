-- What the two texts of a sample are read as.
use Rattle.std.proofs.Common.{◌≡◌, ◌∙◌, refl, sym, ap, subst, ℕ, zero, suc, List, [], ◌∷◌, Bool, true, false, if◌then◌else◌, None}
use Rattle.std.proofs.Common.{Some, Option, option_map, codes}
use Rattle.std.proofs.Common.{arith, inl}
use Rattle.rotor_base.specs.Name.{is_keyword_word}
use Rattle.rotor_base.specs.Stem.{is_body_name}
use Rattle.rotor_base.specs.declared.token.Class.TheVariants as class
use Rattle.ml_lexer.specs.Lexed.{Lexeme, Lexed}
use Rattle.ml_lexer.specs.Numbers.{number_at, digits_length, base_of, fraction_length, exponent_length, float_part_length}
use Rattle.ml_lexer.specs.Quotes.{char_length, text_end, opens_quoted, closes_quoted, quoted_end, quoted_length}
use Rattle.ml_lexer.specs.Trivia.{plain_part, comment_part, level_end, comment_length, attribute_part, attribute_length}
use Rattle.ml_lexer.specs.Pieces.{piece_at, lexeme_at, word_at, word_class, marked_word_at, label_at, operator_of, operator_at, mark_length}
use Rattle.ml_lexer.specs.Pieces.{begins_label, begins_operator, sign_at}
use Rattle.ml_lexer.proofs.OneCutting.{one_lexed}
use Rattle.ml_trees.specs.Tok.{Name, Tok, fixed_of, word}
use Rattle.ml_trees.specs.Tree.{PlainName, ValuePat, Chain, Literal, Value, no_link, more_link, PlainBinding}
use Rattle.ml_trees.specs.Tree.{no_binding, UpperName, ModPath, Struct}
use Rattle.ml_trees.specs.Tree.{ModApply, ModuleArgument, no_mod_argument, more_mod_argument, NamedParam, no_functor_param, more_functor_param}
use Rattle.ml_trees.specs.Tree.{TypePath, Sig, no_type, ValueItem, ModuleItem, ModuleTypeItem, IncludeItem, Items, no_item, more_item, ValSig}
use Rattle.ml_trees.specs.Tree.{no_sig_item, more_sig_item, FileTree, Body}
use Rattle.ml_syntax.specs.RespelledFile.{lexeme_toks}
use Rattle.ml_trees.specs.WellFormed.{WfFile, infix_level}
use Rattle.ml_trees.specs.Words.{words}
use Rattle.parse_module.specs.declared.files.FileKind.TheVariants as kind
use Rattle.parse_module.specs.Whole.{IsTreeOf}
use Rattle.project_reading.specs.Source.{ReadsAs}
use Rattle.sample_project.specs.Sources.{source_name, source_text, source_of}
use Rattle.sample_counts.proofs.Cut.{cut, cut_lexed}

abbrev n : ℕ → List ℕ → Name
n at x = record { at = at; text = x }

-- ---- the trees

-- `module type S = sig val f : int end`, and `module Base = struct let f = 1 end`
abbrev pub first_items : Items
first_items =
    more_item (ModuleTypeItem 1 (n 3 (codes "S")) 4
    (Sig 5 (more_sig_item (ValSig (PlainName (n 7 (codes "f"))) (word class.Lower (n 9 (codes "int")) ∷ [])) no_sig_item)))
    (more_item (ModuleItem 11 (UpperName (n 12 (codes "Base"))) no_functor_param no_type 13
    (Struct 14 (more_item
    (ValueItem 15 false (PlainBinding (ValuePat (PlainName (n 16 (codes "f")))) None 17 (Literal class.Int (n 18 (codes "1")))) no_binding)
    no_item)))
    no_item)

-- `module M (X : U0.S) = struct include X let g = f + f end`, `module A = M (U0.Base)`, and `let h = A.f`
abbrev pub other_items : Items
other_items =
    more_item (ModuleItem 1 (UpperName (n 2 (codes "M")))
    (more_functor_param (NamedParam 3 (UpperName (n 4 (codes "X"))) (TypePath (n 6 (codes "U0") ∷ n 8 (codes "S") ∷ []))) no_functor_param)
    no_type 10
    (Struct 11 (more_item (IncludeItem 12 (ModPath (n 13 (codes "X") ∷ []))) (more_item
    (ValueItem 14 false (PlainBinding (ValuePat (PlainName (n 15 (codes "g")))) None 16
    (Chain 10 (Value [] (PlainName (n 17 (codes "f"))))
    (more_link (word class.Infix (n 18 (codes "+"))) (Value [] (PlainName (n 19 (codes "f")))) no_link))) no_binding) no_item))))
    (more_item (ModuleItem 21 (UpperName (n 22 (codes "A"))) no_functor_param no_type 23
    (ModApply (ModPath (n 24 (codes "M") ∷ []))
    (more_mod_argument (ModuleArgument 25 (ModPath (n 26 (codes "U0") ∷ n 28 (codes "Base") ∷ []))) no_mod_argument)))
    (more_item (ValueItem 30 false
    (PlainBinding (ValuePat (PlainName (n 31 (codes "h")))) None 32 (Value (n 33 (codes "A") ∷ []) (PlainName (n 35 (codes "f"))))) no_binding)
    no_item))

abbrev pub items_of : ℕ → Items
items_of zero = first_items
items_of (suc k) = other_items

-- ---- they are well formed

first_wf : (file : ℕ) → WfFile (Body file first_items)
first_wf file = (((tt, refl), tt), ((tt, tt, (((tt, tt, refl), tt), tt)), tt))

other_wf : (file : ℕ) → WfFile (Body file other_items)
unfolding infix_level
other_wf file = (
  (
    ((λ none. cc), tt),
    tt,
    (
      (λ none. cc),
      (((tt, tt, (omega arith, omega arith, (λ none. cc), omega arith, tt, ((refl, refl), tt, refl, inl (omega arith), tt, tt))), tt), tt),
    ),
  ),
  ((tt, tt, (refl, (λ none. cc), (λ none. cc), ((λ none. cc), tt))), (((tt, tt, tt), tt), tt)),
)

-- ---- and have the words of the texts

first_words : (file : ℕ) → option_map (lexeme_toks 1) (cut 100 0 (source_text 0)) ≡ Some (words (Body file first_items))
unfolding piece_at lexeme_at word_at word_class marked_word_at label_at operator_of operator_at mark_length begins_label begins_operator sign_at
    number_at digits_length base_of fraction_length exponent_length float_part_length char_length text_end opens_quoted closes_quoted quoted_end
    quoted_length plain_part comment_part level_end comment_length attribute_part attribute_length is_keyword_word fixed_of
first_words file = refl

other_words : (k file : ℕ) → option_map (lexeme_toks 1) (cut 100 0 (source_text (suc k))) ≡ Some (words (Body file other_items))
unfolding piece_at lexeme_at word_at word_class marked_word_at label_at operator_of operator_at mark_length begins_label begins_operator sign_at
    number_at digits_length base_of fraction_length exponent_length float_part_length char_length text_end opens_quoted closes_quoted quoted_end
    quoted_length plain_part comment_part level_end comment_length attribute_part attribute_length is_keyword_word fixed_of
other_words k file = refl

items_wf : (k file : ℕ) → WfFile (Body file (items_of k))
items_wf zero file = first_wf file
items_wf (suc k) file = other_wf file

items_words : (k file : ℕ) → option_map (lexeme_toks 1) (cut 100 0 (source_text k)) ≡ Some (words (Body file (items_of k)))
items_words zero file = first_words file
items_words (suc k) file = other_words k file

-- ---- so they are what the texts are read as

inner : (a b : List Tok) → Some a ≡ Some b → a ≡ b
inner a b e = cc

one_words : (bytes : List ℕ) (lexemes : List Lexeme) (ts : List Tok) (o : Option (List Lexeme)) → cut 100 0 bytes ≡ o
    → option_map (lexeme_toks 1) o ≡ Some ts → Lexed bytes lexemes → lexeme_toks 1 lexemes ≡ ts
one_words bytes lexemes ts None eq e l = let bad : ◌≡◌ {A = Option (List Tok)} None (Some ts) = e in cc
one_words bytes lexemes ts (Some xs) eq e l = ap (lexeme_toks 1) (one_lexed l (cut_lexed 100 0 bytes xs eq)) ∙ inner (lexeme_toks 1 xs) ts e

pub read_as : (file k : ℕ) (tree : FileTree) → is_body_name (source_name k) ≡ true → ReadsAs file (source_of k) tree → tree ≡ Body file (items_of k)
read_as file k tree body reads =
    let whole : IsTreeOf kind.Body file (lexeme_toks 1 reads.lexemes) tree =
    subst (λ (b : Bool). IsTreeOf (if b then kind.Body else kind.Face) file (lexeme_toks 1 reads.lexemes) tree) body reads.parsed in
    sym (whole.only (Body file (items_of k)) refl (items_wf k file)
    (one_words (source_text k) reads.lexemes (words (Body file (items_of k))) (cut 100 0 (source_text k)) refl (items_words k file) reads.plain.cut))
