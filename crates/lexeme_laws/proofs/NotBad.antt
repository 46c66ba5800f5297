-- What is taken is no lexeme that the table calls Bad.
use Rattle.std.proofs.Common.{◌≡◌, ℕ, suc, ◌+◌, inl, inr, List, [], ◌∷◌, ◌++◌, Bool, true, false, cond, ◌==◌, drop, take, get_or, nat_lt, Option}
use Rattle.std.proofs.Common.{Some, None, refl, ap, sym, subst, ◌∙◌, arith}
use Rattle.std.specs.List.{list_all}
use Rattle.std.specs.Prelude.{codes}
use Rattle.std.specs.Char.{is_ascii_digit, is_ascii_uppercase}
use Rattle.std.specs.Str.{byte}
use Rattle.std.proofs.Math.Seq.{take-suc}
use Rattle.std.proofs.lemmas.List.{append_cancel_right}
use Rattle.std.proofs.lemmas.List.Folds.{list_all-append}
use Rattle.rotor_base.specs.Name.{is_identifier_byte, is_reserved_word, is_value_name}
use Rattle.rotor_base.specs.declared.token.Class.{Class}
use Rattle.rotor_base.specs.declared.token.Class.TheVariants as class
use Rattle.ml_lexer.specs.declared.piece.Piece.{Piece}
use Rattle.ml_lexer.specs.declared.piece.Piece.TheVariants as piece
use Rattle.ml_lexer.specs.Bytes.{is_at, is_word_start, word_length, operator_length}
use Rattle.ml_lexer.specs.Numbers.{base_of, head_length, digits_length, float_part_length, suffix_length, unless_identifier_follows, number_at}
use Rattle.ml_lexer.specs.Quotes.{char_length, text_length, opens_quoted, quoted_length}
use Rattle.ml_lexer.specs.Pieces.{ended, is_long, is_keyword_class, is_mark_operator, is_text, word_class, word_at, marked_word_at, label_at}
use Rattle.ml_lexer.specs.Pieces.{char_or_variable, operator_of, operator_at, begins_label, begins_operator, mark_length, mark_of, sign_at}
use Rattle.ml_lexer.specs.Bytes.{among}
use Rattle.ml_lexer.proofs.Local.{which, and_left, and_right, and_false}
use Rattle.ml_lexer.proofs.Words.{word_at_length}
use Rattle.ml_lexer.proofs.Signs.{label_at_parts, operator_at_length}
use Rattle.ml_lexer.proofs.Marks.{sign_tests}
use Rattle.ml_lexer.proofs.Digits.{number_parts}
use Rattle.ml_lexer.proofs.Apart.{lexeme_tests}
use Rattle.ml_lexer.proofs.Fronts.{lexeme_of_piece}
use Rattle.lexeme_laws.specs.Table.{is_word}
use Rattle.lexeme_laws.specs.Begins.{IsReservedLabel, IsBadAt}
use Rattle.lexeme_laws.specs.Laws.{LexemesAreNotBad}
use Rattle.lexeme_laws.proofs.Tests.{same_numbers, and_pair}
use Rattle.lexeme_laws.proofs.Longest.{keyword_is_word}
use Rattle.lexeme_laws.proofs.WordSound.{word_parts, class_tests, label_starts, label_short, label_none, word_of, word_is_word}
use Rattle.lexeme_laws.proofs.WordSound.{start_is_identifier, colon_inside, run}
use Rattle.lexeme_laws.proofs.WordClass.{marked_gives, keyword_class}
use Rattle.lexeme_laws.proofs.SignSound.{operator_tests, lexeme_parts}
use Rattle.lexeme_laws.proofs.SignClass.{mark_of_class}
use Rattle.lexeme_laws.proofs.QuoteSound.{ended_parts, char_parts}

-- what this takes is not Bad
abbrev Good : List ℕ → Piece → Type 0
Good bytes p = (k : Class) (m : ℕ) → p ≡ piece.Lexeme k m → IsBadAt k m bytes → ⊥

cond_good : (bytes : List ℕ) (t : Bool) (p q : Piece) → (t ≡ true → Good bytes p) → (t ≡ false → Good bytes q) → Good bytes (cond t p q)
cond_good bytes true p q f g = f refl
cond_good bytes false p q f g = g refl

-- no lexeme of these classes is Bad
abbrev NeverBad : Class → Type 0
NeverBad k = (m : ℕ) (bytes : List ℕ) → IsBadAt k m bytes → ⊥

never : (kind k : Class) → NeverBad kind → kind ≡ k → NeverBad k
never kind k h e = subst NeverBad e h

-- ---- words and signs

word_never : (up low : Bool) → NeverBad (cond up class.Upper (cond low class.Lower class.Keyword))
word_never true low m bytes bad = bad
word_never false true m bytes bad = bad
word_never false false m bytes bad = bad

word_good : (b : List ℕ) → Good b (word_at b)
word_good b k m e bad =
    let n = word_length b in
    let parts = word_parts (is_long n) (word_class (take n b)) k n m (sym (word_at_length b n refl) ∙ e) in
    let never_class = subst NeverBad (sym (class_tests (take n b) _ _ refl refl))
    (word_never (is_ascii_uppercase (get_or (take n b) 0 0)) (is_value_name (take n b))) in
    never (word_class (take n b)) k never_class parts.2 m b bad

operator_never : (mark unequal bang : Bool) → NeverBad (cond mark class.Mark (cond unequal class.Infix (cond bang class.Prefix class.Infix)))
operator_never true unequal bang m bytes bad = bad
operator_never false true bang m bytes bad = bad
operator_never false false true m bytes bad = bad
operator_never false false false m bytes bad = bad

operator_good : (b : List ℕ) → Good b (operator_at b)
operator_good b k m e bad =
    let n = 1 + operator_length (drop 1 b) in
    let w = take n b in
    let parts = lexeme_parts (operator_of w) k n m (sym (operator_at_length b n refl) ∙ e) in
    let never_class = subst NeverBad (sym (operator_tests w _ _ _ refl refl refl))
    (operator_never (is_mark_operator w) (is_text "!=" w) (among "!~?" (get_or w 0 0))) in
    never (operator_of w) k never_class parts.1 m b bad

mark_never : NeverBad class.Mark
mark_never m bytes bad = bad

marks_good : (b : List ℕ) (t : Bool) (n : ℕ) → Good b (cond t (piece.Lexeme class.Mark n) piece.Bad)
marks_good b t n k m e bad = never class.Mark k mark_never (mark_of_class t n k m e) m b bad

sign_chain : (b : List ℕ)
    → Good b (cond (nat_lt 1 (mark_length b)) (piece.Lexeme class.Mark (mark_length b))
    (cond (begins_operator b) (operator_at b) (mark_of (mark_length b))))
sign_chain b =
    cond_good b (nat_lt 1 (mark_length b)) (piece.Lexeme class.Mark (mark_length b)) _ (λ _. marks_good b true (mark_length b)) (λ _.
    cond_good b (begins_operator b) (operator_at b) (mark_of (mark_length b)) (λ _. operator_good b)
    (λ _. marks_good b (nat_lt 0 (mark_length b)) (mark_length b)))

sign_good : (b : List ℕ) → Good b (sign_at b)
sign_good b k m e = sign_chain b k m (sym (sign_tests b _ _ refl refl) ∙ e)

-- ---- what is quoted

text_good : (b : List ℕ) (o : Option ℕ) → Good b (ended class.Text o)
text_good b o k m e bad = let parts = ended_parts class.Text k o m e in never class.Text k (λ m bytes h. h) parts.1 m b bad

quoted_good : (b : List ℕ) (o : Option ℕ) → Good b (ended class.Quoted o)
quoted_good b o k m e bad = let parts = ended_parts class.Quoted k o m e in never class.Quoted k (λ m bytes h. h) parts.1 m b bad

tag_good : (b : List ℕ) → Good b (marked_word_at class.Tag b)
tag_good b k m e bad = never class.Tag k (λ m bytes h. h) (marked_gives class.Tag b k m e) m b bad

quote_good : (b : List ℕ) (o : Option ℕ) → Good b (char_or_variable o b)
quote_good b None k m e bad = never class.TypeVar k (λ m bytes h. h) (marked_gives class.TypeVar b k m e) m b bad
quote_good b (Some n) k m e bad = let parts = char_parts k n m e in never class.Char k (λ m bytes h. h) parts.1 m b bad

-- ---- numbers

follows_cond : (t : Bool) (kind k : Class) (n m : ℕ) (b : List ℕ) → is_identifier_byte (get_or b n 0) ≡ t
    → cond t piece.Bad (piece.Lexeme kind n) ≡ piece.Lexeme k m → (is_identifier_byte (get_or b m 0) ≡ false) × (kind ≡ k)
follows_cond true kind k n m b f e = cc
follows_cond false kind k n m b f e = let same : n ≡ m = cc in (ap (λ i. is_identifier_byte (get_or b i 0)) (sym same) ∙ f, cc)

follows_not : (kind k : Class) (n m : ℕ) (b : List ℕ) → unless_identifier_follows kind n b ≡ piece.Lexeme k m
    → (is_identifier_byte (get_or b m 0) ≡ false) × (kind ≡ k)
follows_not kind k n m b e = follows_cond (is_identifier_byte (get_or b n 0)) kind k n m b refl e

number_not : (t : Bool) (k : Class) (i j m : ℕ) (b : List ℕ)
    → cond t (unless_identifier_follows class.Float i b) (unless_identifier_follows class.Int j b) ≡ piece.Lexeme k m
    → (is_identifier_byte (get_or b m 0) ≡ false) × (cond t class.Float class.Int ≡ k)
number_not true k i j m b e = follows_not class.Float k i m b e
number_not false k i j m b e = follows_not class.Int k j m b e

number_never : (t : Bool) (m : ℕ) (b : List ℕ) → is_identifier_byte (get_or b m 0) ≡ false → IsBadAt (cond t class.Float class.Int) m b → ⊥
number_never true m b nay bad = let wrong : true ≡ false = sym bad ∙ nay in cc
number_never false m b nay bad = let wrong : true ≡ false = sym bad ∙ nay in cc

number_good : (b : List ℕ) → Good b (number_at b)
number_good b k m e bad =
    let base = base_of b in
    let n = head_length base + digits_length base (drop (head_length base) b) in
    let more = float_part_length base (drop n b) in
    let got = number_not (nat_lt 0 more) k (n + more) (n + suffix_length (drop n b)) m b (sym (number_parts b base n more refl refl refl) ∙ e) in
    number_never (nat_lt 0 more) m b got.0 (subst (λ c. IsBadAt c m b) (sym got.1) bad)

-- ---- labels

label_not : (s t : Bool) (k : Class) (n m : ℕ) → cond s piece.LongName (cond t piece.Bad (piece.Lexeme class.Label n)) ≡ piece.Lexeme k m
    → (t ≡ false) × (n ≡ m) × (class.Label ≡ k)
label_not true t k n m e = cc
label_not false true k n m e = cc
label_not false false k n m e = (refl, cc, cc)

-- a word has identifier characters alone
identifiers : (w : List ℕ) → is_word w ≡ true → list_all is_identifier_byte w ≡ true
identifiers [] h = cc
identifiers (x ∷ f) h =
    and_pair (is_identifier_byte x) (list_all is_identifier_byte f)
    (start_is_identifier x (and_left (is_word_start x) (list_all is_identifier_byte f) h))
    (and_right (is_word_start x) (list_all is_identifier_byte f) h)

no_colon : (w : List ℕ) → list_all is_identifier_byte (w ++ codes ":") ≡ false
no_colon w = list_all-append is_identifier_byte w (codes ":") ∙ and_false (list_all is_identifier_byte w)

-- a word that is not reserved, with its mark, is no such Label
plain_label : (text : List ℕ) → IsReservedLabel text → (x : ℕ) (w : List ℕ) → text ≡ x ∷ w → is_word w ≡ true → is_reserved_word w ≡ false → ⊥
plain_label text (IsReservedLabel.without_colon mark word h) x w e is free =
    let same : word ≡ w = ap (drop 1) e in
    let wrong : true ≡ false = sym h ∙ ap is_reserved_word same ∙ free in
    cc
plain_label text (IsReservedLabel.with_colon mark word h) x w e is free =
    let same : word ++ codes ":" ≡ w = ap (drop 1) e in
    let wrong : true ≡ false = sym (identifiers w is) ∙ ap (list_all is_identifier_byte) (sym same) ∙ no_colon word in
    cc

colon_label : (text : List ℕ) → IsReservedLabel text → (x : ℕ) (w : List ℕ) → text ≡ x ∷ (w ++ codes ":") → is_reserved_word w ≡ false → ⊥
colon_label text (IsReservedLabel.without_colon mark word h) x w e free =
    let same : word ≡ w ++ codes ":" = ap (drop 1) e in
    let wrong : true ≡ false = sym (identifiers word (keyword_is_word word h)) ∙ ap (list_all is_identifier_byte) same ∙ no_colon w in
    cc
colon_label text (IsReservedLabel.with_colon mark word h) x w e free =
    let same : word ≡ w = append_cancel_right word w (codes ":") (ap (drop 1) e) in
    let wrong : true ≡ false = sym h ∙ ap is_reserved_word same ∙ free in
    cc

-- a word whose class is not Keyword is not reserved
free_word : (w : List ℕ) → is_keyword_class (word_class w) ≡ false → is_reserved_word w ≡ false
free_word w h = elim (which (is_reserved_word w)) [
  | inl y ↦ let wrong : true ≡ false = ap is_keyword_class (sym (keyword_class w y)) ∙ h in cc
  | inr n ↦ n
]

label_text : (x y : ℕ) (s : List ℕ) (colon : Bool) → (get_or s (run s) 0 == byte ":") ≡ colon → is_word_start y ≡ true
    → is_reserved_word (word_of y s) ≡ false → IsReservedLabel (take (suc (suc (run s)) + cond colon 1 0) (x ∷ y ∷ s)) → ⊥
label_text x y s true e start free bad =
    let less = colon_inside s (run s) e in
    let at = same_numbers (get_or s (run s) 0) (byte ":") e in
    let index : suc (suc (run s)) + 1 ≡ suc (suc (suc (run s))) = omega arith in
    let text : take (suc (suc (run s)) + 1) (x ∷ y ∷ s) ≡ x ∷ (word_of y s ++ codes ":") = ap (λ i. take i (x ∷ y ∷ s)) index
    ∙ ap (λ l. x ∷ y ∷ l) (take-suc s (run s) 0 less ∙ ap (λ c. take (run s) s ++ (c ∷ [])) at) in
    colon_label (take (suc (suc (run s)) + 1) (x ∷ y ∷ s)) bad x (word_of y s) text free
label_text x y s false e start free bad =
    let index : suc (suc (run s)) + 0 ≡ suc (suc (run s)) = omega arith in
    plain_label (take (suc (suc (run s)) + 0) (x ∷ y ∷ s)) bad x (word_of y s) (ap (λ i. take i (x ∷ y ∷ s)) index) (word_is_word y s start) free

label_good : (b : List ℕ) → begins_label b ≡ true → Good b (label_at b)
label_good [] h k m e bad = label_none h
label_good (x ∷ []) h k m e bad = label_short x h
label_good (x ∷ y ∷ s) h k m e bad =
    let starts = label_starts x y s h in
    let size : word_length (y ∷ s) ≡ suc (run s) = omega arith in
    let index : 1 + suc (run s) ≡ suc (suc (run s)) = omega arith in
    let colon : is_at ":" (1 + suc (run s)) (x ∷ y ∷ s) ≡ (get_or s (run s) 0 == byte ":") = ap (λ i. is_at ":" i (x ∷ y ∷ s)) index in
    let at = label_at_parts (x ∷ y ∷ s) (suc (run s)) (word_of y s) (get_or s (run s) 0 == byte ":") size refl colon in
    let parts = label_not (is_long (suc (run s))) (is_keyword_class (word_class (word_of y s))) k
    (1 + suc (run s) + cond (get_or s (run s) 0 == byte ":") 1 0) m (sym at ∙ e) in
    let total = parts.1 in
    let same : suc (suc (run s)) + cond (get_or s (run s) 0 == byte ":") 1 0 ≡ m = omega (arith, total) in
    let label : IsReservedLabel (take m (x ∷ y ∷ s)) = subst (λ c. IsBadAt c m (x ∷ y ∷ s)) (sym parts.2) bad in
    label_text x y s _ refl starts.1 (free_word (word_of y s) parts.0) (subst (λ n. IsReservedLabel (take n (x ∷ y ∷ s))) (sym same) label)

chain_good : (b : List ℕ)
    → Good b (cond (is_word_start (get_or b 0 0)) (word_at b)
    (cond (is_ascii_digit (get_or b 0 0)) (number_at b)
    (cond (is_at "\"" 0 b) (ended class.Text (text_length b))
    (cond (opens_quoted b) (ended class.Quoted (quoted_length b))
    (cond (is_at "'" 0 b) (char_or_variable (char_length b) b)
    (cond (is_at "`" 0 b) (marked_word_at class.Tag b) (cond (begins_label b) (label_at b) (sign_at b))))))))
chain_good b =
    cond_good b (is_word_start (get_or b 0 0)) (word_at b) _ (λ _. word_good b) (λ _.
    cond_good b (is_ascii_digit (get_or b 0 0)) (number_at b) _ (λ _. number_good b) (λ _.
    cond_good b (is_at "\"" 0 b) (ended class.Text (text_length b)) _ (λ _. text_good b (text_length b)) (λ _.
    cond_good b (opens_quoted b) (ended class.Quoted (quoted_length b)) _ (λ _. quoted_good b (quoted_length b)) (λ _.
    cond_good b (is_at "'" 0 b) (char_or_variable (char_length b) b) _ (λ _. quote_good b (char_length b)) (λ _.
    cond_good b (is_at "`" 0 b) (marked_word_at class.Tag b) _ (λ _. tag_good b) (λ _.
    cond_good b (begins_label b) (label_at b) (sign_at b) (label_good b) (λ _. sign_good b)))))))

pub lexemes_are_not_bad : LexemesAreNotBad
lexemes_are_not_bad bytes kind n e = chain_good bytes kind n (sym (lexeme_tests bytes _ _ refl refl) ∙ lexeme_of_piece bytes kind n e)
