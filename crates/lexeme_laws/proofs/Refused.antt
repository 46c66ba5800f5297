-- If the bytes are Bad, no lexeme of the table begins, but those that the table refuses.
use Rattle.std.proofs.Common.{◌≡◌, ℕ, suc, ◌+◌, ◌<◌, ◌≤◌, ◌⊎◌, inl, inr, List, [], ◌∷◌, ◌++◌, Bool, true, false, not, cond, ◌==◌, ◌&&◌, length}
use Rattle.std.proofs.Common.{drop, take, get_or, nat_lt, Option, Some, None, refl, ap, sym, subst, ◌∙◌, arith, append_assoc, length-append}
use Rattle.std.specs.List.{list_all}
use Rattle.std.specs.Prelude.{codes}
use Rattle.std.specs.Char.{is_ascii_digit, is_ascii_uppercase}
use Rattle.std.specs.Str.{byte, bytes_eq}
use Rattle.std.proofs.Math.Seq.{take-suc}
use Rattle.std.proofs.lemmas.Bool.Decides.{nat_tests}
use Rattle.std.proofs.lemmas.List.{take-append-drop, length-take-le}
use Rattle.rotor_base.specs.Name.{is_identifier_byte, is_reserved_word, starts_as_value_name}
use Rattle.rotor_base.specs.declared.token.Class.{Class}
use Rattle.rotor_base.specs.declared.token.Class.TheVariants as class
use Rattle.ml_lexer.specs.declared.piece.Piece.{Piece}
use Rattle.ml_lexer.specs.declared.piece.Piece.TheVariants as piece
use Rattle.ml_lexer.specs.declared.number.Base.{Base}
use Rattle.ml_lexer.specs.Bytes.{among, is_at, is_word_start, is_operator_byte, word_length, operator_length}
use Rattle.ml_lexer.specs.Quotes.{char_length, text_length, opens_quoted, quoted_length, text_end}
use Rattle.ml_lexer.specs.Trivia.{opens_comment, comment_length, attribute_length}
use Rattle.ml_lexer.specs.Pieces.{trivia, ended, is_long, word_class, is_keyword_class, marked_word_at, label_at, char_or_variable, operator_of}
use Rattle.ml_lexer.specs.Pieces.{operator_at, begins_label, begins_operator, mark_length, mark_of, sign_at, lexeme_at}
use Rattle.ml_lexer.proofs.Local.{which, and_left, and_right}
use Rattle.ml_lexer.proofs.Words.{word_at_length}
use Rattle.ml_lexer.proofs.Signs.{marked_at_length, label_at_parts, operator_at_length, byte_behind}
use Rattle.ml_lexer.proofs.Marks.{sign_tests}
use Rattle.ml_lexer.proofs.Apart.{word_lexeme}
use Rattle.ml_lexer.proofs.Fronts.{piece_tests}
use Rattle.lexeme_laws.specs.Table.{AreDigits, IsInt, IsFloat, IsChar, IsTextLexeme, IsQuoted, IsLabel, is_word, is_marked_word, is_operator}
use Rattle.lexeme_laws.specs.Table.{is_prefix, is_infix, is_mark, marks}
use Rattle.lexeme_laws.specs.Begins.{Begins, IsReservedLabel}
use Rattle.lexeme_laws.specs.Laws.{IsRefused, BadIsRefused}
use Rattle.lexeme_laws.proofs.Tests.{among_one, among_fails, among_passes, or_cases, last_byte, run_over, same_numbers, texts_same}
use Rattle.lexeme_laws.proofs.WordReach.{quote_lexeme, tag_lexeme, text_lexeme, quoted_lexeme, label_lexeme, variable_of}
use Rattle.lexeme_laws.proofs.WordSound.{run, word_of, word_begins, label_starts, label_at_row, colon_inside, label_short}
use Rattle.lexeme_laws.proofs.SignReach.{starts_run, operator_begins, run_label, Each, one_of_each}
use Rattle.lexeme_laws.proofs.SignClass.{run_choice, OnlyMarks, only_marks, brace_signs, brace_run}
use Rattle.lexeme_laws.proofs.QuoteReach.{char_whole, text_whole, quoted_exact, quoted_opens}
use Rattle.lexeme_laws.proofs.QuoteClass.{char_first}
use Rattle.lexeme_laws.proofs.NumberReach.{number_lexeme}
use Rattle.lexeme_laws.proofs.NumberSpan.{span, int_span, float_span, number_bad}
use Rattle.lexeme_laws.proofs.Longest.{keyword_is_word, no_char}

-- ---- if no trivia opens, the lexeme is Bad

-- a trivia opens, or the lexeme is Bad
bad_cond : (w o t : Bool) (c a : Option ℕ) (p : Piece) → cond w (piece.Trivia 1) (cond o (trivia c) (cond t (trivia a) p)) ≡ piece.Bad
    → (o ≡ true) ⊎ (t ≡ true) ⊎ (p ≡ piece.Bad)
bad_cond true o t c a p e = cc
bad_cond false true t c a p e = inl refl
bad_cond false false true c a p e = inr (inl refl)
bad_cond false false false c a p e = inr (inr e)

-- what refuses a lexeme of this length, if the lexeme is Bad
abbrev Refuses : ℕ → List ℕ → Type 0
Refuses n bytes = lexeme_at bytes ≡ piece.Bad → IsRefused bytes n

-- ---- words

word_never : (t : Bool) (kind : Class) (n : ℕ) → cond t piece.LongName (piece.Lexeme kind n) ≡ piece.Bad → ⊥
word_never true kind n e = cc
word_never false kind n e = cc

word_refuses : (f rest : List ℕ) → is_word f ≡ true → Refuses (length f) (f ++ rest)
word_refuses [] rest h e = cc
word_refuses (x ∷ f) rest h e =
    let b = (x ∷ f) ++ rest in
    let start = and_left (is_word_start x) (list_all is_identifier_byte f) h in
    absurd (word_never (is_long (word_length b)) (word_class (take (word_length b) b)) (word_length b)
    (sym (word_at_length b _ refl) ∙ sym (word_lexeme b start) ∙ e))

marked_never : (s t : Bool) (kind : Class) (n : ℕ) → s ≡ true → cond s (cond t piece.LongName (piece.Lexeme kind n)) piece.Bad ≡ piece.Bad → ⊥
marked_never true true kind n h e = cc
marked_never true false kind n h e = cc
marked_never false t kind n h e = cc

marked_bad : (kind : Class) (x : ℕ) (w rest : List ℕ) → is_word w ≡ true → marked_word_at kind ((x ∷ w) ++ rest) ≡ piece.Bad → ⊥
marked_bad kind x [] rest h e = cc
marked_bad kind x (y ∷ w) rest h e =
    let b = (x ∷ y ∷ w) ++ rest in
    marked_never (is_word_start y) (is_long (word_length (drop 1 b))) kind (1 + word_length (drop 1 b))
    (and_left (is_word_start y) (list_all is_identifier_byte w) h) (sym (marked_at_length kind b _ refl) ∙ e)

tag_refuses : (f rest : List ℕ) → is_marked_word "`" f ≡ true → Refuses (length f) (f ++ rest)
tag_refuses [] rest h e = cc
tag_refuses (x ∷ w) rest h e =
    let mark = among_one (byte "`") x (and_left (among "`" x) (is_word w) h) in
    let moved : lexeme_at (byte "`" ∷ (w ++ rest)) ≡ piece.Bad = ap (λ v. lexeme_at (v ∷ (w ++ rest))) (sym mark) ∙ e in
    absurd (marked_bad class.Tag (byte "`") w rest (and_right (among "`" x) (is_word w) h) (sym (tag_lexeme (w ++ rest)) ∙ moved))

variable_refuses : (f rest : List ℕ) → is_marked_word "'" f ≡ true → char_length (f ++ rest) ≡ None → Refuses (length f) (f ++ rest)
variable_refuses [] rest h no_char_is e = cc
variable_refuses (x ∷ w) rest h no_char_is e =
    let mark = among_one (byte "'") x (and_left (among "'" x) (is_word w) h) in
    let moved : lexeme_at (byte "'" ∷ (w ++ rest)) ≡ piece.Bad = ap (λ v. lexeme_at (v ∷ (w ++ rest))) (sym mark) ∙ e in
    let none' : char_length (byte "'" ∷ (w ++ rest)) ≡ None = ap (λ v. char_length (v ∷ (w ++ rest))) (sym mark) ∙ no_char_is in
    absurd (marked_bad class.TypeVar (byte "'") w rest (and_right (among "'" x) (is_word w) h)
    (sym (variable_of _ (byte "'" ∷ (w ++ rest)) none') ∙ sym (quote_lexeme (w ++ rest)) ∙ moved))

-- ---- labels

keyword_of : (k : Class) → is_keyword_class k ≡ true → k ≡ class.Keyword
keyword_of class.Keyword e = refl
keyword_of class.Lower e = cc
keyword_of class.Upper e = cc
keyword_of class.Int e = cc
keyword_of class.Float e = cc
keyword_of class.Char e = cc
keyword_of class.Text e = cc
keyword_of class.Quoted e = cc
keyword_of class.TypeVar e = cc
keyword_of class.Tag e = cc
keyword_of class.Label e = cc
keyword_of class.Prefix e = cc
keyword_of class.Infix e = cc
keyword_of class.Mark e = cc

label_cond : (s t : Bool) (n : ℕ) → cond s piece.LongName (cond t piece.Bad (piece.Lexeme class.Label n)) ≡ piece.Bad → (s ≡ false) × (t ≡ true)
label_cond true t n e = cc
label_cond false true n e = (refl, refl)
label_cond false false n e = cc

-- the number of bytes of the Label that begins here
abbrev label_size : List ℕ → ℕ
label_size s = suc (suc (run s)) + cond (get_or s (run s) 0 == byte ":") 1 0

reserved_at : (x y : ℕ) (s : List ℕ) (colon : Bool) → (get_or s (run s) 0 == byte ":") ≡ colon → is_reserved_word (word_of y s) ≡ true
    → IsReservedLabel (take (suc (suc (run s)) + cond colon 1 0) (x ∷ y ∷ s))
reserved_at x y s true e h =
    let less = colon_inside s (run s) e in
    let at = same_numbers (get_or s (run s) 0) (byte ":") e in
    let index : suc (suc (run s)) + 1 ≡ suc (suc (suc (run s))) = omega arith in
    let text : take (suc (suc (run s)) + 1) (x ∷ y ∷ s) ≡ x ∷ (word_of y s ++ codes ":") = ap (λ i. take i (x ∷ y ∷ s)) index
    ∙ ap (λ l. x ∷ y ∷ l) (take-suc s (run s) 0 less ∙ ap (λ c. take (run s) s ++ (c ∷ [])) at) in
    subst IsReservedLabel (sym text) (IsReservedLabel.with_colon x (word_of y s) h)
reserved_at x y s false e h =
    let index : suc (suc (run s)) + 0 ≡ suc (suc (run s)) = omega arith in
    subst IsReservedLabel (ap (λ i. take i (x ∷ y ∷ s)) (sym index)) (IsReservedLabel.without_colon x (word_of y s) h)

label_refused : (x y : ℕ) (s : List ℕ) (m : ℕ) → among "~?" x ≡ true → is_word_start y ≡ true → m ≤ label_size s → label_at (x ∷ y ∷ s) ≡ piece.Bad
    → IsRefused (x ∷ y ∷ s) m
label_refused x y s m mark start fits e =
    let size : word_length (y ∷ s) ≡ suc (run s) = omega arith in
    let parts = label_cond (is_long (suc (run s))) (is_keyword_class (word_class (word_of y s))) _
    (sym (label_at_parts (x ∷ y ∷ s) (suc (run s)) (word_of y s) _ size refl refl) ∙ e) in
    let begins = subst (λ k. Begins k (suc (run s)) (y ∷ s)) (keyword_of (word_class (word_of y s)) parts.1) (word_begins y s start parts.0) in
    IsRefused.bad class.Label (label_size s) (label_at_row x y s _ refl mark start) (reserved_at x y s _ refl begins.1) fits

label_runs : (y : ℕ) (w rest : List ℕ) → is_word (y ∷ w) ≡ true → run (w ++ rest) ≡ length w + run rest
label_runs y w rest h = run_over is_identifier_byte w rest (and_right (is_word_start y) (list_all is_identifier_byte w) h)

label_refuses : (f rest : List ℕ) → is_marked_word "~?" f ≡ true → Refuses (length f) (f ++ rest)
label_refuses [] rest h e = cc
label_refuses (x ∷ []) rest h e = let wrong : false ≡ true = and_right (among "~?" x) false h in cc
label_refuses (x ∷ y ∷ w) rest h e =
    let word = and_right (among "~?" x) (is_word (y ∷ w)) h in
    let start = and_left (is_word_start y) (list_all is_identifier_byte w) word in
    let mark = and_left (among "~?" x) (is_word (y ∷ w)) h in
    let size = label_runs y w rest word in
    label_refused x y (w ++ rest) (length (x ∷ y ∷ w)) mark start (omega (arith, size)) (sym (label_lexeme x y (w ++ rest) mark start) ∙ e)

colon_size : (w rest : List ℕ) → run (w ++ (byte ":" ∷ rest)) ≡ length w → label_size (w ++ (byte ":" ∷ rest)) ≡ suc (suc (length w)) + 1
colon_size w rest e =
    let at : get_or (w ++ (byte ":" ∷ rest)) (run (w ++ (byte ":" ∷ rest))) 0 ≡ byte ":" = ap (λ i. get_or (w ++ (byte ":" ∷ rest)) i 0) e
    ∙ byte_behind w (byte ":" ∷ rest) in
    ap (λ c. suc (suc (run (w ++ (byte ":" ∷ rest)))) + cond (c == byte ":") 1 0) at ∙ ap (λ n. suc (suc n) + 1) e

colon_refuses : (f rest : List ℕ) → is_marked_word "~?" f ≡ true → Refuses (length f + 1) (f ++ (byte ":" ∷ rest))
colon_refuses [] rest h e = cc
colon_refuses (x ∷ []) rest h e = let wrong : false ≡ true = and_right (among "~?" x) false h in cc
colon_refuses (x ∷ y ∷ w) rest h e =
    let word = and_right (among "~?" x) (is_word (y ∷ w)) h in
    let start = and_left (is_word_start y) (list_all is_identifier_byte w) word in
    let mark = and_left (among "~?" x) (is_word (y ∷ w)) h in
    let runs : run (w ++ (byte ":" ∷ rest)) ≡ length w = label_runs y w (byte ":" ∷ rest) word ∙ omega arith in
    let size = colon_size w rest runs in
    label_refused x y (w ++ (byte ":" ∷ rest)) (length (x ∷ y ∷ w) + 1) mark start (omega (arith, size))
    (sym (label_lexeme x y (w ++ (byte ":" ∷ rest)) mark start) ∙ e)

label_all : (f rest : List ℕ) → IsLabel f → Refuses (length f) (f ++ rest)
label_all f rest (IsLabel.without_colon text h) e = label_refuses text rest h e
label_all f rest (IsLabel.with_colon text h) e =
    let joined = last_byte text (byte ":") rest in
    let size : length (text ++ codes ":") ≡ length text + 1 = length-append text (codes ":") in
    subst (λ v. IsRefused v (length (text ++ codes ":"))) (sym joined)
    (subst (λ n. IsRefused (text ++ (byte ":" ∷ rest)) n) (sym size) (colon_refuses text rest h (ap lexeme_at (sym joined) ∙ e)))

-- ---- numbers

number_refuses : (f rest : List ℕ) (x : ℕ) (s : List ℕ) → f ++ rest ≡ x ∷ s → is_ascii_digit x ≡ true → length f ≤ span (f ++ rest)
    → Refuses (length f) (f ++ rest)
number_refuses f rest x s same digit fits e =
    let bad = number_bad x s digit (sym (number_lexeme x s digit) ∙ ap lexeme_at (sym same) ∙ e) in
    subst (λ v. IsRefused v (length f)) (sym same) (IsRefused.bad bad.0 (span (x ∷ s)) bad.1 bad.2 (subst (λ v. length f ≤ span v) same fits))

digits_head : (base : Base) (digits : List ℕ) → AreDigits base digits → (x : ℕ) × (s : List ℕ) × (digits ≡ x ∷ s) × (is_ascii_digit x ≡ true)
digits_head base digits (AreDigits.decimal first f d all) = (first, f, refl, d)
digits_head base digits (AreDigits.based own letter first f h d all) = (byte "0", letter ∷ first ∷ f, refl, refl)

-- a number with these digits in front
digits_refuse : (base : Base) (digits more rest : List ℕ) → AreDigits base digits → length (digits ++ more) ≤ span ((digits ++ more) ++ rest)
    → Refuses (length (digits ++ more)) ((digits ++ more) ++ rest)
digits_refuse base digits tail rest is fits e =
    let head = digits_head base digits is in
    number_refuses (digits ++ tail) rest head.0 ((head.1 ++ tail) ++ rest) (ap (λ v. (v ++ tail) ++ rest) head.2) head.3 fits e

int_refuses : (f rest : List ℕ) → IsInt f → Refuses (length f) (f ++ rest)
int_refuses f rest (IsInt.int base digits suffix is e) =
    digits_refuse base digits suffix rest is (int_span (digits ++ suffix) rest (IsInt.int base digits suffix is e))

float_refuses : (f rest : List ℕ) → IsFloat f → Refuses (length f) (f ++ rest)
float_refuses f rest (IsFloat.with_fraction base digits point is g has) =
    digits_refuse base digits point rest is (float_span (digits ++ point) rest (IsFloat.with_fraction base digits point is g has))
float_refuses f rest (IsFloat.with_exponent base digits power is g has) =
    digits_refuse base digits power rest is (float_span (digits ++ power) rest (IsFloat.with_exponent base digits power is g has))
float_refuses f rest (IsFloat.with_both base digits point power is g i has) =
    digits_refuse base digits (point ++ power) rest is
    (float_span (digits ++ (point ++ power)) rest (IsFloat.with_both base digits point power is g i has))

-- ---- what is quoted

ended_never : (kind : Class) (o : Option ℕ) (n : ℕ) → o ≡ Some n → ended kind o ≡ piece.Bad → ⊥
ended_never kind None n h e = cc
ended_never kind (Some k) n h e = cc

char_never : (o : Option ℕ) (b : List ℕ) (n : ℕ) → o ≡ Some n → char_or_variable o b ≡ piece.Bad → ⊥
char_never None b n h e = cc
char_never (Some k) b n h e = cc

pub text_bad : (f rest : List ℕ) → IsTextLexeme f → lexeme_at (f ++ rest) ≡ piece.Bad → ⊥
text_bad f rest (IsTextLexeme.closed body is) e =
    let s = (body ++ codes "\"") ++ rest in
    let whole : text_length (byte "\"" ∷ s) ≡ Some (1 + length body + 1) = ap (text_end 1 false) (last_byte body (byte "\"") rest)
    ∙ text_whole body rest 1 is in
    ended_never class.Text (text_length (byte "\"" ∷ s)) (1 + length body + 1) whole (sym (text_lexeme s) ∙ e)

pub quoted_bad : (f rest : List ℕ) → IsQuoted f → lexeme_at (f ++ rest) ≡ piece.Bad → ⊥
quoted_bad f rest (IsQuoted.quoted word t h is) e =
    let s = word ++ (byte "|" ∷ (t ++ rest)) in
    let joined : (word ++ (byte "|" ∷ t)) ++ rest ≡ s = append_assoc word (byte "|" ∷ t) rest in
    let at : lexeme_at (byte "{" ∷ s) ≡ piece.Bad = ap (λ v. lexeme_at (byte "{" ∷ v)) (sym joined) ∙ e in
    ended_never class.Quoted (quoted_length (byte "{" ∷ s)) (length word + 2 + length t) (quoted_exact word t rest h is)
    (sym (quoted_lexeme s (quoted_opens word (t ++ rest) h)) ∙ at)

char_bad : (f rest : List ℕ) → IsChar f → lexeme_at (f ++ rest) ≡ piece.Bad → ⊥
char_bad f rest is e =
    let first = char_first f is in
    let same : f ++ rest ≡ byte "'" ∷ (first.0 ++ rest) = ap (λ v. v ++ rest) first.1 in
    let at : lexeme_at (byte "'" ∷ (first.0 ++ rest)) ≡ piece.Bad = ap lexeme_at (sym same) ∙ e in
    let whole : char_length (byte "'" ∷ (first.0 ++ rest)) ≡ Some (length f) = ap char_length (sym same) ∙ char_whole f rest is in
    char_never (char_length (byte "'" ∷ (first.0 ++ rest))) (byte "'" ∷ (first.0 ++ rest)) (length f) whole
    (sym (quote_lexeme (first.0 ++ rest)) ∙ at)

-- ---- signs

operator_never : (t : Bool) (n : ℕ) (b : List ℕ) → cond t (piece.Lexeme class.Mark n) (operator_at b) ≡ piece.Bad → ⊥
operator_never true n b e = cc
operator_never false n b e =
    let wrong : ◌≡◌ {A = Piece} (piece.Lexeme (operator_of (take (1 + operator_length (drop 1 b)) b)) (1 + operator_length (drop 1 b))) piece.Bad =
    sym (operator_at_length b _ refl) ∙ e in cc

-- a Label that begins with the byte
label_of_run : (x : ℕ) (s : List ℕ) → begins_label (x ∷ s) ≡ true → label_at (x ∷ s) ≡ piece.Bad → IsRefused (x ∷ s) 1
label_of_run x [] h e = absurd (label_short x h)
label_of_run x (y ∷ s) h e =
    let starts = label_starts x y s h in
    label_refused x y s 1 starts.0 starts.1 (omega arith) e

-- a run of operator characters is Bad only if a Label is
run_refuses : (x : ℕ) (s : List ℕ) → starts_run x ≡ true → Refuses 1 (x ∷ s)
run_refuses x s h e =
    let at = sym (run_choice x s h) ∙ e in
    elim (which (begins_label (x ∷ s))) [
      | inl label ↦ label_of_run x s label (rw label at at)
      | inr sign ↦
          let is : sign_at (x ∷ s) ≡ piece.Bad = rw sign at at in
          let tests = sym (sign_tests (x ∷ s) _ true refl (operator_begins x s h)) ∙ is in
          absurd (operator_never (nat_lt 1 (mark_length (x ∷ s))) (mark_length (x ∷ s)) (x ∷ s) tests)
    ]

run_never : (x : ℕ) (s : List ℕ) → starts_run x ≡ true → begins_label (x ∷ s) ≡ false → lexeme_at (x ∷ s) ≡ piece.Bad → ⊥
run_never x s h sign e =
    let at = sym (run_choice x s h) ∙ e in
    let is : sign_at (x ∷ s) ≡ piece.Bad = rw sign at at in
    let tests = sym (sign_tests (x ∷ s) _ true refl (operator_begins x s h)) ∙ is in
    operator_never (nat_lt 1 (mark_length (x ∷ s))) (mark_length (x ∷ s)) (x ∷ s) tests

-- no Label begins with such a byte
no_label : (x : ℕ) (s : List ℕ) → among "~?" x ≡ false → begins_label (x ∷ s) ≡ false
unfolding begins_label
no_label x s h = rw h refl

-- nor before an operator character
no_word : (x y : ℕ) (s : List ℕ) → is_operator_byte y ≡ true → begins_label (x ∷ y ∷ s) ≡ false
no_word x y s op = run_label x y s (among_fails is_word_start (codes "!$%&*+-./:<=>?@^|~") y refl op)

long_run : (x y : ℕ) (f rest : List ℕ) → starts_run x ≡ true → is_operator_byte y ≡ true → lexeme_at ((x ∷ y ∷ f) ++ rest) ≡ piece.Bad → ⊥
long_run x y f rest h op e = run_never x (y ∷ (f ++ rest)) h (no_word x y (f ++ rest) op) e

tilde_bad : (x : ℕ) (f rest : List ℕ) → is_operator "~?" (x ∷ f) ≡ true → nat_lt 1 (length (x ∷ f)) ≡ true → lexeme_at ((x ∷ f) ++ rest) ≡ piece.Bad
    → ⊥
tilde_bad x [] rest h long e = cc
tilde_bad x (y ∷ f) rest h long e =
    let first = and_left (among "~?" x) (list_all is_operator_byte (y ∷ f)) h in
    let all = and_right (among "~?" x) (list_all is_operator_byte (y ∷ f)) h in
    long_run x y f rest (among_passes starts_run (codes "~?") x refl first) (and_left (is_operator_byte y) (list_all is_operator_byte f) all) e

prefix_bad : (f rest : List ℕ) → is_prefix f ≡ true → lexeme_at (f ++ rest) ≡ piece.Bad → ⊥
prefix_bad [] rest h e = cc
prefix_bad (x ∷ f) rest h e =
    elim (or_cases (is_operator "!" (x ∷ f) && not (bytes_eq (x ∷ f) (codes "!="))) (is_operator "~?" (x ∷ f) && nat_lt 1 (length (x ∷ f))) h) [
      | inl y ↦
          let op = and_left (is_operator "!" (x ∷ f)) (not (bytes_eq (x ∷ f) (codes "!="))) y in
          let first = and_left (among "!" x) (list_all is_operator_byte f) op in
          run_never x (f ++ rest) (among_passes starts_run (codes "!") x refl first)
          (no_label x (f ++ rest) (among_fails (among "~?") (codes "!") x refl first)) e
      | inr y ↦ tilde_bad x f rest (and_left (is_operator "~?" (x ∷ f)) (nat_lt 1 (length (x ∷ f))) y)
          (and_right (is_operator "~?" (x ∷ f)) (nat_lt 1 (length (x ∷ f))) y) e
    ]

infix_bad : (f rest : List ℕ) → is_infix f ≡ true → lexeme_at (f ++ rest) ≡ piece.Bad → ⊥
infix_bad [] rest h e = cc
infix_bad (x ∷ f) rest h e = elim (or_cases (is_operator "=<>@^|&+-*/$%#" (x ∷ f)) (bytes_eq (x ∷ f) (codes "!=")) h) [
  | inl y ↦
      let first = and_left (among "=<>@^|&+-*/$%#" x) (list_all is_operator_byte f) y in
      run_never x (f ++ rest) (among_passes starts_run (codes "=<>@^|&+-*/$%#") x refl first)
      (no_label x (f ++ rest) (among_fails (among "~?") (codes "=<>@^|&+-*/$%#") x refl first)) e
  | inr y ↦
      let same = texts_same (x ∷ f) (codes "!=") y in
      run_never (byte "!") (codes "=" ++ rest) refl (no_label (byte "!") (codes "=" ++ rest) refl) (ap (λ v. lexeme_at (v ++ rest)) (sym same) ∙ e)
]

-- ---- marks

abbrev MarkRefuses : List ℕ → Type 0
MarkRefuses mark = (rest : List ℕ) → Refuses (length mark) (mark ++ rest)

mark_never : (t : Bool) (n : ℕ) → t ≡ true → cond t (piece.Lexeme class.Mark n) piece.Bad ≡ piece.Bad → ⊥
mark_never true n h e = cc
mark_never false n h e = cc

some_cond : (t : Bool) (n m : ℕ) → 0 < n → 0 < m → 0 < cond t n m
some_cond true n m one two = one
some_cond false n m one two = two

-- if the first byte is a Mark of one byte, a Mark begins
mark_positive : (b : List ℕ) → among "()[]{};,.:" (get_or b 0 0) ≡ true → 0 < mark_length b
unfolding mark_length
mark_positive b h = rw h (
    some_cond (is_at "[" 0 b && is_at "%" 1 b && is_at "%" 2 b) 3 _ (omega arith) (
    some_cond (is_at "[" 0 b && among "|<>%" (get_or b 1 0)) 2 _ (omega arith) (
    some_cond (is_at "{" 0 b && is_at "%" 1 b) 2 _ (omega arith) (
    some_cond (is_at "|" 0 b && is_at "]" 1 b) 2 _ (omega arith) (
    some_cond (is_at ";" 0 b && is_at ";" 1 b) 2 _ (omega arith) (
    some_cond (is_at "." 0 b && is_at "." 1 b) 2 _ (omega arith) (
    some_cond (is_at ":" 0 b && among ":=>" (get_or b 1 0)) 2 1 (omega arith) (omega arith))))))))

mark_some : (t : Bool) (n : ℕ) → 0 < n → cond t (piece.Lexeme class.Mark n) (mark_of n) ≡ piece.Bad → ⊥
mark_some true n some e = cc
mark_some false n some e = mark_never (nat_lt 0 n) n (grind (arith, nat_tests, some)) e

-- a sign that begins with a Mark of one byte is not Bad
signs_never : (b : List ℕ) → begins_operator b ≡ false → among "()[]{};,.:" (get_or b 0 0) ≡ true → sign_at b ≡ piece.Bad → ⊥
signs_never b nay h e = mark_some (nat_lt 1 (mark_length b)) (mark_length b) (mark_positive b h) (sym (sign_tests b _ false refl nay) ∙ e)

only_refuses : (c : ℕ) (f : List ℕ) → OnlyMarks c → among "()[]{};,.:" c ≡ true → MarkRefuses (c ∷ f)
only_refuses c f is h rest e = absurd (signs_never ((c ∷ f) ++ rest) (is.no_run (f ++ rest)) h (sym (is.signs (f ++ rest)) ∙ e))

brace_refuses : (f : List ℕ) → MarkRefuses (byte "{" ∷ f)
brace_refuses f rest e = elim (which (opens_quoted (byte "{" ∷ (f ++ rest)))) [
  | inl opens ↦ IsRefused.quoted opens
  | inr closed ↦ absurd (signs_never (byte "{" ∷ (f ++ rest)) (brace_run (f ++ rest)) refl (sym (brace_signs (f ++ rest) closed) ∙ e))
]

-- a run that begins no Label
run_mark_refuses : (x : ℕ) (f : List ℕ) → starts_run x ≡ true → among "~?" x ≡ false → MarkRefuses (x ∷ f)
run_mark_refuses x f h nay rest e = absurd (run_never x (f ++ rest) h (no_label x (f ++ rest) nay) e)

tilde_refuses : (x : ℕ) → starts_run x ≡ true → MarkRefuses (x ∷ [])
tilde_refuses x h rest e = run_refuses x rest h e

each_mark : Each MarkRefuses marks
each_mark =
    Each.more (only_refuses 40 [] only_marks.0 refl)
    (Each.more (only_refuses 41 [] only_marks.1 refl)
    (Each.more (only_refuses 91 [] only_marks.2 refl) (Each.more (only_refuses 93 [] only_marks.3 refl) (
    Each.more (brace_refuses [])
    (Each.more (only_refuses 125 [] only_marks.4 refl)
    (Each.more (only_refuses 91 (codes "|") only_marks.2 refl) (Each.more (run_mark_refuses 124 (codes "]") refl refl) (
    Each.more (only_refuses 91 (codes "<") only_marks.2 refl)
    (Each.more (only_refuses 91 (codes ">") only_marks.2 refl) (Each.more (only_refuses 91 (codes "%") only_marks.2 refl) (
    Each.more (only_refuses 91 (codes "%%") only_marks.2 refl)
    (Each.more (brace_refuses (codes "%")) (Each.more (only_refuses 59 [] only_marks.5 refl) (
    Each.more (only_refuses 59 (codes ";") only_marks.5 refl)
    (Each.more (only_refuses 44 [] only_marks.6 refl)
    (Each.more (only_refuses 46 [] only_marks.7 refl) (Each.more (only_refuses 46 (codes ".") only_marks.7 refl) (
    Each.more (only_refuses 58 [] only_marks.8 refl)
    (Each.more (only_refuses 58 (codes ":") only_marks.8 refl)
    (Each.more (only_refuses 58 (codes "=") only_marks.8 refl) (Each.more (only_refuses 58 (codes ">") only_marks.8 refl) (
    Each.more (run_mark_refuses 45 (codes ">") refl refl) (Each.more (run_mark_refuses 60 (codes "-") refl refl) (
    Each.more (run_mark_refuses 124 [] refl refl) (Each.more (run_mark_refuses 61 [] refl refl) (
    Each.more (tilde_refuses 126 refl) (Each.more (tilde_refuses 63 refl) Each.none)))))))))))))))))))))))))))

mark_refuses : (f rest : List ℕ) → is_mark f ≡ true → Refuses (length f) (f ++ rest)
mark_refuses f rest h = one_of_each MarkRefuses marks f each_mark h rest

-- ---- all classes

moved : (bytes : List ℕ) (m : ℕ) → m ≤ length bytes → Refuses (length (take m bytes)) (take m bytes ++ drop m bytes) → Refuses m bytes
moved bytes m fits refuses e =
    let refused = refuses (ap lexeme_at (take-append-drop m bytes) ∙ e) in
    subst (λ n. IsRefused bytes n) (length-take-le m bytes fits)
    (subst (λ v. IsRefused v (length (take m bytes))) (take-append-drop m bytes) refused)

refuse : (other : Class) (bytes : List ℕ) (m : ℕ) → Begins other m bytes → Refuses m bytes
refuse class.Lower bytes m h =
    moved bytes m h.0 (word_refuses (take m bytes) (drop m bytes)
    (and_left (is_word (take m bytes)) (starts_as_value_name (take m bytes))
    (and_left (is_word (take m bytes) && starts_as_value_name (take m bytes)) (not (is_reserved_word (take m bytes))) h.1)))
refuse class.Upper bytes m h =
    moved bytes m h.0 (word_refuses (take m bytes) (drop m bytes)
    (and_left (is_word (take m bytes)) (is_ascii_uppercase (get_or (take m bytes) 0 0)) h.1))
refuse class.Keyword bytes m h = moved bytes m h.0 (word_refuses (take m bytes) (drop m bytes) (keyword_is_word (take m bytes) h.1))
refuse class.Int bytes m h = moved bytes m h.0 (int_refuses (take m bytes) (drop m bytes) h.1)
refuse class.Float bytes m h = moved bytes m h.0 (float_refuses (take m bytes) (drop m bytes) h.1)
refuse class.Char bytes m h = moved bytes m h.0 (λ e. absurd (char_bad (take m bytes) (drop m bytes) h.1 e))
refuse class.Text bytes m h = moved bytes m h.0 (λ e. absurd (text_bad (take m bytes) (drop m bytes) h.1 e))
refuse class.Quoted bytes m h = moved bytes m h.0 (λ e. absurd (quoted_bad (take m bytes) (drop m bytes) h.1 e))
refuse class.TypeVar bytes m h =
    moved bytes m h.0 (variable_refuses (take m bytes) (drop m bytes) h.1 (ap char_length (take-append-drop m bytes) ∙ no_char bytes h.2.1))
refuse class.Tag bytes m h = moved bytes m h.0 (tag_refuses (take m bytes) (drop m bytes) h.1)
refuse class.Label bytes m h = moved bytes m h.0 (label_all (take m bytes) (drop m bytes) h.1)
refuse class.Prefix bytes m h = moved bytes m h.0 (λ e. absurd (prefix_bad (take m bytes) (drop m bytes) h.1 e))
refuse class.Infix bytes m h = moved bytes m h.0 (λ e. absurd (infix_bad (take m bytes) (drop m bytes) h.1 e))
refuse class.Mark bytes m h = moved bytes m h.0 (mark_refuses (take m bytes) (drop m bytes) h.1)

pub bad_is_refused : BadIsRefused
bad_is_refused bytes e other m begins =
    elim (bad_cond (among " \t\n\r\u{c}" (get_or bytes 0 0)) (opens_comment bytes) (is_at "[" 0 bytes && is_at "@" 1 bytes) (comment_length bytes)
    (attribute_length bytes) (lexeme_at bytes) (sym (piece_tests bytes _ _ refl refl) ∙ e)) [
      | inl comment ↦ IsRefused.comment comment
      | inr rest ↦ elim rest [
        | inl attribute ↦ IsRefused.attribute attribute
        | inr lexeme ↦ refuse other bytes m begins lexeme
      ]
    ]
