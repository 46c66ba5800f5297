-- Where a Prefix, an Infix or a Mark of the table begins, what is taken is no shorter.
use Rattle.std.proofs.Common.{◌≡◌, ℕ, ◌+◌, inl, inr, List, [], ◌∷◌, ◌++◌, Bool, true, false, not, cond, ◌==◌, ◌&&◌, length, drop, take, get_or}
use Rattle.std.proofs.Common.{nat_lt, refl, sym, subst, ◌∙◌, arith}
use Rattle.std.specs.List.{list_all, list_any}
use Rattle.std.specs.Prelude.{codes}
use Rattle.std.specs.Str.{byte, bytes_eq}
use Rattle.std.specs.Char.{is_ascii_digit}
use Prim.Native.String.{String}
use Rattle.rotor_base.specs.declared.token.Class.{Class}
use Rattle.rotor_base.specs.declared.token.Class.TheVariants as class
use Rattle.ml_lexer.specs.declared.piece.Piece.{Piece}
use Rattle.ml_lexer.specs.declared.piece.Piece.TheVariants as piece
use Rattle.ml_lexer.specs.Bytes.{among, is_word_start, is_operator_byte, operator_length}
use Rattle.ml_lexer.specs.Quotes.{opens_quoted}
use Rattle.ml_lexer.specs.Pieces.{operator_of, mark_length, begins_label, begins_operator, sign_at, lexeme_at}
use Rattle.ml_lexer.proofs.Local.{which, and_left, and_right, and_false}
use Rattle.ml_lexer.proofs.Signs.{operator_at_length}
use Rattle.ml_lexer.proofs.Marks.{sign_tests}
use Rattle.ml_lexer.proofs.Apart.{lexeme_tests}
use Rattle.ml_lexer.proofs.Fronts.{lexeme_of_piece}
use Rattle.lexeme_laws.specs.Table.{is_operator, is_prefix, is_infix, is_mark, marks}
use Rattle.lexeme_laws.proofs.Tests.{among_fails, among_passes, or_cases, run_over, texts_same}
use Rattle.lexeme_laws.proofs.WordReach.{Reaches, reaches_one}

-- the bytes that begin a run of operator characters
abbrev pub starts_run : ℕ → Bool
starts_run x = among "#!$%&*+-/<=>?@^|~" x

pub run_opens : (x : ℕ) (s : List ℕ) → starts_run x ≡ true → opens_quoted (x ∷ s) ≡ false
unfolding opens_quoted
run_opens x s h = rw (among_fails (λ c. c == byte "{") (codes "#!$%&*+-/<=>?@^|~") x refl h) refl

pub run_label : (x y : ℕ) (s : List ℕ) → is_word_start y ≡ false → begins_label (x ∷ y ∷ s) ≡ false
unfolding begins_label
run_label x y s h = rw h (and_false (among "~?" x))

pub operator_begins : (x : ℕ) (s : List ℕ) → starts_run x ≡ true → begins_operator (x ∷ s) ≡ true
unfolding begins_operator
operator_begins x s h = h

run_sign : (x y : ℕ) (s : List ℕ) → starts_run x ≡ true → is_word_start y ≡ false → lexeme_at (x ∷ y ∷ s) ≡ sign_at (x ∷ y ∷ s)
run_sign x y s h nay =
    let word = among_fails is_word_start (codes "#!$%&*+-/<=>?@^|~") x refl h in
    let digit = among_fails is_ascii_digit (codes "#!$%&*+-/<=>?@^|~") x refl h in
    let text = among_fails (λ c. c == byte "\"") (codes "#!$%&*+-/<=>?@^|~") x refl h in
    let quote = among_fails (λ c. c == byte "'") (codes "#!$%&*+-/<=>?@^|~") x refl h in
    let tag = among_fails (λ c. c == byte "`") (codes "#!$%&*+-/<=>?@^|~") x refl h in
    lexeme_tests (x ∷ y ∷ s) false false (run_opens x (y ∷ s) h) (run_label x y s nay) ∙ rw (word, digit, text, quote, tag) refl

pub run_mark : (x y : ℕ) (s : List ℕ) → starts_run x ≡ true → is_operator_byte y ≡ true → mark_length (x ∷ y ∷ s) ≡ 0
unfolding mark_length
run_mark x y s h op =
    let bracket = among_fails (λ c. c == byte "[") (codes "#!$%&*+-/<=>?@^|~") x refl h in
    let brace = among_fails (λ c. c == byte "{") (codes "#!$%&*+-/<=>?@^|~") x refl h in
    let closing = among_fails (λ c. c == byte "]") (codes "!$%&*+-./:<=>?@^|~") y refl op in
    let semicolon = among_fails (λ c. c == byte ";") (codes "#!$%&*+-/<=>?@^|~") x refl h in
    let point = among_fails (λ c. c == byte ".") (codes "#!$%&*+-/<=>?@^|~") x refl h in
    let colon = among_fails (λ c. c == byte ":") (codes "#!$%&*+-/<=>?@^|~") x refl h in
    let single = among_fails (among "()[]{};,.:") (codes "#!$%&*+-/<=>?@^|~") x refl h in
    rw (bracket, brace, closing, and_false (x == byte "|"), semicolon, point, colon, single) refl

pub lexeme_size : (k kind : Class) (n m : ℕ) → ◌≡◌ {A = Piece} (piece.Lexeme kind n) (piece.Lexeme k m) → n ≡ m
lexeme_size k kind n m e = cc

pub run_reaches : (x : ℕ) (f rest : List ℕ) → starts_run x ≡ true → list_all is_operator_byte f ≡ true → Reaches (length (x ∷ f)) ((x ∷ f) ++ rest)
run_reaches x [] rest h all k m e = reaches_one (x ∷ rest) k m e
run_reaches x (y ∷ f) rest h all k m e =
    let b = (x ∷ y ∷ f) ++ rest in
    let op = and_left (is_operator_byte y) (list_all is_operator_byte f) all in
    let nay = among_fails is_word_start (codes "!$%&*+-./:<=>?@^|~") y refl op in
    let sign = sign_tests b 0 true (run_mark x y (f ++ rest) h op) (operator_begins x (y ∷ (f ++ rest)) h) in
    let at = sym (operator_at_length b _ refl) ∙ sym sign ∙ sym (run_sign x y (f ++ rest) h nay) ∙ lexeme_of_piece b k m e in
    let n = lexeme_size k (operator_of (take (1 + operator_length (drop 1 b)) b)) (1 + operator_length (drop 1 b)) m at in
    let run = run_over is_operator_byte (y ∷ f) rest all in
    omega (arith, n, run)

operator_reaches : (firsts : String) (f rest : List ℕ) → list_all starts_run (codes firsts) ≡ true → is_operator firsts f ≡ true
    → Reaches (length f) (f ++ rest)
operator_reaches firsts [] rest starts h k m e = omega arith
operator_reaches firsts (x ∷ f) rest starts h k m e =
    run_reaches x f rest (among_passes starts_run (codes firsts) x starts (and_left (among firsts x) (list_all is_operator_byte f) h))
    (and_right (among firsts x) (list_all is_operator_byte f) h) k m e

pub prefix_reaches : (f rest : List ℕ) → is_prefix f ≡ true → Reaches (length f) (f ++ rest)
prefix_reaches f rest h k m e = elim (or_cases (is_operator "!" f && not (bytes_eq f (codes "!="))) (is_operator "~?" f && nat_lt 1 (length f)) h) [
  | inl y ↦ operator_reaches "!" f rest refl (and_left (is_operator "!" f) (not (bytes_eq f (codes "!="))) y) k m e
  | inr y ↦ operator_reaches "~?" f rest refl (and_left (is_operator "~?" f) (nat_lt 1 (length f)) y) k m e
]

pub infix_reaches : (f rest : List ℕ) → is_infix f ≡ true → Reaches (length f) (f ++ rest)
infix_reaches f rest h k m e = elim (or_cases (is_operator "=<>@^|&+-*/$%#" f) (bytes_eq f (codes "!=")) h) [
  | inl y ↦ operator_reaches "=<>@^|&+-*/$%#" f rest refl y k m e
  | inr y ↦ subst (λ v. Reaches (length v) (v ++ rest)) (sym (texts_same f (codes "!=") y)) (run_reaches (byte "!") (codes "=") rest refl refl) k m
      e
]

-- each of these texts has this
pub data Each (P : List ℕ → Type 0) : List (List ℕ) → Type 0 where
  none : Each P []
  more : {text : List ℕ} {texts : List (List ℕ)} → P text → Each P texts → Each P (text ∷ texts)

pub one_of_each : (P : List ℕ → Type 0) (texts : List (List ℕ)) (text : List ℕ) → Each P texts → list_any (λ mark. bytes_eq mark text) texts ≡ true
    → P text
one_of_each P [] text each e = cc
one_of_each P (t ∷ texts) text (more here each) e = elim (or_cases (bytes_eq t text) (list_any (λ mark. bytes_eq mark text) texts) e) [
  | inl y ↦ subst P (texts_same t text y) here
  | inr y ↦ one_of_each P texts text each y
]

abbrev MarkReaches : List ℕ → Type 0
MarkReaches mark = (rest : List ℕ) → Reaches (length mark) (mark ++ rest)

single : (c : ℕ) → MarkReaches (c ∷ [])
single c rest k m e = reaches_one (c ∷ rest) k m e

-- what the bytes of a longer Mark give
abbrev pub GivesMark : ℕ → List ℕ → Type 0
GivesMark n mark = (rest : List ℕ) → lexeme_at (mark ++ rest) ≡ piece.Lexeme class.Mark n

exact : (mark : List ℕ) (n : ℕ) → length mark ≡ n → GivesMark n mark → MarkReaches mark
exact mark n size gives rest k m e =
    let at = lexeme_size k class.Mark n m (sym (gives rest) ∙ lexeme_of_piece (mark ++ rest) k m e) in
    omega (arith, size, at)

pub brackets : GivesMark 2 (codes "[|") × GivesMark 2 (codes "[<") × GivesMark 2 (codes "[>") × GivesMark 3 (codes "[%%")
unfolding lexeme_at opens_quoted begins_label sign_at mark_length
brackets = (λ rest. refl, λ rest. refl, λ rest. refl, λ rest. refl)

pub others : GivesMark 2 (codes "|]") × GivesMark 2 (codes "{%") × GivesMark 2 (codes ";;") × GivesMark 2 (codes "..") × GivesMark 2 (codes "::")
    × GivesMark 2 (codes ":=") × GivesMark 2 (codes ":>")
unfolding lexeme_at opens_quoted begins_label sign_at mark_length
others = (λ rest. refl, λ rest. refl, λ rest. refl, λ rest. refl, λ rest. refl, λ rest. refl, λ rest. refl)

percent_mark : (rest : List ℕ) (t : Bool) → (get_or rest 0 0 == byte "%") ≡ t
    → lexeme_at (codes "[%" ++ rest) ≡ piece.Lexeme class.Mark (cond t 3 2)
unfolding lexeme_at opens_quoted begins_label sign_at mark_length
percent_mark rest true e = rw e refl
percent_mark rest false e = rw e refl

percent : MarkReaches (codes "[%")
percent rest k m e = elim (which (get_or rest 0 0 == byte "%")) [
  | inl y ↦ let at = lexeme_size k class.Mark 3 m (sym (percent_mark rest true y) ∙ lexeme_of_piece (codes "[%" ++ rest) k m e) in omega (arith, at)
  | inr y ↦ let at = lexeme_size k class.Mark 2 m (sym (percent_mark rest false y) ∙ lexeme_of_piece (codes "[%" ++ rest) k m e) in omega
      (arith, at)
]

arrow : MarkReaches (codes "->")
arrow rest k m e = run_reaches (byte "-") (codes ">") rest refl refl k m e

back_arrow : MarkReaches (codes "<-")
back_arrow rest k m e = run_reaches (byte "<") (codes "-") rest refl refl k m e

each_mark : Each MarkReaches marks
each_mark =
    more (single 40) (more (single 41) (more (single 91) (more (single 93) (more (single 123) (more (single 125) (
    more (exact (codes "[|") 2 refl brackets.0) (more (exact (codes "|]") 2 refl others.0) (more (exact (codes "[<") 2 refl brackets.1) (
    more (exact (codes "[>") 2 refl brackets.2)
    (more percent (more (exact (codes "[%%") 3 refl brackets.3) (more (exact (codes "{%") 2 refl others.1) (
    more (single 59) (more (exact (codes ";;") 2 refl others.2) (more (single 44) (more (single 46) (more (exact (codes "..") 2 refl others.3) (
    more (single 58) (more (exact (codes "::") 2 refl others.4)
    (more (exact (codes ":=") 2 refl others.5) (more (exact (codes ":>") 2 refl others.6) (
    more arrow (more back_arrow (more (single 124) (more (single 61) (more (single 126) (more (single 63) none)))))))))))))))))))))))))))

pub mark_reaches : (f rest : List ℕ) → is_mark f ≡ true → Reaches (length f) (f ++ rest)
mark_reaches f rest h = one_of_each MarkReaches marks f each_mark h rest
