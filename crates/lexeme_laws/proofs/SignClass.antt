-- If a Prefix, an Infix or a Mark of the table is taken whole, it has its class, but an Infix may be a Mark.
use Rattle.std.proofs.Common.{◌≡◌, ℕ, ◌+◌, ◌⊎◌, inl, inr, List, [], ◌∷◌, ◌++◌, Bool, true, false, not, cond, ◌==◌, ◌&&◌, length, drop, take}
use Rattle.std.proofs.Common.{get_or, nat_lt, refl, ap, sym, ◌∙◌, arith}
use Rattle.std.specs.List.{list_all}
use Rattle.std.specs.Prelude.{codes}
use Rattle.std.specs.Char.{is_ascii_digit}
use Rattle.std.specs.Str.{byte, bytes_eq}
use Rattle.std.proofs.lemmas.Bool.Decides.{nat_tests}
use Rattle.rotor_base.specs.declared.token.Class.{Class}
use Rattle.rotor_base.specs.declared.token.Class.TheVariants as class
use Rattle.ml_lexer.specs.declared.piece.Piece.TheVariants as piece
use Rattle.ml_lexer.specs.Bytes.{among, is_word_start, is_operator_byte, operator_length}
use Rattle.ml_lexer.specs.Quotes.{opens_quoted}
use Rattle.ml_lexer.specs.Pieces.{is_text, is_mark_operator, operator_of, operator_at, mark_length, begins_label, begins_operator, label_at}
use Rattle.ml_lexer.specs.Pieces.{sign_at, lexeme_at, piece_at}
use Rattle.ml_lexer.proofs.Local.{which, and_left, and_right}
use Rattle.ml_lexer.proofs.Words.{take_front}
use Rattle.ml_lexer.proofs.Signs.{operator_at_length, label_long}
use Rattle.ml_lexer.proofs.Marks.{sign_tests}
use Rattle.ml_lexer.proofs.Apart.{lexeme_tests}
use Rattle.ml_lexer.proofs.Fronts.{lexeme_of_piece, quoted_is_long}
use Rattle.lexeme_laws.specs.Table.{is_operator, is_prefix, is_infix, is_mark, marks}
use Rattle.lexeme_laws.proofs.Tests.{among_fails, among_passes, among_one, among_two, or_cases, not_true, texts_same}
use Rattle.lexeme_laws.proofs.SignReach.{starts_run, run_opens, run_label, operator_begins, run_mark, Each, none, more, one_of_each, GivesMark}
use Rattle.lexeme_laws.proofs.SignReach.{others}
use Rattle.lexeme_laws.proofs.SignSound.{operator_tests, lexeme_parts}
use Rattle.lexeme_laws.proofs.WordClass.{Gives}

-- ---- runs of operator characters

pub run_choice : (x : ℕ) (s : List ℕ) → starts_run x ≡ true → lexeme_at (x ∷ s) ≡ cond (begins_label (x ∷ s)) (label_at (x ∷ s)) (sign_at (x ∷ s))
run_choice x s h =
    let word = among_fails is_word_start (codes "#!$%&*+-/<=>?@^|~") x refl h in
    let digit = among_fails is_ascii_digit (codes "#!$%&*+-/<=>?@^|~") x refl h in
    let text = among_fails (λ c. c == byte "\"") (codes "#!$%&*+-/<=>?@^|~") x refl h in
    let quote = among_fails (λ c. c == byte "'") (codes "#!$%&*+-/<=>?@^|~") x refl h in
    let tag = among_fails (λ c. c == byte "`") (codes "#!$%&*+-/<=>?@^|~") x refl h in
    lexeme_tests (x ∷ s) false _ (run_opens x s h) refl ∙ rw (word, digit, text, quote, tag) refl

-- no Label begins that has the length of the run
label_differs : (x : ℕ) (f rest : List ℕ) → list_all is_operator_byte f ≡ true → begins_label ((x ∷ f) ++ rest) ≡ true → (k : Class) (m : ℕ)
    → label_at ((x ∷ f) ++ rest) ≡ piece.Lexeme k m → length (x ∷ f) ≡ m → ⊥
label_differs x [] rest all h k m e size = let long = label_long k (x ∷ rest) m e in omega (arith, long, size)
label_differs x (y ∷ f) rest all h k m e size =
    let op = and_left (is_operator_byte y) (list_all is_operator_byte f) all in
    let nay = among_fails is_word_start (codes "!$%&*+-./:<=>?@^|~") y refl op in
    let wrong : true ≡ false = sym h ∙ run_label x y (f ++ rest) nay in
    cc

-- nor a Mark of two bytes or more
mark_differs : (x : ℕ) (f rest : List ℕ) → starts_run x ≡ true → list_all is_operator_byte f ≡ true
    → nat_lt 1 (mark_length ((x ∷ f) ++ rest)) ≡ true → mark_length ((x ∷ f) ++ rest) ≡ length (x ∷ f) → ⊥
mark_differs x [] rest h all long size = grind (arith, nat_tests, long, size)
mark_differs x (y ∷ f) rest h all long size =
    let zero_length = run_mark x y (f ++ rest) h (and_left (is_operator_byte y) (list_all is_operator_byte f) all) in
    omega (arith, zero_length, size)

operator_class : (x : ℕ) (f rest : List ℕ) (k : Class) (m : ℕ) → operator_at ((x ∷ f) ++ rest) ≡ piece.Lexeme k m → length (x ∷ f) ≡ m
    → operator_of (x ∷ f) ≡ k
operator_class x f rest k m e size =
    let b = (x ∷ f) ++ rest in
    let n = 1 + operator_length (drop 1 b) in
    let parts = lexeme_parts (operator_of (take n b)) k n m (sym (operator_at_length b n refl) ∙ e) in
    let text : take n b ≡ x ∷ f = ap (λ i. take i b) (parts.0 ∙ sym size) ∙ take_front (x ∷ f) rest in
    ap operator_of (sym text) ∙ parts.1

sign_class : (x : ℕ) (f rest : List ℕ) → starts_run x ≡ true → list_all is_operator_byte f ≡ true → (k : Class) (m : ℕ)
    → sign_at ((x ∷ f) ++ rest) ≡ piece.Lexeme k m → length (x ∷ f) ≡ m → operator_of (x ∷ f) ≡ k
sign_class x f rest h all k m e size = elim (which (nat_lt 1 (mark_length ((x ∷ f) ++ rest)))) [
  | inl long ↦
      let tests = sym (sign_tests ((x ∷ f) ++ rest) _ _ refl refl) ∙ e in
      let mark = rw long at tests in
      let parts = lexeme_parts class.Mark k (mark_length ((x ∷ f) ++ rest)) m mark in
      absurd (mark_differs x f rest h all long (parts.0 ∙ sym size))
  | inr short ↦
      let tests = sym (sign_tests ((x ∷ f) ++ rest) _ true refl (operator_begins x (f ++ rest) h)) ∙ e in
      operator_class x f rest k m (rw short at tests) size
]

pub run_class : (x : ℕ) (f rest : List ℕ) → starts_run x ≡ true → list_all is_operator_byte f ≡ true → (k : Class) (m : ℕ)
    → piece_at ((x ∷ f) ++ rest) ≡ piece.Lexeme k m → length (x ∷ f) ≡ m → operator_of (x ∷ f) ≡ k
run_class x f rest h all k m e size =
    let at = sym (run_choice x (f ++ rest) h) ∙ lexeme_of_piece ((x ∷ f) ++ rest) k m e in
    elim (which (begins_label ((x ∷ f) ++ rest))) [
      | inl label ↦ absurd (label_differs x f rest all label k m (rw label at at) size)
      | inr sign ↦ sign_class x f rest h all k m (rw sign at at) size
    ]

-- ---- the classes of operators

prefix_class : (w : List ℕ) → is_mark_operator w ≡ false → is_text "!=" w ≡ false → among "!~?" (get_or w 0 0) ≡ true → operator_of w ≡ class.Prefix
prefix_class w no_mark unequal bang = operator_tests w false false true no_mark unequal bang

bang_class : (f : List ℕ) → is_text "!=" (byte "!" ∷ f) ≡ false → operator_of (byte "!" ∷ f) ≡ class.Prefix
bang_class f h = prefix_class (byte "!" ∷ f) refl h refl

tilde_class : (y : ℕ) (f : List ℕ) → operator_of (byte "~" ∷ y ∷ f) ≡ class.Prefix
tilde_class y f = prefix_class (byte "~" ∷ y ∷ f) refl refl refl

question_class : (y : ℕ) (f : List ℕ) → operator_of (byte "?" ∷ y ∷ f) ≡ class.Prefix
question_class y f = prefix_class (byte "?" ∷ y ∷ f) refl refl refl

two_class : (x y : ℕ) (f : List ℕ) → among "~?" x ≡ true → operator_of (x ∷ y ∷ f) ≡ class.Prefix
two_class x y f h = elim (among_two (byte "~") (byte "?") x h) [
  | inl e ↦ ap (λ v. operator_of (v ∷ y ∷ f)) e ∙ tilde_class y f
  | inr e ↦ ap (λ v. operator_of (v ∷ y ∷ f)) e ∙ question_class y f
]

long_class : (x : ℕ) (f : List ℕ) → among "~?" x ≡ true → nat_lt 1 (length (x ∷ f)) ≡ true → operator_of (x ∷ f) ≡ class.Prefix
long_class x [] h long = cc
long_class x (y ∷ f) h long = two_class x y f h

prefix_is : (w : List ℕ) → is_prefix w ≡ true
    → (x : ℕ) × (f : List ℕ) × (w ≡ x ∷ f) × (starts_run x ≡ true) × (list_all is_operator_byte f ≡ true) × (operator_of (x ∷ f) ≡ class.Prefix)
prefix_is [] h = cc
prefix_is (x ∷ f) h =
    elim (or_cases (is_operator "!" (x ∷ f) && not (bytes_eq (x ∷ f) (codes "!="))) (is_operator "~?" (x ∷ f) && nat_lt 1 (length (x ∷ f))) h) [
      | inl y ↦
          let op = and_left (is_operator "!" (x ∷ f)) (not (bytes_eq (x ∷ f) (codes "!="))) y in
          let unequal = not_true (bytes_eq (x ∷ f) (codes "!=")) (and_right (is_operator "!" (x ∷ f)) (not (bytes_eq (x ∷ f) (codes "!="))) y) in
          let first = among_one (byte "!") x (and_left (among "!" x) (list_all is_operator_byte f) op) in (
            x,
            f,
            refl,
            ap starts_run first,
            and_right (among "!" x) (list_all is_operator_byte f) op,
            ap (λ v. operator_of (v ∷ f)) first ∙ bang_class f (ap (λ v. is_text "!=" (v ∷ f)) (sym first) ∙ unequal),
          )
      | inr y ↦
          let op = and_left (is_operator "~?" (x ∷ f)) (nat_lt 1 (length (x ∷ f))) y in
          let long = and_right (is_operator "~?" (x ∷ f)) (nat_lt 1 (length (x ∷ f))) y in
          let first = and_left (among "~?" x) (list_all is_operator_byte f) op in (
            x,
            f,
            refl,
            among_passes starts_run (codes "~?") x refl first,
            and_right (among "~?" x) (list_all is_operator_byte f) op,
            long_class x f
                first long,
          )
    ]

pub prefix_gives : (f rest : List ℕ) → is_prefix f ≡ true → Gives class.Prefix (length f) (f ++ rest)
prefix_gives f rest h k m e size =
    let is = prefix_is f h in
    let same = is.2 in
    sym is.5 ∙ run_class is.0 is.1 rest is.3 is.4 k m (ap (λ v. piece_at (v ++ rest)) (sym same) ∙ e) (ap length (sym same) ∙ size)

same_infix : (t : Bool) → cond t class.Infix (cond false class.Prefix class.Infix) ≡ class.Infix
same_infix true = refl
same_infix false = refl

infix_class : (w : List ℕ) → among "!~?" (get_or w 0 0) ≡ false → (operator_of w ≡ class.Infix) ⊎ (operator_of w ≡ class.Mark)
infix_class w nay = elim (which (is_mark_operator w)) [
  | inl mark ↦ inr (operator_tests w true _ _ mark refl refl)
  | inr no_mark ↦ inl (operator_tests w false (is_text "!=" w) false no_mark refl nay ∙ same_infix (is_text "!=" w))
]

unequal_class : operator_of (codes "!=") ≡ class.Infix
unfolding operator_of
unequal_class = refl

-- an Infix, or a Mark
abbrev pub IsInfixOrMark : Class → Type 0
IsInfixOrMark k = (class.Infix ≡ k) ⊎ (k ≡ class.Mark)

infix_or_mark : (w : List ℕ) (k : Class) → (operator_of w ≡ class.Infix) ⊎ (operator_of w ≡ class.Mark) → operator_of w ≡ k → IsInfixOrMark k
infix_or_mark w k (inl y) e = inl (sym y ∙ e)
infix_or_mark w k (inr y) e = inr (sym e ∙ y)

infix_run : (f rest : List ℕ) → is_operator "=<>@^|&+-*/$%#" f ≡ true → (k : Class) (m : ℕ) → piece_at (f ++ rest) ≡ piece.Lexeme k m → length f ≡ m
    → IsInfixOrMark k
infix_run [] rest h k m e size = cc
infix_run (x ∷ f) rest h k m e size =
    let first = and_left (among "=<>@^|&+-*/$%#" x) (list_all is_operator_byte f) h in
    let all = and_right (among "=<>@^|&+-*/$%#" x) (list_all is_operator_byte f) h in
    let starts = among_passes starts_run (codes "=<>@^|&+-*/$%#") x refl first in
    infix_or_mark (x ∷ f) k (infix_class (x ∷ f) (among_fails (among "!~?") (codes "=<>@^|&+-*/$%#") x refl first))
    (run_class x f rest starts all k m e size)

unequal_run : (rest : List ℕ) (k : Class) (m : ℕ) → piece_at (codes "!=" ++ rest) ≡ piece.Lexeme k m → length (codes "!=") ≡ m → IsInfixOrMark k
unequal_run rest k m e size = inl (sym unequal_class ∙ run_class (byte "!") (codes "=") rest refl refl k m e size)

pub infix_gives : (f rest : List ℕ) → is_infix f ≡ true → (k : Class) (m : ℕ) → piece_at (f ++ rest) ≡ piece.Lexeme k m → length f ≡ m
    → IsInfixOrMark k
infix_gives f rest h k m e size = elim (or_cases (is_operator "=<>@^|&+-*/$%#" f) (bytes_eq f (codes "!=")) h) [
  | inl y ↦ infix_run f rest y k m e size
  | inr y ↦
      let same = texts_same f (codes "!=") y in
      unequal_run rest k m (ap (λ v. piece_at (v ++ rest)) (sym same) ∙ e) (ap length (sym same) ∙ size)
]

-- ---- marks

abbrev MarkGives : List ℕ → Type 0
MarkGives mark = (rest : List ℕ) → Gives class.Mark (length mark) (mark ++ rest)

pub mark_of_class : (t : Bool) (n : ℕ) (k : Class) (m : ℕ) → cond t (piece.Lexeme class.Mark n) piece.Bad ≡ piece.Lexeme k m → class.Mark ≡ k
mark_of_class true n k m e = cc
mark_of_class false n k m e = cc

-- if no operator begins, a sign is a Mark
no_operator : (b : List ℕ) (k : Class) (m : ℕ) → begins_operator b ≡ false → sign_at b ≡ piece.Lexeme k m → class.Mark ≡ k
no_operator b k m nay e = elim (which (nat_lt 1 (mark_length b))) [
  | inl long ↦
      let tests = sym (sign_tests b _ false refl nay) ∙ e in
      let parts = lexeme_parts class.Mark k (mark_length b) m (rw long at tests) in
      parts.1
  | inr short ↦
      let tests = sym (sign_tests b _ false refl nay) ∙ e in
      mark_of_class (nat_lt 0 (mark_length b)) (mark_length b) k m (rw short at tests)
]

-- a byte with which only Marks begin
pub record OnlyMarks (c : ℕ) : Type 0 where
  pub signs : (s : List ℕ) → lexeme_at (c ∷ s) ≡ sign_at (c ∷ s)
  pub no_run : (s : List ℕ) → begins_operator (c ∷ s) ≡ false

pub only_marks : OnlyMarks 40 × OnlyMarks 41 × OnlyMarks 91 × OnlyMarks 93 × OnlyMarks 125 × OnlyMarks 59 × OnlyMarks 44 × OnlyMarks 46 × OnlyMarks
    58
unfolding lexeme_at opens_quoted begins_label begins_operator
only_marks = (
  record { signs = λ s. refl; no_run = λ s. refl },
  record { signs = λ s. refl; no_run = λ s. refl },
  record { signs = λ s. refl; no_run = λ s. refl },
  record { signs = λ s. refl; no_run = λ s. refl },
  record { signs = λ s. refl; no_run = λ s. refl },
  record { signs = λ s. refl; no_run = λ s. refl },
  record { signs = λ s. refl; no_run = λ s. refl },
  record { signs = λ s. refl; no_run = λ s. refl },
  record { signs = λ s. refl; no_run = λ s. refl },
)

only : (c : ℕ) (f : List ℕ) → OnlyMarks c → MarkGives (c ∷ f)
only c f is rest k m e size =
    no_operator ((c ∷ f) ++ rest) k m (is.no_run (f ++ rest)) (sym (is.signs (f ++ rest)) ∙ lexeme_of_piece ((c ∷ f) ++ rest) k m e)

exact : (mark : List ℕ) (n : ℕ) → GivesMark n mark → MarkGives mark
exact mark n gives rest k m e size =
    let parts = lexeme_parts class.Mark k n m (sym (gives rest) ∙ lexeme_of_piece (mark ++ rest) k m e) in
    parts.1

brace_label : (s : List ℕ) → cond (begins_label (byte "{" ∷ s)) (label_at (byte "{" ∷ s)) (sign_at (byte "{" ∷ s)) ≡ sign_at (byte "{" ∷ s)
unfolding begins_label
brace_label s = refl

pub brace_run : (s : List ℕ) → begins_operator (byte "{" ∷ s) ≡ false
unfolding begins_operator
brace_run s = refl

pub brace_signs : (s : List ℕ) → opens_quoted (byte "{" ∷ s) ≡ false → lexeme_at (byte "{" ∷ s) ≡ sign_at (byte "{" ∷ s)
brace_signs s h = lexeme_tests (byte "{" ∷ s) false _ h refl ∙ brace_label s

brace : MarkGives (codes "{")
brace rest k m e size =
    let at = lexeme_of_piece (codes "{" ++ rest) k m e in
    elim (which (opens_quoted (byte "{" ∷ rest))) [
      | inl opens ↦ absurd (quoted_is_long k rest m at opens (omega (arith, size)))
      | inr closed ↦ no_operator (byte "{" ∷ rest) k m (brace_run rest) (sym (brace_signs rest closed) ∙ at)
    ]

run_marks : (operator_of (codes "->") ≡ class.Mark) × (operator_of (codes "<-") ≡ class.Mark) × (operator_of (codes "|") ≡ class.Mark)
    × (operator_of (codes "=") ≡ class.Mark) × (operator_of (codes "~") ≡ class.Mark) × (operator_of (codes "?") ≡ class.Mark)
unfolding operator_of
run_marks = (refl, refl, refl, refl, refl, refl)

run_mark_gives : (x : ℕ) (f : List ℕ) → starts_run x ≡ true → list_all is_operator_byte f ≡ true → operator_of (x ∷ f) ≡ class.Mark
    → MarkGives (x ∷ f)
run_mark_gives x f h all is rest k m e size = sym is ∙ run_class x f rest h all k m e size

each_mark : Each MarkGives marks
each_mark =
    more (only 40 [] only_marks.0) (more (only 41 [] only_marks.1) (more (only 91 [] only_marks.2) (more (only 93 [] only_marks.3) (
    more brace (more (only 125 [] only_marks.4) (more (only 91 (codes "|") only_marks.2) (more (exact (codes "|]") 2 others.0) (
    more (only 91 (codes "<") only_marks.2) (more (only 91 (codes ">") only_marks.2) (more (only 91 (codes "%") only_marks.2) (
    more (only 91 (codes "%%") only_marks.2) (more (exact (codes "{%") 2 others.1) (more (only 59 [] only_marks.5) (
    more (only 59 (codes ";") only_marks.5)
    (more (only 44 [] only_marks.6) (more (only 46 [] only_marks.7) (more (only 46 (codes ".") only_marks.7) (
    more (only 58 [] only_marks.8)
    (more (only 58 (codes ":") only_marks.8) (more (only 58 (codes "=") only_marks.8) (more (only 58 (codes ">") only_marks.8) (
    more (run_mark_gives 45 (codes ">") refl refl run_marks.0) (more (run_mark_gives 60 (codes "-") refl refl run_marks.1) (
    more (run_mark_gives 124 [] refl refl run_marks.2) (more (run_mark_gives 61 [] refl refl run_marks.3) (
    more (run_mark_gives 126 [] refl refl run_marks.4) (more (run_mark_gives 63 [] refl refl run_marks.5) none)))))))))))))))))))))))))))

pub mark_gives : (f rest : List ℕ) → is_mark f ≡ true → Gives class.Mark (length f) (f ++ rest)
mark_gives f rest h = one_of_each MarkGives marks f each_mark h rest
