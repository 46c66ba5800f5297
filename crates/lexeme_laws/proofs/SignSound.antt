-- A Prefix, an Infix or a Mark that is taken is one of the table.
use Rattle.std.proofs.Common.{◌≡◌, ℕ, suc, ◌+◌, ◌<◌, ◌≤◌, inl, inr, List, [], ◌∷◌, Bool, true, false, not, cond, ◌==◌, ◌&&◌, ◌||◌, length, take}
use Rattle.std.proofs.Common.{get_or, nat_lt, refl, ap, sym, subst, ◌∙◌, arith}
use Rattle.std.specs.List.{prefix_len, list_all}
use Rattle.std.specs.Prelude.{codes}
use Rattle.std.specs.Str.{byte, bytes_eq}
use Rattle.std.proofs.lemmas.Bool.Decides.{nat_tests}
use Rattle.std.proofs.lemmas.List.{get_or_past}
use Rattle.std.proofs.lemmas.List.Sums.{prefix_len-le-length}
use Prim.Native.String.{String}
use Rattle.rotor_base.specs.declared.token.Class.{Class}
use Rattle.rotor_base.specs.declared.token.Class.TheVariants as class
use Rattle.ml_lexer.specs.declared.piece.Piece.{Piece}
use Rattle.ml_lexer.specs.declared.piece.Piece.TheVariants as piece
use Rattle.ml_lexer.specs.Bytes.{among, is_at, is_operator_byte, operator_length}
use Rattle.ml_lexer.specs.Pieces.{is_text, is_mark_operator, operator_of, operator_at, mark_length, mark_of, begins_operator, sign_at}
use Rattle.ml_lexer.proofs.Local.{which, le_or_lt, and_left, and_right}
use Rattle.ml_lexer.proofs.Signs.{operator_at_length}
use Rattle.ml_lexer.proofs.Marks.{sign_tests}
use Rattle.lexeme_laws.specs.Table.{is_operator, is_prefix, is_infix, is_mark}
use Rattle.lexeme_laws.specs.Begins.{Begins}
use Rattle.lexeme_laws.proofs.Tests.{same_numbers, or_cases, and_pair, among_passes, texts_same}
use Rattle.lexeme_laws.proofs.SignReach.{starts_run}
use Rattle.lexeme_laws.proofs.WordSound.{Fine, cond_fine, run_passes}

-- a byte that is not 0 is inside
byte_inside : (b : List ℕ) (i k : ℕ) → (0 == k) ≡ false → (get_or b i 0 == k) ≡ true → i < length b
byte_inside b i k some e = elim (le_or_lt (length b) i) [
  | inl past ↦ let wrong : true ≡ false = sym (ap (λ v. v == k) (sym (get_or_past b i 0 past)) ∙ e) ∙ some in cc
  | inr less ↦ less
]

among_inside : (letters : String) (b : List ℕ) (i : ℕ) → among letters 0 ≡ false → among letters (get_or b i 0) ≡ true → i < length b
among_inside letters b i some e = elim (le_or_lt (length b) i) [
  | inl past ↦ let wrong : true ≡ false = sym (ap (among letters) (sym (get_or_past b i 0 past)) ∙ e) ∙ some in cc
  | inr less ↦ less
]

front_one : (b : List ℕ) → 0 < length b → take 1 b ≡ get_or b 0 0 ∷ []
front_one [] l = absurd (omega arith)
front_one (x ∷ b) l = refl

front_two : (b : List ℕ) → 1 < length b → take 2 b ≡ get_or b 0 0 ∷ get_or b 1 0 ∷ []
front_two [] l = absurd (omega arith)
front_two (x ∷ []) l = absurd (omega arith)
front_two (x ∷ y ∷ b) l = refl

front_three : (b : List ℕ) → 2 < length b → take 3 b ≡ get_or b 0 0 ∷ get_or b 1 0 ∷ get_or b 2 0 ∷ []
front_three [] l = absurd (omega arith)
front_three (x ∷ []) l = absurd (omega arith)
front_three (x ∷ y ∷ []) l = absurd (omega arith)
front_three (x ∷ y ∷ z ∷ b) l = refl

-- ---- marks

-- the first bytes are a mark, if there are any
abbrev MarkThere : List ℕ → ℕ → Type 0
MarkThere b n = 0 < n → (n ≤ length b) × (is_mark (take n b) ≡ true)

cond_there : (b : List ℕ) (t : Bool) (n m : ℕ) → (t ≡ true → MarkThere b n) → MarkThere b m → MarkThere b (cond t n m)
cond_there b true n m f g = f refl
cond_there b false n m f g = g

one_there : (b : List ℕ) → among "()[]{};,.:" (get_or b 0 0) ≡ true → MarkThere b 1
one_there b h some =
    let long = among_inside "()[]{};,.:" b 0 refl h in
    (omega (arith, long), ap is_mark (front_one b long) ∙ among_passes (λ c. is_mark (c ∷ [])) (codes "()[]{};,.:") (get_or b 0 0) refl h)

-- two bytes, of which the second is one of these
two_there : (k : ℕ) (seconds : String) (b : List ℕ) → among seconds 0 ≡ false → list_all (λ c. is_mark (k ∷ c ∷ [])) (codes seconds) ≡ true
    → (get_or b 0 0 == k) ≡ true → among seconds (get_or b 1 0) ≡ true → MarkThere b 2
two_there k seconds b none all first second some =
    let long = among_inside seconds b 1 none second in (
      omega (arith, long),
      ap is_mark (front_two b long) ∙ ap (λ c. is_mark (c ∷ get_or b 1 0 ∷ [])) (same_numbers (get_or b 0 0) k first)
          ∙ among_passes (λ c. is_mark (k ∷ c ∷ [])) (codes seconds) (get_or b 1 0) all second,
    )

pair_there : (k l : ℕ) (b : List ℕ) → (0 == l) ≡ false → is_mark (k ∷ l ∷ []) ≡ true → ((get_or b 0 0 == k) && (get_or b 1 0 == l)) ≡ true
    → MarkThere b 2
pair_there k l b some row h _ =
    let first = and_left (get_or b 0 0 == k) (get_or b 1 0 == l) h in
    let second = and_right (get_or b 0 0 == k) (get_or b 1 0 == l) h in
    let long = byte_inside b 1 l some second in (
      omega (arith, long),
      ap is_mark (front_two b long) ∙ ap (λ c. is_mark (c ∷ get_or b 1 0 ∷ [])) (same_numbers (get_or b 0 0) k first)
          ∙ ap (λ c. is_mark (k ∷ c ∷ [])) (same_numbers (get_or b 1 0) l second) ∙ row,
    )

three_there : (b : List ℕ) → (is_at "[" 0 b && is_at "%" 1 b && is_at "%" 2 b) ≡ true → MarkThere b 3
three_there b h some =
    let both = and_left (is_at "[" 0 b && is_at "%" 1 b) (is_at "%" 2 b) h in
    let first = and_left (is_at "[" 0 b) (is_at "%" 1 b) both in
    let second = and_right (is_at "[" 0 b) (is_at "%" 1 b) both in
    let third = and_right (is_at "[" 0 b && is_at "%" 1 b) (is_at "%" 2 b) h in
    let long = byte_inside b 2 (byte "%") refl third in (
      omega (arith, long),
      ap is_mark (front_three b long)
          ∙ ap (λ c. is_mark (c ∷ get_or b 1 0 ∷ get_or b 2 0 ∷ [])) (same_numbers (get_or b 0 0) (byte "[") first)
          ∙ ap (λ c. is_mark (byte "[" ∷ c ∷ get_or b 2 0 ∷ [])) (same_numbers (get_or b 1 0) (byte "%") second)
          ∙ ap (λ c. is_mark (byte "[" ∷ byte "%" ∷ c ∷ [])) (same_numbers (get_or b 2 0) (byte "%") third),
    )

none_there : (b : List ℕ) → MarkThere b 0
none_there b some = absurd (omega arith)

mark_there : (b : List ℕ) → MarkThere b (mark_length b)
unfolding mark_length
mark_there b =
    cond_there b (is_at "[" 0 b && is_at "%" 1 b && is_at "%" 2 b) 3 _ (three_there b) (
    cond_there b (is_at "[" 0 b && among "|<>%" (get_or b 1 0)) 2 _
    (λ h. two_there (byte "[") "|<>%" b refl refl (and_left (is_at "[" 0 b) (among "|<>%" (get_or b 1 0)) h)
    (and_right (is_at "[" 0 b) (among "|<>%" (get_or b 1 0)) h)) (
    cond_there b (is_at "{" 0 b && is_at "%" 1 b) 2 _ (pair_there (byte "{") (byte "%") b refl refl) (
    cond_there b (is_at "|" 0 b && is_at "]" 1 b) 2 _ (pair_there (byte "|") (byte "]") b refl refl) (
    cond_there b (is_at ";" 0 b && is_at ";" 1 b) 2 _ (pair_there (byte ";") (byte ";") b refl refl) (
    cond_there b (is_at "." 0 b && is_at "." 1 b) 2 _ (pair_there (byte ".") (byte ".") b refl refl) (
    cond_there b (is_at ":" 0 b && among ":=>" (get_or b 1 0)) 2 _
    (λ h. two_there (byte ":") ":=>" b refl refl (and_left (is_at ":" 0 b) (among ":=>" (get_or b 1 0)) h)
    (and_right (is_at ":" 0 b) (among ":=>" (get_or b 1 0)) h)) (
    cond_there b (among "()[]{};,.:" (get_or b 0 0)) 1 0 (one_there b) (none_there b))))))))

-- ---- operators

abbrev run : List ℕ → ℕ
run s = prefix_len is_operator_byte s

abbrev text_of : ℕ → List ℕ → List ℕ
text_of x s = x ∷ take (run s) s

mark_row : (w : List ℕ) → is_mark_operator w ≡ true → is_mark w ≡ true
mark_row w h = elim (or_cases (is_text "|" w || is_text "=" w || is_text "->" w || is_text "<-" w || is_text "~" w) (is_text "?" w) h) [
  | inr y ↦ ap is_mark (texts_same w (codes "?") y)
  | inl h ↦ elim (or_cases (is_text "|" w || is_text "=" w || is_text "->" w || is_text "<-" w) (is_text "~" w) h) [
    | inr y ↦ ap is_mark (texts_same w (codes "~") y)
    | inl h ↦ elim (or_cases (is_text "|" w || is_text "=" w || is_text "->" w) (is_text "<-" w) h) [
      | inr y ↦ ap is_mark (texts_same w (codes "<-") y)
      | inl h ↦ elim (or_cases (is_text "|" w || is_text "=" w) (is_text "->" w) h) [
        | inr y ↦ ap is_mark (texts_same w (codes "->") y)
        | inl h ↦ elim (or_cases (is_text "|" w) (is_text "=" w) h) [
          | inl y ↦ ap is_mark (texts_same w (codes "|") y)
          | inr y ↦ ap is_mark (texts_same w (codes "=") y)
        ]
      ]
    ]
  ]
]

or_left : (a b : Bool) → a ≡ true → (a || b) ≡ true
or_left a b e = rw e refl

or_right : (a b : Bool) → b ≡ true → (a || b) ≡ true
or_right true b e = refl
or_right false b e = e

not_of : (a : Bool) → a ≡ false → not a ≡ true
not_of a e = rw e refl

long_list : (x y : ℕ) (f : List ℕ) → nat_lt 1 (length (x ∷ y ∷ f)) ≡ true
long_list x y f = grind (arith, nat_tests)

-- among `!`, `~` and `?`, the byte that is none of the last two is the first
only_bang : (x : ℕ) → among "!~?" x ≡ true → among "~?" x ≡ false → among "!" x ≡ true
only_bang x h nay = elim (or_cases (among "!" x) (among "~?" x) (among_passes (λ c. among "!" c || among "~?" c) (codes "!~?") x refl h)) [
  | inl y ↦ y
  | inr y ↦ let wrong : true ≡ false = sym y ∙ nay in cc
]

-- a `~` or `?` alone is a Mark
lone_mark : (x : ℕ) (f : List ℕ) → among "~?" x ≡ true → is_mark_operator (x ∷ f) ≡ false → nat_lt 1 (length (x ∷ f)) ≡ true
lone_mark x (y ∷ f) h no_mark = long_list x y f
lone_mark x [] h no_mark = let is = among_passes (λ c. is_mark_operator (c ∷ [])) (codes "~?") x refl h in let wrong : true ≡ false = sym is
    ∙ no_mark in cc

prefix_row : (x : ℕ) (f : List ℕ) → list_all is_operator_byte f ≡ true → is_mark_operator (x ∷ f) ≡ false → is_text "!=" (x ∷ f) ≡ false
    → among "!~?" x ≡ true → is_prefix (x ∷ f) ≡ true
prefix_row x f all no_mark unequal h = elim (which (among "~?" x)) [
  | inl y ↦
      or_right (is_operator "!" (x ∷ f) && not (bytes_eq (x ∷ f) (codes "!="))) (is_operator "~?" (x ∷ f) && nat_lt 1 (length (x ∷ f))) (
      and_pair (is_operator "~?" (x ∷ f)) (nat_lt 1 (length (x ∷ f))) (and_pair (among "~?" x) (list_all is_operator_byte f) y all)
      (lone_mark x f y no_mark))
  | inr n ↦
      let first : among "!" x ≡ true = only_bang x h n in
      or_left (is_operator "!" (x ∷ f) && not (bytes_eq (x ∷ f) (codes "!="))) (is_operator "~?" (x ∷ f) && nat_lt 1 (length (x ∷ f))) (
      and_pair (is_operator "!" (x ∷ f)) (not (bytes_eq (x ∷ f) (codes "!="))) (and_pair (among "!" x) (list_all is_operator_byte f) first all)
      (not_of (bytes_eq (x ∷ f) (codes "!=")) unequal))
]

infix_row : (x : ℕ) (f : List ℕ) → starts_run x ≡ true → list_all is_operator_byte f ≡ true → among "!~?" x ≡ false → is_infix (x ∷ f) ≡ true
infix_row x f h all nay =
    elim (or_cases (among "!~?" x) (among "=<>@^|&+-*/$%#" x)
    (among_passes (λ c. among "!~?" c || among "=<>@^|&+-*/$%#" c) (codes "#!$%&*+-/<=>?@^|~") x refl h)) [
      | inl y ↦ let wrong : true ≡ false = sym y ∙ nay in cc
      | inr y ↦ or_left (is_operator "=<>@^|&+-*/$%#" (x ∷ f)) (bytes_eq (x ∷ f) (codes "!="))
          (and_pair (among "=<>@^|&+-*/$%#" x) (list_all is_operator_byte f) y all)
    ]

pub operator_tests : (w : List ℕ) (mark unequal bang : Bool) → is_mark_operator w ≡ mark → is_text "!=" w ≡ unequal
    → among "!~?" (get_or w 0 0) ≡ bang → operator_of w ≡ cond mark class.Mark (cond unequal class.Infix (cond bang class.Prefix class.Infix))
unfolding operator_of
operator_tests w mark unequal bang e f g = rw (e, f, g) refl

operator_begins : (x : ℕ) (s : List ℕ) → starts_run x ≡ true → Begins (operator_of (text_of x s)) (suc (run s)) (x ∷ s)
operator_begins x s h =
    let w = text_of x s in
    let fits = prefix_len-le-length is_operator_byte s in
    let within : suc (run s) ≤ length (x ∷ s) = omega (arith, fits) in
    let all = run_passes is_operator_byte s in
    elim (which (is_mark_operator w)) [
      | inl mark ↦ subst (λ k. Begins k (suc (run s)) (x ∷ s)) (sym (operator_tests w true _ _ mark refl refl)) (within, mark_row w mark, tt)
      | inr no_mark ↦ elim (which (is_text "!=" w)) [
        | inl unequal ↦
            let row : is_infix w ≡ true = or_right (is_operator "=<>@^|&+-*/$%#" w) (bytes_eq w (codes "!=")) unequal in
            subst (λ k. Begins k (suc (run s)) (x ∷ s)) (sym (operator_tests w false true _ no_mark unequal refl)) (within, row, tt)
        | inr unequal ↦ elim (which (among "!~?" x)) [
          | inl bang ↦ subst (λ k. Begins k (suc (run s)) (x ∷ s)) (sym (operator_tests w false false true no_mark unequal bang))
              (within, prefix_row x (take (run s) s) all no_mark unequal bang, tt)
          | inr bang ↦ subst (λ k. Begins k (suc (run s)) (x ∷ s)) (sym (operator_tests w false false false no_mark unequal bang))
              (within, infix_row x (take (run s) s) h all bang, tt)
        ]
      ]
    ]

pub lexeme_parts : (kind k : Class) (n m : ℕ) → ◌≡◌ {A = Piece} (piece.Lexeme kind n) (piece.Lexeme k m) → (n ≡ m) × (kind ≡ k)
lexeme_parts kind k n m e = (cc, cc)

operator_first : (b : List ℕ) → begins_operator b ≡ true → starts_run (get_or b 0 0) ≡ true
unfolding begins_operator
operator_first b h = h

operator_fine : (b : List ℕ) → starts_run (get_or b 0 0) ≡ true → Fine b (operator_at b)
operator_fine [] h k m e = cc
operator_fine (x ∷ s) h k m e =
    let size : 1 + operator_length s ≡ suc (run s) = omega arith in
    let parts = lexeme_parts (operator_of (text_of x s)) k (suc (run s)) m (sym (operator_at_length (x ∷ s) (suc (run s)) size) ∙ e) in
    subst (λ n. Begins k n (x ∷ s)) parts.0 (subst (λ c. Begins c (suc (run s)) (x ∷ s)) parts.1 (operator_begins x s h))

mark_begins : (b : List ℕ) (k : Class) (m : ℕ) → 0 < mark_length b → ◌≡◌ {A = Piece} (piece.Lexeme class.Mark (mark_length b)) (piece.Lexeme k m)
    → Begins k m b
mark_begins b k m some e =
    let parts = lexeme_parts class.Mark k (mark_length b) m e in
    let there = mark_there b some in
    subst (λ n. Begins k n b) parts.0 (subst (λ c. Begins c (mark_length b) b) parts.1 (there.0, there.1, tt))

mark_of_parts : (t : Bool) (n : ℕ) (k : Class) (m : ℕ) → cond t (piece.Lexeme class.Mark n) piece.Bad ≡ piece.Lexeme k m
    → (t ≡ true) × ◌≡◌ {A = Piece} (piece.Lexeme class.Mark n) (piece.Lexeme k m)
mark_of_parts true n k m e = (refl, e)
mark_of_parts false n k m e = cc

sign_chain : (b : List ℕ)
    → Fine b (cond (nat_lt 1 (mark_length b)) (piece.Lexeme class.Mark (mark_length b))
    (cond (begins_operator b) (operator_at b) (mark_of (mark_length b))))
sign_chain b =
    cond_fine b (nat_lt 1 (mark_length b)) (piece.Lexeme class.Mark (mark_length b)) _
    (λ t k m e. mark_begins b k m (grind (arith, nat_tests, t)) e) (λ _.
    cond_fine b (begins_operator b) (operator_at b) (mark_of (mark_length b)) (λ t. operator_fine b (operator_first b t)) (λ _ k m e.
    let got = mark_of_parts (nat_lt 0 (mark_length b)) (mark_length b) k m e in
    let some = got.0 in
    mark_begins b k m (grind (arith, nat_tests, some)) got.1))

pub sign_fine : (b : List ℕ) → Fine b (sign_at b)
sign_fine b k m e = sign_chain b k m (sym (sign_tests b _ _ refl refl) ∙ e)
