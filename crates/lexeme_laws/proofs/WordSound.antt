-- A word, a TypeVar, a Tag or a Label that is taken is one of the table.
use Rattle.std.proofs.Common.{◌≡◌, ℕ, suc, ◌+◌, ◌-◌, ◌<◌, ◌≤◌, inl, inr, List, [], ◌∷◌, ◌++◌, Bool, true, false, not, cond, ◌==◌, ◌&&◌, ◌||◌}
use Rattle.std.proofs.Common.{length, drop, take, get_or, nat_le, Option, Some, None, refl, ap, sym, subst, ◌∙◌, arith}
use Rattle.std.specs.List.{prefix_len, list_all}
use Rattle.std.specs.Prelude.{codes}
use Rattle.std.specs.Char.{is_ascii_uppercase, is_ascii_lowercase}
use Rattle.std.specs.Str.{byte}
use Rattle.std.proofs.Math.Seq.{take-suc}
use Rattle.std.proofs.lemmas.Bool.Decides.{nat_tests}
use Rattle.std.proofs.lemmas.List.{take-append-drop, length-take-le, get_or_past}
use Rattle.std.proofs.lemmas.List.Sums.{prefix_len-le-length}
use Prim.Native.String.{String}
use Rattle.rotor_base.specs.Name.{is_identifier_byte, is_reserved_word, is_value_name, starts_as_value_name}
use Rattle.rotor_base.specs.declared.token.Class.{Class}
use Rattle.rotor_base.specs.declared.token.Class.TheVariants as class
use Rattle.ml_lexer.specs.declared.piece.Piece.{Piece}
use Rattle.ml_lexer.specs.declared.piece.Piece.TheVariants as piece
use Rattle.ml_lexer.specs.Bytes.{among, is_at, is_word_start, word_length}
use Rattle.ml_lexer.specs.Quotes.{char_length}
use Rattle.ml_lexer.specs.Pieces.{is_long, word_class, word_at, is_keyword_class, marked_word_at, label_at, begins_label}
use Rattle.ml_lexer.proofs.Local.{which, le_or_lt, and_left, and_right, and_false}
use Rattle.ml_lexer.proofs.Words.{word_at_length}
use Rattle.ml_lexer.proofs.Signs.{marked_at_length, label_at_parts}
use Rattle.lexeme_laws.specs.Table.{IsLabel, is_word, is_lower, is_upper, is_marked_word}
use Rattle.lexeme_laws.specs.Begins.{Begins, NoCharBegins, is_inside_word}
use Rattle.lexeme_laws.proofs.Tests.{and_pair, same_numbers}
use Rattle.lexeme_laws.proofs.QuoteReach.{char_whole}

-- what this takes is one of the table
abbrev pub Fine : List ℕ → Piece → Type 0
Fine bytes p = (k : Class) (m : ℕ) → p ≡ piece.Lexeme k m → Begins k m bytes

pub cond_fine : (bytes : List ℕ) (t : Bool) (p q : Piece) → (t ≡ true → Fine bytes p) → (t ≡ false → Fine bytes q) → Fine bytes (cond t p q)
cond_fine bytes true p q f g = f refl
cond_fine bytes false p q f g = g refl

-- ---- runs

pub run_ends : (p : ℕ → Bool) (s : List ℕ) → p 0 ≡ false → p (get_or s (prefix_len p s) 0) ≡ false
run_ends p [] h = h
run_ends p (c ∷ s) h = elim (which (p c)) [
  | inl y ↦
      let size : prefix_len p (c ∷ s) ≡ suc (prefix_len p s) = rw y (omega arith) in
      ap (λ i. p (get_or (c ∷ s) i 0)) size ∙ run_ends p s h
  | inr n ↦
      let size : prefix_len p (c ∷ s) ≡ 0 = rw n refl in
      ap (λ i. p (get_or (c ∷ s) i 0)) size ∙ n
]

pub run_passes : (p : ℕ → Bool) (s : List ℕ) → list_all p (take (prefix_len p s) s) ≡ true
run_passes p [] = refl
run_passes p (c ∷ s) = elim (which (p c)) [
  | inl y ↦
      let size : prefix_len p (c ∷ s) ≡ suc (prefix_len p s) = rw y (omega arith) in
      ap (λ i. list_all p (take i (c ∷ s))) size ∙ and_pair (p c) (list_all p (take (prefix_len p s) s)) y (run_passes p s)
  | inr n ↦
      let size : prefix_len p (c ∷ s) ≡ 0 = rw n refl in
      ap (λ i. list_all p (take i (c ∷ s))) size
]

abbrev pub run : List ℕ → ℕ
run s = prefix_len is_identifier_byte s

-- the word that begins here
abbrev pub word_of : ℕ → List ℕ → List ℕ
word_of x s = x ∷ take (run s) s

pub word_is_word : (x : ℕ) (s : List ℕ) → is_word_start x ≡ true → is_word (word_of x s) ≡ true
word_is_word x s h = and_pair (is_word_start x) (list_all is_identifier_byte (take (run s) s)) h (run_passes is_identifier_byte s)

-- behind a run the word ends
word_ends : (s : List ℕ) (t : Bool) → (t && is_identifier_byte (get_or s (run s) 0)) ≡ false
word_ends s t = ap (λ v. t && v) (run_ends is_identifier_byte s refl) ∙ and_false t

-- ---- words

pub start_is_identifier : (x : ℕ) → is_word_start x ≡ true → is_identifier_byte x ≡ true
start_is_identifier x h = elim (which (is_identifier_byte x)) [
  | inl y ↦ y
  | inr n ↦ absurd (grind (arith, nat_tests, n, h))
]

start_is_lower : (x : ℕ) → is_word_start x ≡ true → is_ascii_uppercase x ≡ false → (is_ascii_lowercase x || x == 95) ≡ true
start_is_lower x h up = elim (which (is_ascii_lowercase x || x == 95)) [
  | inl y ↦ y
  | inr n ↦ absurd (grind (arith, nat_tests, n, h, up))
]

reserved_of : (s l r a : Bool) → (s && l && not r && a) ≡ false → s ≡ true → l ≡ true → a ≡ true → r ≡ true
reserved_of true true true true e f g h = refl
reserved_of true true false true e f g h = cc
reserved_of true true r false e f g h = cc
reserved_of true false r a e f g h = cc
reserved_of false l r a e f g h = cc

lower_of : (s l r a : Bool) → (s && l && not r && a) ≡ true → (s ≡ true) × (not r ≡ true)
lower_of true true false true e = (refl, refl)
lower_of true true true a e = cc
lower_of true true false false e = cc
lower_of true false r a e = cc
lower_of false l r a e = cc

three_true : (a b c : Bool) → a ≡ true → b ≡ true → c ≡ true → (a && b && c) ≡ true
three_true a b c e f g = rw (e, f, g) refl

pub not_long : (n : ℕ) → is_long n ≡ false → nat_le n 255 ≡ true
not_long n h = elim (which (nat_le n 255)) [
  | inl y ↦ y
  | inr e ↦ absurd (grind (arith, nat_tests, e, h))
]

pub class_tests : (w : List ℕ) (up low : Bool) → is_ascii_uppercase (get_or w 0 0) ≡ up → is_value_name w ≡ low
    → word_class w ≡ cond up class.Upper (cond low class.Lower class.Keyword)
unfolding word_class
class_tests w up low e f = rw (e, f) refl

pub run_fits : (s : List ℕ) → run s ≤ length s
run_fits s = prefix_len-le-length is_identifier_byte s

word_length_is : (x : ℕ) (s : List ℕ) → length (word_of x s) ≡ suc (run s)
word_length_is x s = let fits = run_fits s in let e = length-take-le (run s) s fits in omega (arith, e)

pub word_begins : (x : ℕ) (s : List ℕ) → is_word_start x ≡ true → is_long (suc (run s)) ≡ false
    → Begins (word_class (word_of x s)) (suc (run s)) (x ∷ s)
word_begins x s h short =
    let w = word_of x s in
    let fits = run_fits s in
    let within : suc (run s) ≤ length (x ∷ s) = omega (arith, fits) in
    let word = word_is_word x s h in
    let ends = word_ends s (is_identifier_byte (get_or (x ∷ s) (suc (run s) - 1) 0)) in
    elim (which (is_ascii_uppercase x)) [
      | inl up ↦
          let is_class = class_tests w true (is_value_name w) up refl in
          let row : is_upper w ≡ true = and_pair (is_word w) (is_ascii_uppercase x) word up in
          subst (λ k. Begins k (suc (run s)) (x ∷ s)) (sym is_class) (within, row, ends)
      | inr low ↦ elim (which (is_value_name w)) [
        | inl name ↦
            let is_class = class_tests w false true low name in
            let parts = lower_of (starts_as_value_name w) (nat_le (length w) 255) (is_reserved_word w) (list_all is_identifier_byte w) name in
            let row : is_lower w ≡ true = three_true (is_word w) (starts_as_value_name w) (not (is_reserved_word w)) word parts.0 parts.1 in
            subst (λ k. Begins k (suc (run s)) (x ∷ s)) (sym is_class) (within, row, ends)
        | inr none ↦
            let is_class = class_tests w false false low none in
            let all : list_all is_identifier_byte w ≡ true =
            and_pair (is_identifier_byte x) (list_all is_identifier_byte (take (run s) s)) (start_is_identifier x h)
            (run_passes is_identifier_byte s) in
            let size : nat_le (length w) 255 ≡ true = ap (λ n. nat_le n 255) (word_length_is x s) ∙ not_long (suc (run s)) short in
            let row : is_reserved_word w ≡ true =
            reserved_of (starts_as_value_name w) (nat_le (length w) 255) (is_reserved_word w) (list_all is_identifier_byte w) none
            (start_is_lower x h low) size all in
            subst (λ k. Begins k (suc (run s)) (x ∷ s)) (sym is_class) (within, row, ends)
      ]
    ]

pub word_parts : (t : Bool) (kind k : Class) (n m : ℕ) → cond t piece.LongName (piece.Lexeme kind n) ≡ piece.Lexeme k m
    → (t ≡ false) × (n ≡ m) × (kind ≡ k)
word_parts true kind k n m e = cc
word_parts false kind k n m e = (refl, cc, cc)

pub word_fine : (b : List ℕ) → is_word_start (get_or b 0 0) ≡ true → Fine b (word_at b)
word_fine [] h k m e = cc
word_fine (x ∷ s) h k m e =
    let size : word_length (x ∷ s) ≡ suc (run s) = omega arith in
    let parts = word_parts (is_long (suc (run s))) (word_class (word_of x s)) k (suc (run s)) m
    (sym (word_at_length (x ∷ s) (suc (run s)) size) ∙ e) in
    subst (λ n. Begins k n (x ∷ s)) parts.1 (subst (λ c. Begins c (suc (run s)) (x ∷ s)) parts.2 (word_begins x s h parts.0))

-- ---- marked words

pub marked_parts : (s t : Bool) (kind k : Class) (n m : ℕ) → cond s (cond t piece.LongName (piece.Lexeme kind n)) piece.Bad ≡ piece.Lexeme k m
    → (s ≡ true) × (n ≡ m) × (kind ≡ k)
marked_parts true true kind k n m e = cc
marked_parts true false kind k n m e = (refl, cc, cc)
marked_parts false t kind k n m e = cc

-- a mark and a word that is never cut shorter
marked_row : (mark : String) (x y : ℕ) (s : List ℕ) → among mark x ≡ true → is_word_start y ≡ true
    → (suc (suc (run s)) ≤ length (x ∷ y ∷ s)) × (is_marked_word mark (take (suc (suc (run s))) (x ∷ y ∷ s)) ≡ true)
    × (is_inside_word (suc (suc (run s))) (x ∷ y ∷ s) ≡ false)
marked_row mark x y s h start =
    let fits = run_fits s in (
      omega (arith, fits),
      and_pair (among mark x) (is_word (word_of y s)) h (word_is_word y s start),
      word_ends s
          (is_identifier_byte (get_or (x ∷ y ∷ s) (suc (suc (run s)) - 1) 0)),
    )

marked_at : (kind : Class) (x y : ℕ) (s : List ℕ) (k : Class) (m : ℕ) → marked_word_at kind (x ∷ y ∷ s) ≡ piece.Lexeme k m
    → (is_word_start y ≡ true) × (suc (suc (run s)) ≡ m) × (kind ≡ k)
marked_at kind x y s k m e =
    let size : word_length (y ∷ s) ≡ suc (run s) = omega arith in
    let parts = marked_parts (is_word_start y) (is_long (suc (run s))) kind k (1 + suc (run s)) m
    (sym (marked_at_length kind (x ∷ y ∷ s) (suc (run s)) size) ∙ e) in
    let sum = parts.1 in
    (parts.0, omega (arith, sum), parts.2)

mark_alone : (kind : Class) (x : ℕ) (k : Class) (m : ℕ) → marked_word_at kind (x ∷ []) ≡ piece.Lexeme k m → ⊥
unfolding marked_word_at
mark_alone kind x k m e = cc

no_mark : (kind k : Class) (m : ℕ) → marked_word_at kind [] ≡ piece.Lexeme k m → ⊥
unfolding marked_word_at
no_mark kind k m e = cc

is_one : (k x : ℕ) → (x == k) ≡ true → (k == x || false) ≡ true
is_one k x e = let same = same_numbers x k e in ap (λ v. v || false) (ap (λ v. k == v) same ∙ ap (λ v. v == k) (sym same) ∙ e)

pub tag_fine : (b : List ℕ) → is_at "`" 0 b ≡ true → Fine b (marked_word_at class.Tag b)
tag_fine [] h k m e = absurd (no_mark class.Tag k m e)
tag_fine (x ∷ []) h k m e = absurd (mark_alone class.Tag x k m e)
tag_fine (x ∷ y ∷ s) h k m e =
    let parts = marked_at class.Tag x y s k m e in
    subst (λ n. Begins k n (x ∷ y ∷ s)) parts.1
    (subst (λ c. Begins c (suc (suc (run s))) (x ∷ y ∷ s)) parts.2 (marked_row "`" x y s (is_one (byte "`") x h) parts.0))

-- if no Char is read, none begins
pub no_char_begins : (b : List ℕ) → char_length b ≡ None → NoCharBegins b
no_char_begins b none n fits is =
    let whole : char_length b ≡ Some (length (take n b)) = ap char_length (sym (take-append-drop n b)) ∙ char_whole (take n b) (drop n b) is in
    let wrong : ◌≡◌ {A = Option ℕ} None (Some (length (take n b))) = sym none ∙ whole in
    cc

pub variable_fine : (b : List ℕ) → is_at "'" 0 b ≡ true → char_length b ≡ None → Fine b (marked_word_at class.TypeVar b)
variable_fine [] h none k m e = absurd (no_mark class.TypeVar k m e)
variable_fine (x ∷ []) h none k m e = absurd (mark_alone class.TypeVar x k m e)
variable_fine (x ∷ y ∷ s) h none k m e =
    let parts = marked_at class.TypeVar x y s k m e in
    let row = marked_row "'" x y s (is_one (byte "'") x h) parts.0 in
    subst (λ n. Begins k n (x ∷ y ∷ s)) parts.1
    (subst (λ c. Begins c (suc (suc (run s))) (x ∷ y ∷ s)) parts.2 (row.0, row.1, (row.2, no_char_begins (x ∷ y ∷ s) none)))

-- ---- labels

pub label_parts : (s t : Bool) (k : Class) (n m : ℕ) → cond s piece.LongName (cond t piece.Bad (piece.Lexeme class.Label n)) ≡ piece.Lexeme k m
    → (n ≡ m) × (class.Label ≡ k)
label_parts true t k n m e = cc
label_parts false true k n m e = cc
label_parts false false k n m e = (cc, cc)

pub label_starts : (x y : ℕ) (s : List ℕ) → begins_label (x ∷ y ∷ s) ≡ true → (among "~?" x ≡ true) × (is_word_start y ≡ true)
unfolding begins_label
label_starts x y s h = (and_left (among "~?" x) (is_word_start y) h, and_right (among "~?" x) (is_word_start y) h)

pub label_short : (x : ℕ) → begins_label (x ∷ []) ≡ true → ⊥
unfolding begins_label
label_short x h = let wrong : false ≡ true = and_right (among "~?" x) false h in cc

pub label_none : begins_label [] ≡ true → ⊥
unfolding begins_label
label_none h = cc

pub colon_inside : (b : List ℕ) (i : ℕ) → (get_or b i 0 == byte ":") ≡ true → i < length b
colon_inside b i e = elim (le_or_lt (length b) i) [
  | inl past ↦ let wrong : (0 == byte ":") ≡ true = ap (λ v. v == byte ":") (sym (get_or_past b i 0 past))
      ∙ e in absurd (omega (arith, same_numbers 0 (byte ":") wrong))
  | inr less ↦ less
]

-- with a `:` behind the word
colon_row : (x y : ℕ) (s : List ℕ) → among "~?" x ≡ true → is_word_start y ≡ true → (get_or s (run s) 0 == byte ":") ≡ true
    → Begins class.Label (suc (suc (suc (run s)))) (x ∷ y ∷ s)
colon_row x y s h start colon =
    let row = marked_row "~?" x y s h start in
    let at = same_numbers (get_or s (run s) 0) (byte ":") colon in
    let less = colon_inside s (run s) colon in
    let text : take (suc (suc (suc (run s)))) (x ∷ y ∷ s) ≡ (x ∷ y ∷ take (run s) s) ++ codes ":" =
    ap (λ l. x ∷ y ∷ l) (take-suc s (run s) 0 less ∙ ap (λ c. take (run s) s ++ (c ∷ [])) at) in
    let index : suc (suc (suc (run s))) - 1 ≡ suc (suc (run s)) = omega arith in
    let ends : is_inside_word (suc (suc (suc (run s)))) (x ∷ y ∷ s) ≡ false =
    ap (λ i. is_identifier_byte (get_or (x ∷ y ∷ s) i 0) && is_identifier_byte (get_or (x ∷ y ∷ s) (suc (suc (suc (run s)))) 0)) index
    ∙ ap (λ c. is_identifier_byte c && is_identifier_byte (get_or (x ∷ y ∷ s) (suc (suc (suc (run s)))) 0)) at in
    (omega (arith, less), subst IsLabel (sym text) (IsLabel.with_colon (x ∷ y ∷ take (run s) s) row.1), ends)

pub label_at_row : (x y : ℕ) (s : List ℕ) (colon : Bool) → (get_or s (run s) 0 == byte ":") ≡ colon → among "~?" x ≡ true → is_word_start y ≡ true
    → Begins class.Label (suc (suc (run s)) + cond colon 1 0) (x ∷ y ∷ s)
label_at_row x y s true e h start = let index : suc (suc (run s)) + 1 ≡ suc (suc (suc (run s))) =
    omega arith in subst (λ n. Begins class.Label n (x ∷ y ∷ s)) (sym index) (colon_row x y s h start e)
label_at_row x y s false e h start =
    let row = marked_row "~?" x y s h start in
    let index : suc (suc (run s)) + 0 ≡ suc (suc (run s)) = omega arith in
    subst (λ n. Begins class.Label n (x ∷ y ∷ s)) (sym index) (row.0, IsLabel.without_colon (take (suc (suc (run s))) (x ∷ y ∷ s)) row.1, row.2)

pub label_fine : (b : List ℕ) → begins_label b ≡ true → Fine b (label_at b)
label_fine [] h k m e = absurd (label_none h)
label_fine (x ∷ []) h k m e = absurd (label_short x h)
label_fine (x ∷ y ∷ s) h k m e =
    let starts = label_starts x y s h in
    let size : word_length (y ∷ s) ≡ suc (run s) = omega arith in
    let index : 1 + suc (run s) ≡ suc (suc (run s)) = omega arith in
    let colon : is_at ":" (1 + suc (run s)) (x ∷ y ∷ s) ≡ (get_or s (run s) 0 == byte ":") = ap (λ i. is_at ":" i (x ∷ y ∷ s)) index in
    let at = label_at_parts (x ∷ y ∷ s) (suc (run s)) (word_of y s) (get_or s (run s) 0 == byte ":") size refl colon in
    let parts = label_parts (is_long (suc (run s))) (is_keyword_class (word_class (word_of y s))) k
    (1 + suc (run s) + cond (get_or s (run s) 0 == byte ":") 1 0) m (sym at ∙ e) in
    let total = parts.0 in
    let same : suc (suc (run s)) + cond (get_or s (run s) 0 == byte ":") 1 0 ≡ m = omega (arith, total) in
    subst (λ n. Begins k n (x ∷ y ∷ s)) same
    (subst (λ c. Begins c (suc (suc (run s)) + cond (get_or s (run s) 0 == byte ":") 1 0) (x ∷ y ∷ s)) parts.1
    (label_at_row x y s _ refl starts.0 starts.1))
