-- The tokens of a source are one after the other, so that one at most holds a byte.
use Rattle.std.proofs.Common.{◌≡◌, ℕ, ◌+◌, ◌<◌, ◌≤◌, List, [], ◌∷◌, length, get_or, map, Bool, true, false, cond, ◌==◌, ◌&&◌, nat_le, nat_lt}
use Rattle.std.proofs.Common.{Option, Some, None, refl, ap, sym, ◌∙◌, arith, All}
use Rattle.std.specs.List.{position, position_or_len, prefix_len}
use Rattle.std.specs.Prelude.{not}
use Rattle.std.proofs.lemmas.List.{length-map}
use Rattle.std.proofs.lemmas.Bool.Decides.{nat_tests}
use Rattle.std.proofs.lemmas.List.Elements.{All-cons, All-nil}
use Rattle.std.proofs.lemmas.List.Kept.{AllPairs-cons}
use Rattle.rotor_base.specs.declared.token.Token.{Token}
use Rattle.ml_lexer.specs.Lexed.{Lexeme, view_token, view_tokens}
use Rattle.ml_lexer.specs.Laws.{AreInOrder}
use Rattle.ml_lexer.proofs.Order.{lexemes_are_in_order}
use Rattle.rename_model.specs.Target.{holds}
use Rattle.rename_parts.specs.Hits.{is_lower}
use Rattle.value_at.specs.Cursor.{cursor_position, is_word_before, is_word_over}
use Rattle.shape_core.specs.Shape.{or_else}
use Rattle.value_at.specs.Laws.{OnePasses, TokensAreOne}

-- the position in a list of views is that in the list
prefix_len-map : {A B : Type 0} (f : A → B) (test : B → Bool) (xs : List A) → prefix_len (λ x. test (f x)) xs ≡ prefix_len test (map f xs)
prefix_len-map f test [] = refl
prefix_len-map f test (x ∷ xs) = ap (λ n. cond (test (f x)) (1 + n) 0) (prefix_len-map f test xs)

pub position-map : {A B : Type 0} (f : A → B) (test : B → Bool) (xs : List A) → position (λ x. test (f x)) xs ≡ position test (map f xs)
position-map f test xs =
    ap (λ n. cond (nat_lt n (length xs)) (Some n) None) (prefix_len-map f (λ y. not (test y)) xs)
    ∙ ap (λ k. cond (nat_lt (position_or_len test (map f xs)) k) (Some (position_or_len test (map f xs))) None) (sym (length-map xs f))

-- the token of a cursor, by what was found of each kind
pub first_found : (offset at : ℕ) (ts : List Token) → Some at ≡ position (λ t. is_word_over offset (view_token t)) ts
    → Some at ≡ cursor_position offset (view_tokens ts)
first_found offset at ts e =
    let xs : List Lexeme = view_tokens ts in
    ap (λ o. or_else o (or_else (position (is_word_before offset) xs) (position (holds offset) xs)))
    (e ∙ position-map view_token (is_word_over offset) ts)

pub second_found : (offset : ℕ) (ts : List Token) (at : ℕ) → None ≡ position (λ t. is_word_over offset (view_token t)) ts
    → Some at ≡ position (λ t. is_word_before offset (view_token t)) ts → Some at ≡ cursor_position offset (view_tokens ts)
second_found offset ts at none e =
    let xs : List Lexeme = view_tokens ts in
    ap (λ o. or_else o (position (holds offset) xs)) (e ∙ position-map view_token (is_word_before offset) ts)
    ∙ ap (λ o. or_else o (or_else (position (is_word_before offset) xs) (position (holds offset) xs)))
    (none ∙ position-map view_token (is_word_over offset) ts)

pub third_found : (offset : ℕ) (ts : List Token) (o : Option ℕ) → None ≡ position (λ t. is_word_over offset (view_token t)) ts
    → None ≡ position (λ t. is_word_before offset (view_token t)) ts → o ≡ position (λ t. holds offset (view_token t)) ts
    → o ≡ cursor_position offset (view_tokens ts)
third_found offset ts o none neither e =
    let xs : List Lexeme = view_tokens ts in
    e ∙ position-map view_token (holds offset) ts
    ∙ ap (λ p. or_else p (position (holds offset) xs)) (neither ∙ position-map view_token (is_word_before offset) ts)
    ∙ ap (λ p. or_else p (or_else (position (is_word_before offset) xs) (position (holds offset) xs)))
    (none ∙ position-map view_token (is_word_over offset) ts)

-- ---- one after the other

-- a lexeme begins at an offset or behind it, and has bytes
record BeginsFrom (low : ℕ) (x : Lexeme) : Type 0 where
  start : low ≤ x.start
  some : x.start < x.end

begin_from : (bytes : List ℕ) (low from : ℕ) (xs : List Lexeme) → low ≤ from → AreInOrder bytes from xs → All (BeginsFrom low) xs
begin_from bytes low from [] le h = All-nil (BeginsFrom low)
begin_from bytes low from (x ∷ xs) le h =
    All-cons (BeginsFrom low) x xs (record { start = omega (arith, h.0); some = h.1 }) (begin_from bytes low x.end xs (omega (arith, h.0, h.1)) h.4)

not_both_hold : (s e t f o : ℕ) → e ≤ t → (nat_le s o && nat_lt o e) ≡ true → (nat_le t o && nat_lt o f) ≡ true → ⊥
not_both_hold s e t f o le one other = grind (arith, nat_tests)

second : (a b : Bool) → (a && b) ≡ true → b ≡ true
second true b h = h
second false b h = absurd cc

not_both_end : (e t f o : ℕ) → e ≤ t → t < f → (e == o) ≡ true → (f == o) ≡ true → ⊥
not_both_end e t f o le lt one other = grind (arith, nat_tests)

apart_holds : (o : ℕ) (x : Lexeme) (xs : List Lexeme) → All (BeginsFrom x.end) xs → All (λ y. holds o x ≡ true → holds o y ≡ true → ⊥) xs
apart_holds o x xs all = λ k d lt one other. not_both_hold x.start x.end (get_or xs k d).start (get_or xs k d).end o (all k d lt).start one other

apart_ends : (o : ℕ) (x : Lexeme) (xs : List Lexeme) → All (BeginsFrom x.end) xs
    → All (λ y. is_word_before o x ≡ true → is_word_before o y ≡ true → ⊥) xs
apart_ends o x xs all = λ k d lt one other.
    let y : Lexeme = get_or xs k d in
    not_both_end x.end y.start y.end o (all k d lt).start (all k d lt).some (second (is_lower x.class) (x.end == o) one)
    (second (is_lower y.class) (y.end == o) other)

one_holds : (bytes : List ℕ) (from o : ℕ) (xs : List Lexeme) → AreInOrder bytes from xs → OnePasses (holds o) xs
one_holds bytes from o [] h = λ i j d lt below. absurd (omega arith)
one_holds bytes from o (x ∷ xs) h =
    AllPairs-cons (λ x y. holds o x ≡ true → holds o y ≡ true → ⊥) x xs (apart_holds o x xs (begin_from bytes x.end x.end xs (omega arith) h.4))
    (one_holds bytes x.end o xs h.4)

one_ends : (bytes : List ℕ) (from o : ℕ) (xs : List Lexeme) → AreInOrder bytes from xs → OnePasses (is_word_before o) xs
one_ends bytes from o [] h = λ i j d lt below. absurd (omega arith)
one_ends bytes from o (x ∷ xs) h =
    AllPairs-cons (λ x y. is_word_before o x ≡ true → is_word_before o y ≡ true → ⊥) x xs
    (apart_ends o x xs (begin_from bytes x.end x.end xs (omega arith) h.4)) (one_ends bytes x.end o xs h.4)

pub tokens_are_one : TokensAreOne
tokens_are_one bytes xs o cut =
    let order : AreInOrder bytes 0 xs = lexemes_are_in_order bytes xs cut in (one_holds bytes 0 o xs order, one_ends bytes 0 o xs order)
