-- What is written is read back.
use Rattle.std.proofs.Common.{◌≡◌, ℕ, zero, suc, ◌+◌, ◌-◌, ◌<◌, ◌≤◌, ◌^◌, nat_lt, Bool, true, false, not, eqb, cond, ◌&&◌, List, [], ◌∷◌, ◌++◌}
use Rattle.std.proofs.Common.{length, get_or, take, drop, reverse, Some, None, sym, ap, refl, ◌∙◌, arith}
use Rattle.std.specs.Prelude.{codes, option_map}
use Rattle.std.specs.List.{list_all}
use Rattle.std.specs.Char.{is_ascii_digit, digit_value}
use Rattle.std.specs.Fmt.{decimal}
use Rattle.std.specs.Str.Parse.{AllDigits}
use Rattle.std.proofs.lemmas.Fmt.{decimal_is_IsNumeral, length-decimal-le}
use Rattle.std.proofs.lemmas.List.{append_assoc, length-append, length-drop, length-take-le, take_at, drop_at, get_or-take, get_or-drop}
use Rattle.std.proofs.lemmas.List.{reverse-append, reverse-reverse}
use Rattle.std.proofs.lemmas.List.Folds.{list_all-append}
use Rattle.std.proofs.lemmas.Bool.{and_from, and_parts, both_ways, cond-true, cond-false, eqb-true, false_from_ne_true, lt-ltb, not_from_true, eq-eqb}
use Rattle.std.proofs.lemmas.Bool.Decides.{nat_tests}
use lib.Pointwise.{pointwise, pointwise_long}
use Rattle.lsp_frames.specs.Lines.{is_blank, lines_of, onto_first, skip_blanks, trim}
use Rattle.lsp_frames.specs.Header.{content_length, cut_field, field_of, is_field, is_length_name, is_number, length_in, length_texts, number_of}
use Rattle.lsp_frames.specs.Header.{one_number}
use Rattle.lsp_frames.specs.Frames.{max_message, ends_header, frame, Reads, message}

abbrev ending : List ℕ
ending = 13 ∷ 10 ∷ 13 ∷ 10 ∷ []

abbrev name : List ℕ
name = codes "Content-Length: "

-- no byte is LF
abbrev no_feed : List ℕ → Bool
no_feed bytes = list_all (λ b. not (eqb b 10)) bytes

-- ---- where a header ends

second_byte : (d : List ℕ) → pointwise eqb ending d ≡ true → get_or d 1 0 ≡ 10
second_byte [] e = cc
second_byte (x ∷ []) e = absurd (both_ways _ refl (and_parts (eqb 13 x) false e).1)
second_byte (x ∷ y ∷ ds) e =
    let tail = (and_parts (eqb 13 x) _ e).1 in
    sym (eqb-true 10 y (and_parts (eqb 10 y) _ tail).0)

feed_at_end : (xs : List ℕ) → ends_header xs ≡ true → (4 ≤ length xs) × (get_or xs (length xs - 3) 0 ≡ 10)
feed_at_end xs e =
    let d = drop (length xs - 4) xs in
    let four : 4 ≤ length xs = omega (arith, pointwise_long eqb ending d e, length-drop (length xs - 4) xs) in
    let at : length xs - 4 + 1 ≡ length xs - 3 = omega (arith, four) in
    (four, sym (get_or-drop (length xs - 4) xs 1 0 ∙ ap (λ i. get_or xs i 0) at) ∙ second_byte d e)

feed_at : (a : List ℕ) (n : ℕ) → length (take n (a ++ ending)) ≡ n
    → (4 ≤ length (take n (a ++ ending))) × (get_or (take n (a ++ ending)) (length (take n (a ++ ending)) - 3) 0 ≡ 10)
    → get_or (a ++ ending) (n - 3) 0 ≡ 10
feed_at a n long told =
    sym (get_or-take n (a ++ ending) (n - 3) 0 (omega (arith, told.0, long)))
    ∙ ap (λ k. get_or (take n (a ++ ending)) (k - 3) 0) (sym long)
    ∙ told.1

-- no LF is before the ending or at its first byte
no_feed_at : (a : List ℕ) → no_feed a ≡ true → (i : ℕ) → i ≤ length a → get_or (a ++ ending) i 0 ≡ 10 → ⊥
no_feed_at [] none zero l e = absurd (omega (arith, e))
no_feed_at [] none (suc i) l e = absurd (omega (arith, l))
no_feed_at (b ∷ bs) none zero l e = both_ways _ (not_from_true _ (eq-eqb b 10 e)) (and_parts (not (eqb b 10)) _ none).0
no_feed_at (b ∷ bs) none (suc i) l e = no_feed_at bs (and_parts (not (eqb b 10)) _ none).1 i (omega (arith, l)) e

no_early_end : (a : List ℕ) → no_feed a ≡ true → (n : ℕ) → n < length (a ++ ending) → ends_header (take n (a ++ ending)) ≡ false
no_early_end a none n l = false_from_ne_true _ (λ yes.
    no_feed_at a none (n - 3) (omega (arith, l, length-append a ending))
    (feed_at a n (length-take-le n (a ++ ending) (omega (arith, l))) (feed_at_end (take n (a ++ ending)) yes)))

ends_there : (a : List ℕ) → ends_header (a ++ ending) ≡ true
ends_there a =
    let at : length a ≡ length (a ++ ending) - 4 = omega (arith, length-append a ending) in
    ap (pointwise eqb ending) (drop_at a ending (length (a ++ ending) - 4) at)

-- ---- what a header says

one_line : (a : List ℕ) → no_feed a ≡ true → lines_of (a ++ 13 ∷ 10 ∷ []) ≡ (a ++ 13 ∷ []) ∷ []
one_line [] e = refl
one_line (b ∷ bs) e = by_test (eqb b 10) (and_parts (not (eqb b 10)) _ e).0 (one_line bs (and_parts (not (eqb b 10)) _ e).1)
  where
    by_test : (t : Bool) → not t ≡ true → lines_of (bs ++ 13 ∷ 10 ∷ []) ≡ (bs ++ 13 ∷ []) ∷ []
        → cond t ([] ∷ lines_of (bs ++ 13 ∷ 10 ∷ [])) (onto_first b (lines_of (bs ++ 13 ∷ 10 ∷ []))) ≡ (b ∷ (bs ++ 13 ∷ [])) ∷ []
    by_test true n h = cc
    by_test false n h = ap (onto_first b) h

one_field : (a : List ℕ) → field_of (a ++ 13 ∷ []) ≡ cut_field a
unfolding field_of
one_field a =
    let line = a ++ 13 ∷ [] in
    let at : length a ≡ length line - 1 = omega (arith, length-append a (13 ∷ [])) in
    ap (λ d. cond (pointwise eqb (13 ∷ []) d) (cut_field (take (length line - 1) line)) None) (drop_at a (13 ∷ []) (length line - 1) at)
    ∙ ap cut_field (take_at a (13 ∷ []) (length line - 1) at)

the_field : (ds : List ℕ) → cut_field (name ++ ds) ≡ Some (codes "Content-Length", trim (32 ∷ ds))
unfolding trim
the_field ds =
    let inside : 14 < length (name ++ ds) = omega (arith, length-append name ds) in
    ap (option_map (λ colon. (trim (take colon (name ++ ds)), trim (drop (colon + 1) (name ++ ds)))))
    (cond-true (nat_lt 14 (length (name ++ ds))) (Some 14) None (lt-ltb 14 _ inside))

not_blank : (d : ℕ) → is_ascii_digit d ≡ true → is_blank d ≡ false
not_blank d e = grind (arith, nat_tests)

no_line_end : (d : ℕ) → is_ascii_digit d ≡ true → not (eqb d 10) ≡ true
no_line_end d e = grind (arith, nat_tests)

digits_stay : (ds : List ℕ) → list_all is_ascii_digit ds ≡ true → skip_blanks ds ≡ ds
digits_stay [] e = refl
digits_stay (d ∷ ds) e = cond-false _ _ _ (not_blank d (and_parts (is_ascii_digit d) _ e).0)

digits_reversed : (ds : List ℕ) → list_all is_ascii_digit ds ≡ true → list_all is_ascii_digit (reverse ds) ≡ true
digits_reversed [] e = refl
digits_reversed (d ∷ ds) e =
    let parts = and_parts (is_ascii_digit d) _ e in
    ap (list_all is_ascii_digit) (reverse-append (d ∷ []) ds)
    ∙ list_all-append is_ascii_digit (reverse ds) (d ∷ [])
    ∙ and_from _ _ (digits_reversed ds parts.1) (and_from _ _ parts.0 refl)

digits_feedless : (ds : List ℕ) → list_all is_ascii_digit ds ≡ true → no_feed ds ≡ true
digits_feedless [] e = refl
digits_feedless (d ∷ ds) e =
    let parts = and_parts (is_ascii_digit d) _ e in
    and_from _ _ (no_line_end d parts.0) (digits_feedless ds parts.1)

trim_digits : (ds : List ℕ) → list_all is_ascii_digit ds ≡ true → trim (32 ∷ ds) ≡ ds
unfolding trim
trim_digits ds all =
    ap (λ l. reverse (skip_blanks (reverse l))) (digits_stay ds all)
    ∙ ap reverse (digits_stay (reverse ds) (digits_reversed ds all))
    ∙ reverse-reverse ds

a_digit : (c : ℕ) → digit_value c < 10 → is_ascii_digit c ≡ true
a_digit c small = grind (arith, nat_tests)

all_digits : (text : List ℕ) → AllDigits 10 text → list_all is_ascii_digit text ≡ true
all_digits [] all = refl
all_digits (c ∷ cs) all = and_from _ _ (a_digit c all.0) (all_digits cs all.1)

the_number : (n : ℕ) → n < 2 ^ 64 → number_of (decimal n) ≡ Some n
unfolding number_of
the_number n small =
    let (numeral, value) = decimal_is_IsNumeral n small in
    let number : is_number (decimal n) ≡ true =
    and_from _ _ (lt-ltb _ _ numeral.0) (and_from _ _ (all_digits _ numeral.1) (lt-ltb _ _ (omega (arith, small, value)))) in
    cond-true _ _ _ number ∙ ap Some value

header_says : (n : ℕ) → n < 2 ^ 64 → content_length ((name ++ decimal n) ++ 13 ∷ 10 ∷ []) ≡ Some n
unfolding is_length_name
header_says n small =
    let all = all_digits (decimal n) (decimal_is_IsNumeral n small).0.1 in
    let none : no_feed (name ++ decimal n) ≡ true = list_all-append (λ b. not (eqb b 10)) name (decimal n) ∙ digits_feedless (decimal n) all in
    ap length_in (one_line (name ++ decimal n) none)
    ∙ ap (λ f. cond (is_field f && true) (one_number (length_texts f ++ [])) None) (one_field (name ++ decimal n) ∙ the_field (decimal n))
    ∙ ap number_of (trim_digits (decimal n) all)
    ∙ the_number n small

-- ---- a message

pub comes_back : (body rest : List ℕ) → length body ≤ max_message → Reads (frame body ++ rest) (message body rest)
comes_back body rest fits =
    let n = length body in
    let ds = decimal n in
    let small : n < 2 ^ 64 = omega (arith, fits) in
    let all = all_digits ds (decimal_is_IsNumeral n small).0.1 in
    let a = name ++ ds in
    let head = a ++ ending in
    let none : no_feed a ≡ true = list_all-append (λ b. not (eqb b 10)) name ds ∙ digits_feedless ds all in
    let front : head ≡ (a ++ 13 ∷ 10 ∷ []) ++ 13 ∷ 10 ∷ [] = sym (append_assoc a (13 ∷ 10 ∷ []) (13 ∷ 10 ∷ [])) in
    let at : length (a ++ 13 ∷ 10 ∷ []) ≡ length head - 2 = omega (arith, ap length front, length-append (a ++ 13 ∷ 10 ∷ []) (13 ∷ 10 ∷ [])) in
    let lines : take (length head - 2) head ≡ a ++ 13 ∷ 10 ∷ [] =
    ap (take (length head - 2)) front ∙ take_at (a ++ 13 ∷ 10 ∷ []) (13 ∷ 10 ∷ []) _ at in (
      head,
      record {
        whole = ap (λ l. name ++ l) (append_assoc ds (ending ++ body) rest ∙ sym (append_assoc ds ending (body ++ rest)));
        short = omega (arith, length-append a ending, length-append name ds, length-decimal-le 8 n (omega arith) (omega (arith, fits)) small);
        ends = ends_there a;
        first = no_early_end a none;
      },
      ap content_length lines ∙ header_says n small,
      fits,
    )
