-- A place that is written out is read again.
use Rattle.std.proofs.Common.{◌≡◌, ◌∙◌, ℕ, ◌+◌, ◌-◌, ◌*◌, ◌/◌, ◌%◌, ◌^◌, ◌<◌, ◌≤◌, ◌==◌, ◌&&◌, ◌||◌, Bool, true, false, not, List, [], ◌∷◌, ◌++◌}
use Rattle.std.proofs.Common.{length, take, drop, Option, Some, None, option_and_then, nat_le, nat_lt, codes, refl, sym, ap, arith, append_assoc}
use Rattle.std.proofs.Common.{length-append}
use Rattle.std.specs.Char.{is_ascii_digit, is_ascii_alphabetic, is_ascii_lowercase}
use Rattle.std.specs.Fmt.{decimal}
use Rattle.std.specs.List.{list_all, position_or_len}
use Rattle.std.specs.Str.{bytes_eq}
use Rattle.std.proofs.lemmas.Fmt.{decimal_by_steps}
use Rattle.std.proofs.lemmas.Bool.Decides.{nat_tests}
use Rattle.std.proofs.lemmas.List.{take-append-drop, take_at, drop_at}
use Rattle.rotor_base.specs.Name.{is_value_name}
use Rattle.rotor_base.specs.Stem.{is_body_name, is_source_name, is_stem_byte, is_stem_word, ends_stem}
use Rattle.rotor_base.specs.declared.target.Target.TheVariants.{At}
use Rattle.cli_words.specs.Target.{cut_at, digits_more, number_at, spot_word, target_by, target_of, token_of, token_word}
use Rattle.cli_words.specs.Words.{Word, is_value}
use Rattle.cli_words.proofs.Shapes.{both, named}

-- ---- the number

digit_byte : (d : ℕ) → d < 10 → is_ascii_digit (48 + d) ≡ true
digit_byte d h = grind (arith, nat_tests)

below : (n m : ℕ) → n < m → nat_lt n m ≡ true
below n m h = grind (arith, nat_tests)

digits_last : (k m d : ℕ) (xs : List ℕ) → digits_more k xs ≡ Some m → d < 10 → m * 10 + d < 4294967296
    → digits_more k (xs ++ (48 + d) ∷ []) ≡ Some (m * 10 + d)
digits_last k m d [] e h f =
    let same : k ≡ m = cc in
    let value : k * 10 + (48 + d - 48) ≡ m * 10 + d = rw same (omega arith) in
    rw (digit_byte d h, value, below (m * 10 + d) 4294967296 f) refl
digits_last k m d (x ∷ xs) e h f = by_test (is_ascii_digit x && nat_lt (k * 10 + (x - 48)) 4294967296) refl
    (λ g. digits_last (k * 10 + (x - 48)) m d xs g h f) where
      by_test : (b : Bool) → (is_ascii_digit x && nat_lt (k * 10 + (x - 48)) 4294967296) ≡ b
          → (digits_more (k * 10 + (x - 48)) xs ≡ Some m → digits_more (k * 10 + (x - 48)) (xs ++ (48 + d) ∷ []) ≡ Some (m * 10 + d))
          → digits_more k ((x ∷ xs) ++ (48 + d) ∷ []) ≡ Some (m * 10 + d)
      by_test true g rest = rw g (rest (rw g at e))
      by_test false g rest = let bad : ◌≡◌ {A = Option ℕ} None (Some m) = rw g at e in cc

number_last : (m d : ℕ) (xs : List ℕ) → number_at xs ≡ Some m → d < 10 → m * 10 + d < 4294967296 → number_at (xs ++ (48 + d) ∷ []) ≡ Some (m * 10 + d)
number_last m d [] e h f = cc
number_last m d (x ∷ xs) e h f = by_test (nat_le 49 x && nat_le x 57) refl where
  by_test : (b : Bool) → (nat_le 49 x && nat_le x 57) ≡ b → number_at ((x ∷ xs) ++ (48 + d) ∷ []) ≡ Some (m * 10 + d)
  by_test true g = rw g (digits_last (x - 48) m d xs (rw g at e) h f)
  by_test false g = let bad : ◌≡◌ {A = Option ℕ} None (Some m) = rw g at e in cc

-- the number of its decimal digits
pub number_decimal : (n : ℕ) → 0 < n → n < 2 ^ 32 → number_at (decimal n) ≡ Some n
number_decimal n p h = decimal_by_steps (λ m ds. 0 < m → m < 4294967296 → number_at ds ≡ Some m) one more n (omega arith) p (omega arith) where
  one : (m : ℕ) → m < 10 → 0 < m → m < 4294967296 → number_at ((48 + m) ∷ []) ≡ Some m
  one m small q f =
      let first : (nat_le 49 (48 + m) && nat_le (48 + m) 57) ≡ true = grind (arith, nat_tests) in
      rw first (ap (λ (k : ℕ). Some k) (omega arith))

  more : (m : ℕ) (ds : List ℕ) → 10 ≤ m → (0 < m / 10 → m / 10 < 4294967296 → number_at ds ≡ Some (m / 10)) → 0 < m → m < 4294967296
      → number_at (ds ++ ((48 + m % 10) ∷ [])) ≡ Some m
  more m ds big front q f =
      let whole : m / 10 * 10 + m % 10 ≡ m = omega arith in
      number_last (m / 10) (m % 10) ds (front (omega arith) (omega arith)) (omega arith) (omega arith) ∙ ap (λ (k : ℕ). Some k) whole

-- ---- the source: no byte of its name is `#`

abbrev lacks : Word → Bool
lacks = list_all (λ b. not (b == 35))

lacks-append : (xs ys : Word) → lacks xs ≡ true → lacks ys ≡ true → lacks (xs ++ ys) ≡ true
lacks-append [] ys h g = g
lacks-append (x ∷ xs) ys h g =
    let p = both (not (x == 35)) (lacks xs) h in
    rw (p.0, lacks-append xs ys p.1 g) refl

stem_byte : (b : ℕ) → is_stem_byte b ≡ true → not (b == 35) ≡ true
stem_byte b h = grind (arith, nat_tests)

stem_bytes : (w : Word) → list_all is_stem_byte w ≡ true → lacks w ≡ true
stem_bytes [] h = refl
stem_bytes (b ∷ bs) h =
    let p = both (is_stem_byte b) (list_all is_stem_byte bs) h in
    rw (stem_byte b p.0, stem_bytes bs p.1) refl

stem_lacks : (w : Word) → is_stem_word w ≡ true → lacks w ≡ true
stem_lacks [] h = refl
stem_lacks (b ∷ bs) h = stem_bytes (b ∷ bs) (both (is_ascii_alphabetic b && nat_le (length (b ∷ bs)) 255) (list_all is_stem_byte (b ∷ bs)) h).1

ending_lacks : (ending name : Word) → lacks ending ≡ true → ends_stem ending name ≡ true → lacks name ≡ true
unfolding ends_stem
ending_lacks ending name e h =
    let k = length name - length ending in
    let p = both (bytes_eq (drop k name) ending) (is_stem_word (take k name)) h in
    let tail : lacks (drop k name) ≡ true = ap lacks (named (drop k name) ending p.0) ∙ e in
    ap lacks (sym (take-append-drop k name)) ∙ lacks-append (take k name) (drop k name) (stem_lacks (take k name) p.1) tail

source_lacks : (file : Word) → is_source_name file ≡ true → lacks file ≡ true
source_lacks file h = by_body (is_body_name file) refl where
  by_body : (t : Bool) → is_body_name file ≡ t → lacks file ≡ true
  by_body true g = ending_lacks (codes ".ml") file refl g
  by_body false g = ending_lacks (codes ".mli") file refl (rw g at h)

-- the place of the mark behind such a front
mark_place : (front rest : Word) → lacks front ≡ true → position_or_len (λ b. b == 35) (front ++ (35 ∷ rest)) ≡ length front
mark_place [] rest h = refl
mark_place (x ∷ xs) rest h =
    let p = both (not (x == 35)) (lacks xs) h in
    by_test (x == 35) refl p.0 (mark_place xs rest p.1) where
      by_test : (t : Bool) → (x == 35) ≡ t → not (x == 35) ≡ true → position_or_len (λ b. b == 35) (xs ++ (35 ∷ rest)) ≡ length xs
          → position_or_len (λ b. b == 35) ((x ∷ xs) ++ (35 ∷ rest)) ≡ length (x ∷ xs)
      by_test true g n e = let bad : false ≡ true = rw g at n in cc
      by_test false g n e = rw (g, e) (omega arith)

cut_mark : (front rest : Word) → lacks front ≡ true → cut_at 35 (front ++ (35 ∷ rest)) ≡ Some (front, rest)
cut_mark front rest h =
    let at : position_or_len (λ b. b == 35) (front ++ (35 ∷ rest)) ≡ length front = mark_place front rest h in
    let inside : nat_lt (length front) (length (front ++ (35 ∷ rest))) ≡ true =
    below (length front) (length (front ++ (35 ∷ rest))) (omega (arith, length-append front (35 ∷ rest))) in
    let back : drop (length front + 1) (front ++ (35 ∷ rest)) ≡ rest = ap (drop (length front + 1)) (sym (append_assoc front (35 ∷ []) rest))
    ∙ drop_at (front ++ 35 ∷ []) rest (length front + 1) (length-append front (35 ∷ [])) in
    let before : take (length front) (front ++ (35 ∷ rest)) ≡ front = take_at front (35 ∷ rest) (length front) refl in
    rw (at, inside, before, back) refl

-- ---- the place

pub place_read : (file : Word) (n : ℕ) → is_source_name file ≡ true → 0 < n → n < 2 ^ 32 → target_of (file ++ (codes "#" ++ decimal n)) ≡ At file n
place_read file n s p h =
    let cut : cut_at 35 (file ++ (codes "#" ++ decimal n)) ≡ Some (file, decimal n) = cut_mark file (decimal n) (source_lacks file s) in
    let token : token_of (file, decimal n) ≡ Some (file, n) = rw (s, number_decimal n p h) refl in
    let read : token_word (file ++ (codes "#" ++ decimal n)) ≡ Some (file, n) = ap (option_and_then token_of) cut ∙ token in
    ap (λ (o : Option (Word × ℕ)). target_by o (spot_word (file ++ (codes "#" ++ decimal n))) (file ++ (codes "#" ++ decimal n))) read

-- ---- both values

letter_begins : (b : ℕ) → is_ascii_alphabetic b ≡ true → not (b == 45) ≡ true
letter_begins b h = grind (arith, nat_tests)

stem_begins : (stem more : Word) → is_stem_word stem ≡ true → is_value (stem ++ more) ≡ true
stem_begins [] more h = cc
stem_begins (b ∷ bs) more h = letter_begins b (both _ _ (both _ _ h).0).0

ending_begins : (ending name more : Word) → ends_stem ending name ≡ true → is_value (name ++ more) ≡ true
unfolding ends_stem
ending_begins ending name more h =
    let k = length name - length ending in
    let p = both (bytes_eq (drop k name) ending) (is_stem_word (take k name)) h in
    ap (λ (w : Word). is_value (w ++ more)) (sym (take-append-drop k name)) ∙ ap is_value (append_assoc (take k name) (drop k name) more)
    ∙ stem_begins (take k name) (drop k name ++ more) p.1

pub source_begins : (file more : Word) → is_source_name file ≡ true → is_value (file ++ more) ≡ true
source_begins file more h = by_body (is_body_name file) refl where
  by_body : (t : Bool) → is_body_name file ≡ t → is_value (file ++ more) ≡ true
  by_body true g = ending_begins (codes ".ml") file more g
  by_body false g = ending_begins (codes ".mli") file more (rw g at h)

pub name_begins : (w : Word) → is_value_name w ≡ true → is_value w ≡ true
name_begins [] h = cc
name_begins (b ∷ bs) h = starts (both _ _ (both _ _ (both _ _ h).0).0).0 where
  starts : (is_ascii_lowercase b || b == 95) ≡ true → not (b == 45) ≡ true
  starts g = grind (arith, nat_tests)
