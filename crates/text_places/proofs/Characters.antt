-- The characters of a text are what begins in it.
use Rattle.std.proofs.Common.{◌≡◌, ◌≢◌, ℕ, zero, suc, ◌+◌, ◌<◌, ◌≤◌, List, [], ◌∷◌, ◌++◌, length, map, take, drop, refl, ap, sym, ◌∙◌, subst, arith}
use Rattle.std.proofs.Common.{append_assoc}
use Rattle.std.proofs.Common.{Bool, true, false, cond, ◌==◌, ◌&&◌, add-zero, zero-add}
use Rattle.std.specs.Prelude.{Contains}
use Rattle.std.proofs.lemmas.Bool.Decides.{nat_tests}
use Rattle.std.specs.Str.{IsUtf8, is_utf8}
use Rattle.std.specs.Char.{len_utf8}
use Rattle.std.proofs.Math.Utf8.{scalar, scalars, encode, encodes}
use Rattle.std.proofs.lemmas.List.{append-nil, length-append, length-take-le, take-append-drop, take_at, drop_at}
use Rattle.std.proofs.lemmas.Str.{encode_same, length-encode, len_utf8_bounds, encode_ascii, len_utf8_ascii, char_from_byte, is_utf8-from_IsUtf8}
use Rattle.std.proofs.lemmas.Str.{IsUtf8-from_is_utf8}
use Rattle.text_places.specs.declared.counting.Counting.{Counting}
use Rattle.text_places.specs.declared.counting.Counting.TheVariants.{People, Utf16, Utf8}
use Rattle.text_places.specs.declared.counting.Position.{Position}
use Rattle.text_places.specs.declared.front.Front.{Front}
use Rattle.text_places.specs.Fronts.{origin_of, char_len, character, line_end, front_of, begins_with_feed, behind, protocol_front}
use Rattle.text_places.specs.Marks.{Mark, marks_from, marks}
use Rattle.text_places.specs.Laws.{Begins, IsCut, CharactersBegin}
use Rattle.text_places.proofs.Rising.{each_byte_begins}
use Rattle.text_places.proofs.Walks.{marks_next}

-- ---- the length of a character

-- a part of a character is no text
part_none : (x k : ℕ) (rest : List ℕ) → 0 < k → k < len_utf8 x → IsUtf8 (take k (encode x ++ rest)) → ⊥
part_none x k rest some short ([], (good, e)) =
    let long : k ≤ length (encode x ++ rest) = omega (arith, length-append (encode x) rest, length-encode x) in
    let none : 0 ≡ length (take k (encode x ++ rest)) = ap length e in
    omega (arith, none, length-take-le k (encode x ++ rest) long)
part_none x k rest some short (d ∷ ds, (good, e)) =
    let whole : List ℕ = encode x ++ rest in
    let long : k ≤ length whole = omega (arith, length-append (encode x) rest, length-encode x) in
    let split : encode d ++ (encodes ds ++ drop k whole) ≡ encode x ++ rest
    = sym (append_assoc (encode d) (encodes ds) (drop k whole)) ∙ ap (λ l. l ++ drop k whole) e ∙ take-append-drop k whole in
    let same : d ≡ x = (encode_same d x (encodes ds ++ drop k whole) rest split).0 in
    let size : length (encode d) + length (encodes ds) ≡ length (take k whole) = sym (length-append (encode d) (encodes ds)) ∙ ap length e in
    omega (arith, size, length-encode d, ap len_utf8 same, length-take-le k whole long)

part_false : (x k : ℕ) (rest : List ℕ) → 0 < k → k < len_utf8 x → is_utf8 (take k (encode x ++ rest)) ≡ false
part_false x k rest some short = by_test (is_utf8 (take k (encode x ++ rest))) refl
  where
    by_test : (t : Bool) → is_utf8 (take k (encode x ++ rest)) ≡ t → t ≡ false
    by_test true e = absurd (part_none x k rest some short (IsUtf8-from_is_utf8 (take k (encode x ++ rest)) e))
    by_test false e = refl

-- a whole one is
whole_true : (x : ℕ) (rest : List ℕ) → scalar x ≡ true → is_utf8 (take (len_utf8 x) (encode x ++ rest)) ≡ true
whole_true x rest good =
    let one : scalars (x ∷ []) ≡ true = ap (λ t. t && true) good in
    let text : IsUtf8 (encode x) = (x ∷ [], (one, append-nil (encode x))) in
    ap is_utf8 (take_at (encode x) rest (len_utf8 x) (length-encode x)) ∙ is_utf8-from_IsUtf8 (encode x) text

least_of : (bs : List ℕ) (n : ℕ) → 0 < n → n ≤ 4 → ((k : ℕ) → 0 < k → k < n → is_utf8 (take k bs) ≡ false) → is_utf8 (take n bs) ≡ true
    → char_len bs ≡ n
least_of bs zero some few none text = absurd (omega arith)
least_of bs (suc zero) some few none text =
    ap (λ t. cond t 1 (cond (is_utf8 (take 2 bs)) 2 (cond (is_utf8 (take 3 bs)) 3 (cond (is_utf8 (take 4 bs)) 4 1)))) text
least_of bs (suc (suc zero)) some few none text =
    ap (λ t. cond t 1 (cond (is_utf8 (take 2 bs)) 2 (cond (is_utf8 (take 3 bs)) 3 (cond (is_utf8 (take 4 bs)) 4 1))))
    (none 1 (omega arith) (omega arith))
    ∙ ap (λ t. cond t 2 (cond (is_utf8 (take 3 bs)) 3 (cond (is_utf8 (take 4 bs)) 4 1))) text
least_of bs (suc (suc (suc zero))) some few none text =
    ap (λ t. cond t 1 (cond (is_utf8 (take 2 bs)) 2 (cond (is_utf8 (take 3 bs)) 3 (cond (is_utf8 (take 4 bs)) 4 1))))
    (none 1 (omega arith) (omega arith))
    ∙ ap (λ t. cond t 2 (cond (is_utf8 (take 3 bs)) 3 (cond (is_utf8 (take 4 bs)) 4 1))) (none 2 (omega arith) (omega arith))
    ∙ ap (λ t. cond t 3 (cond (is_utf8 (take 4 bs)) 4 1)) text
least_of bs (suc (suc (suc (suc zero)))) some few none text =
    ap (λ t. cond t 1 (cond (is_utf8 (take 2 bs)) 2 (cond (is_utf8 (take 3 bs)) 3 (cond (is_utf8 (take 4 bs)) 4 1))))
    (none 1 (omega arith) (omega arith))
    ∙ ap (λ t. cond t 2 (cond (is_utf8 (take 3 bs)) 3 (cond (is_utf8 (take 4 bs)) 4 1))) (none 2 (omega arith) (omega arith))
    ∙ ap (λ t. cond t 3 (cond (is_utf8 (take 4 bs)) 4 1)) (none 3 (omega arith) (omega arith)) ∙ ap (λ t. cond t 4 1) text
least_of bs (suc (suc (suc (suc (suc n))))) some few none text = absurd (omega arith)

char_len-encode : (x : ℕ) (rest : List ℕ) → scalar x ≡ true → char_len (encode x ++ rest) ≡ len_utf8 x
char_len-encode x rest good =
    let low : 1 ≤ len_utf8 x = (len_utf8_bounds x).0 in
    let high : len_utf8 x ≤ 4 = (len_utf8_bounds x).1 in
    least_of (encode x ++ rest) (len_utf8 x) (omega arith) high (λ k some short. part_false x k rest some short) (whole_true x rest good)

-- ---- the marks behind a front

abbrev Offs : Counting → ℕ → Position → List ℕ → List ℕ
Offs c at here bs = map (λ m. m.offset) (marks_from c 0 at here bs)

-- the marks of bytes are one mark and those of the bytes from an offset on
record Leads (c : Counting) (at : ℕ) (here : Position) (bs : List ℕ) (next : ℕ) (rest : List ℕ) : Type 0 where
  first : Mark
  there : Position
  is : marks_from c 0 at here bs ≡ first ∷ marks_from c 0 next there rest

contains_later : (o x : ℕ) (xs : List ℕ) → Contains xs o → Contains (x ∷ xs) o
contains_later o x xs (k, lt, e) = (suc k, omega (arith, lt), e)

led : (c : Counting) (at : ℕ) (here : Position) (bs : List ℕ) (next : ℕ) (rest : List ℕ) (o : ℕ) → Leads c at here bs next rest
    → ((there : Position) → Contains (Offs c next there rest) o) → Contains (Offs c at here bs) o
led c at here bs next rest o l h =
    let P : List Mark → Type 0 = λ ms. Contains (map (λ m. m.offset) ms) o in
    subst P (sym l.is) (contains_later o l.first.offset (Offs c next l.there rest) (h l.there))

by_front : (c : Counting) (at : ℕ) (here : Position) (bs : List ℕ) (front : Front) (rest : List ℕ) → front ≡ front_of c bs → 0 < front.len
    → front.len ≤ length bs → drop front.len bs ≡ rest → Leads c at here bs (at + front.len) rest
by_front c at here bs front rest is some within left = record {
  first = record { offset = at; position = here; ends_line = front.ends_line };
  there = behind c here front;
  is = marks_next c at here bs front is some within
      ∙ ap (λ l. record { offset = at; position = here; ends_line = front.ends_line } ∷ marks_from c 0 (at + front.len) (behind c here front) l) left;
}

-- the counting is the protocol's
abbrev IsProtocol : Counting → Type 0
IsProtocol c = (b : ℕ) (bs : List ℕ) → front_of c (b ∷ bs) ≡ protocol_front c b bs

lead_feed : (c : Counting) (at : ℕ) (here : Position) (r : List ℕ) → IsProtocol c → Leads c at here (10 ∷ r) (at + 1) r
lead_feed c at here r p = by_front c at here (10 ∷ r) (line_end 1) r (sym (p 10 r)) (omega arith) (omega arith) refl

lead_return_feed : (c : Counting) (at : ℕ) (here : Position) (r : List ℕ) → IsProtocol c → Leads c at here (13 ∷ (10 ∷ r)) (at + 2) r
lead_return_feed c at here r p = by_front c at here (13 ∷ (10 ∷ r)) (line_end 2) r (sym (p 13 (10 ∷ r))) (omega arith) (omega arith) refl

lead_return : (c : Counting) (at : ℕ) (here : Position) (r : List ℕ) → IsProtocol c → begins_with_feed r ≡ false → Leads c at here (13 ∷ r) (at + 1) r
lead_return c at here r p none =
    by_front c at here (13 ∷ r) (line_end 1) r (sym (p 13 r ∙ ap (λ t. cond t (line_end 2) (line_end 1)) none)) (omega arith) (omega arith) refl

other_front : (c : Counting) (b : ℕ) (bs : List ℕ) → (b == 10) ≡ false → (b == 13) ≡ false → protocol_front c b bs ≡ character c (char_len (b ∷ bs))
other_front c b bs e f =
    ap (λ t. cond t (line_end 1) (cond (b == 13) (cond (begins_with_feed bs) (line_end 2) (line_end 1)) (character c (char_len (b ∷ bs))))) e
    ∙ ap (λ t. cond t (cond (begins_with_feed bs) (line_end 2) (line_end 1)) (character c (char_len (b ∷ bs)))) f

record Both (a b : Bool) : Type 0 where
  left : a ≡ true
  right : b ≡ true

both : (a b : Bool) → (a && b) ≡ true → Both a b
both true b e = record { left = refl; right = e }
both false b e = absurd (cc)

not_eq : (a b : ℕ) (t : Bool) → (a == b) ≡ t → a ≢ b → (a == b) ≡ false
not_eq a b true e ne = absurd (ne (grind (arith, nat_tests, e)))
not_eq a b false e ne = e

-- a character that ends no line
char_bytes : (c : Counting) (at : ℕ) (here : Position) (x : ℕ) (r bs : List ℕ) → IsProtocol c → scalar x ≡ true → x ≢ 10 → x ≢ 13
    → bs ≡ encode x ++ r → Leads c at here bs (at + len_utf8 x) r
char_bytes c at here x r [] p good nf nr e =
    let none : 0 ≡ length (encode x ++ r) = ap length e in
    let low : 1 ≤ len_utf8 x = (len_utf8_bounds x).0 in
    absurd (omega (arith, none, length-append (encode x) r, length-encode x))
char_bytes c at here x r (b ∷ bs) p good nf nr e =
    let low : 1 ≤ len_utf8 x = (len_utf8_bounds x).0 in
    let first : b < 128 → x ≡ b = λ small. char_from_byte (b ∷ bs) r x e small (omega arith) in
    let feed : b ≢ 10 = λ same. nf (first (omega arith) ∙ same) in
    let return' : b ≢ 13 = λ same. nr (first (omega arith) ∙ same) in
    let len : char_len (b ∷ bs) ≡ len_utf8 x = ap char_len e ∙ char_len-encode x r good in
    let size : length (b ∷ bs) ≡ length (encode x) + length r = ap length e ∙ length-append (encode x) r in
    by_front c at here (b ∷ bs) (character c (len_utf8 x)) r
    (ap (character c) (sym len)
    ∙ sym (other_front c b bs (not_eq b 10 (b == 10) refl feed) (not_eq b 13 (b == 13) refl return')) ∙ sym (p b bs)) (omega arith)
    (omega (arith, size, length-encode x)) (ap (drop (len_utf8 x)) e ∙ drop_at (encode x) r (len_utf8 x) (length-encode x))

lead_char : (c : Counting) (at : ℕ) (here : Position) (x : ℕ) (r : List ℕ) → IsProtocol c → scalar x ≡ true → x ≢ 10 → x ≢ 13
    → Leads c at here (encode x ++ r) (at + len_utf8 x) r
lead_char c at here x r p good nf nr = char_bytes c at here x r (encode x ++ r) p good nf nr refl

-- LF, and CR with no LF behind it, as characters
lead_ascii : (c : Counting) (at : ℕ) (here : Position) (x : ℕ) (r : List ℕ) → x < 128 → Leads c at here (x ∷ r) (at + 1) r
    → Leads c at here (encode x ++ r) (at + len_utf8 x) r
lead_ascii c at here x r small l =
    let P : List ℕ → Type 0 = λ bs. Leads c at here bs (at + 1) r in
    let Q : ℕ → Type 0 = λ n. Leads c at here (encode x ++ r) (at + n) r in
    subst Q (sym (len_utf8_ascii x small)) (subst P (sym (ap (λ bs. bs ++ r) (encode_ascii x small))) l)

-- ---- a front that is a text

-- at the end of each text of at most so many characters something begins
abbrev Finds : Counting → List ℕ → ℕ → Type 0
Finds c rest n =
    (at : ℕ) (here : Position) (ys : List ℕ) → length ys ≤ n → scalars ys ≡ true → (IsCut (encodes ys) rest → ⊥)
    → Contains (Offs c at here (encodes ys ++ rest)) (at + length (encodes ys))

cut_later : (a front rest : List ℕ) → IsCut front rest → IsCut (a ++ front) rest
cut_later a front rest k = record {
  before = a ++ k.before;
  after = k.after;
  ends = ap (λ l. a ++ l) k.ends ∙ sym (append_assoc a k.before (13 ∷ []));
  begins = k.begins;
}

finish : (c : Counting) (rest : List ℕ) (n at : ℕ) (here : Position) (a ys : List ℕ) (next : ℕ) → Finds c rest n
    → Leads c at here (a ++ (encodes ys ++ rest)) next (encodes ys ++ rest) → next ≡ at + length a → length ys ≤ n → scalars ys ≡ true
    → (IsCut (a ++ encodes ys) rest → ⊥) → Contains (Offs c at here ((a ++ encodes ys) ++ rest)) (at + length (a ++ encodes ys))
finish c rest n at here a ys next ih l is few good whole =
    let P : List ℕ → Type 0 = λ bs. Contains (Offs c at here bs) (at + length (a ++ encodes ys)) in
    let end : next + length (encodes ys) ≡ at + length (a ++ encodes ys) = omega (arith, is, length-append a (encodes ys)) in
    subst P (sym (append_assoc a (encodes ys) rest))
    (led c at here (a ++ (encodes ys ++ rest)) next (encodes ys ++ rest) (at + length (a ++ encodes ys)) l
    (λ there. let Q : ℕ → Type 0 = λ o. Contains (Offs c next there (encodes ys ++ rest)) o in
    subst Q end (ih next there ys few good (λ k. whole (cut_later a (encodes ys) rest k)))))

-- LF begins what follows a CR: the two are one line end
feed_first : (bs : List ℕ) → begins_with_feed bs ≡ true → (after : List ℕ) × (bs ≡ 10 ∷ after)
feed_first [] e = absurd (cc)
feed_first (b ∷ bs) e = let same : b ≡ 10 = grind (arith, nat_tests, e) in (bs, ap (λ x. x ∷ bs) same)

return_feed : (c : Counting) (rest : List ℕ) (n at : ℕ) (here : Position) (x : ℕ) (xs : List ℕ) → IsProtocol c → Finds c rest n → x ≡ 13
    → length (x ∷ xs) ≤ suc n → scalars (x ∷ xs) ≡ true → (IsCut (encodes (x ∷ xs)) rest → ⊥) → begins_with_feed (encodes xs ++ rest) ≡ true
    → Contains (Offs c at here (encodes (x ∷ xs) ++ rest)) (at + length (encodes (x ∷ xs)))
return_feed c rest n at here x [] p ih is few good whole fed =
    let k = feed_first rest fed in
    let one : encode x ++ [] ≡ [] ++ 13 ∷ [] = append-nil (encode x) ∙ ap encode is ∙ encode_ascii 13 (omega arith) in
    absurd (whole (record { before = []; after = k.0; ends = one; begins = k.1 }))
return_feed c rest n at here x (d ∷ ds) p ih is few good whole fed =
    let r : List ℕ = encodes ds ++ rest in
    let k = feed_first ((encode d ++ encodes ds) ++ rest) fed in
    let shape : 10 ∷ k.0 ≡ encode d ++ r = sym k.1 ∙ append_assoc (encode d) (encodes ds) rest in
    let feed : d ≡ 10 = char_from_byte (10 ∷ k.0) r d shape (omega arith) (omega arith) in
    let a : List ℕ = encode x ++ encode d in
    let bytes : a ≡ 13 ∷ (10 ∷ []) =
    ap (λ l. l ++ encode d) (ap encode is ∙ encode_ascii 13 (omega arith)) ∙ ap (λ l. 13 ∷ l) (ap encode feed ∙ encode_ascii 10 (omega arith)) in
    let goods = both (scalar x) (scalars (d ∷ ds)) good in
    let P : List ℕ → Type 0 = λ l. Leads c at here (l ++ r) (at + 2) r in
    let Q : List ℕ → Type 0 = λ l. Contains (Offs c at here (l ++ rest)) (at + length l) in
    let same : a ++ encodes ds ≡ encodes (x ∷ (d ∷ ds)) = append_assoc (encode x) (encode d) (encodes ds) in
    let N : List ℕ → Type 0 = λ l. IsCut l rest → ⊥ in
    subst Q same
    (finish c rest n at here a ds (at + 2) ih (subst P (sym bytes) (lead_return_feed c at here r p))
    (let two : 2 ≡ length a = sym (ap length bytes) in omega (arith, two))
    (omega arith) (both (scalar d) (scalars ds) goods.right).right (subst N (sym same) whole))

step : (c : Counting) (rest : List ℕ) (n at : ℕ) (here : Position) (x : ℕ) (xs : List ℕ) → IsProtocol c → Finds c rest n
    → length (x ∷ xs) ≤ suc n → scalars (x ∷ xs) ≡ true → (IsCut (encodes (x ∷ xs)) rest → ⊥)
    → Contains (Offs c at here (encodes (x ∷ xs) ++ rest)) (at + length (encodes (x ∷ xs)))
step c rest n at here x xs p ih few good whole = by_feed (x == 10) refl
  where
    ends : Leads c at here (encode x ++ (encodes xs ++ rest)) (at + len_utf8 x) (encodes xs ++ rest)
        → Contains (Offs c at here (encodes (x ∷ xs) ++ rest)) (at + length (encodes (x ∷ xs)))
    ends l =
        finish c rest n at here (encode x) xs (at + len_utf8 x) ih l (ap (λ k. at + k) (sym (length-encode x))) (omega arith)
        (both (scalar x) (scalars xs) good).right whole

    by_next : (t : Bool) → begins_with_feed (encodes xs ++ rest) ≡ t → x ≡ 13
        → Contains (Offs c at here (encodes (x ∷ xs) ++ rest)) (at + length (encodes (x ∷ xs)))
    by_next true fed is = return_feed c rest n at here x xs p ih is few good whole fed
    by_next false none is =
        let P : ℕ → Type 0 = λ y. Leads c at here (y ∷ (encodes xs ++ rest)) (at + 1) (encodes xs ++ rest) in
        ends (lead_ascii c at here x (encodes xs ++ rest) (omega arith) (subst P (sym is) (lead_return c at here (encodes xs ++ rest) p none)))

    by_return : (t : Bool) → (x == 13) ≡ t → x ≢ 10 → Contains (Offs c at here (encodes (x ∷ xs) ++ rest)) (at + length (encodes (x ∷ xs)))
    by_return true e nf = by_next (begins_with_feed (encodes xs ++ rest)) refl (grind (arith, nat_tests, e))
    by_return false e nf =
        ends (lead_char c at here x (encodes xs ++ rest) p (both (scalar x) (scalars xs) good).left nf
        (λ same. let k : x ≡ 13 = same in grind (arith, nat_tests, e, k)))

    by_feed : (t : Bool) → (x == 10) ≡ t → Contains (Offs c at here (encodes (x ∷ xs) ++ rest)) (at + length (encodes (x ∷ xs)))
    by_feed true e =
        let is : x ≡ 10 = grind (arith, nat_tests, e) in
        let P : ℕ → Type 0 = λ y. Leads c at here (y ∷ (encodes xs ++ rest)) (at + 1) (encodes xs ++ rest) in
        ends (lead_ascii c at here x (encodes xs ++ rest) (omega arith) (subst P (sym is) (lead_feed c at here (encodes xs ++ rest) p)))
    by_feed false e = by_return (x == 13) refl (λ same. let k : x ≡ 10 = same in grind (arith, nat_tests, e, k))

begin_empty : (c : Counting) (at : ℕ) (here : Position) (rest : List ℕ) → Contains (Offs c at here rest) (at + 0)
begin_empty c at here [] = (zero, omega arith, sym (add-zero at))
begin_empty c at here (b ∷ bs) = (zero, omega arith, sym (add-zero at))

finds : (c : Counting) (rest : List ℕ) → IsProtocol c → (n : ℕ) → Finds c rest n
finds c rest p n at here [] few good whole = begin_empty c at here rest
finds c rest p zero at here (x ∷ xs) few good whole = absurd (omega arith)
finds c rest p (suc n) at here (x ∷ xs) few good whole = step c rest n at here x xs p (finds c rest p n) few good whole

protocol_begins : (c : Counting) (front rest : List ℕ) → IsProtocol c → IsUtf8 front → (IsCut front rest → ⊥)
    → Begins c (front ++ rest) (length front)
protocol_begins c front rest p (cs, (good, is)) whole =
    let N : List ℕ → Type 0 = λ l. IsCut l rest → ⊥ in
    let P : List ℕ → Type 0 = λ l. Begins c (l ++ rest) (length l) in
    let Q : ℕ → Type 0 = λ o. Contains (map (λ m. m.offset) (marks c (encodes cs ++ rest))) o in
    subst P is
    (subst Q (zero-add (length (encodes cs)))
    (finds c rest p (length cs) 0 (origin_of c) cs (omega arith) good (subst N (sym is) whole)))

pub characters_begin : CharactersBegin
characters_begin People front rest text whole = each_byte_begins (front ++ rest) (length front) (omega (arith, length-append front rest))
characters_begin Utf16 front rest text whole = protocol_begins Utf16 front rest (λ b bs. refl) text whole
characters_begin Utf8 front rest text whole = protocol_begins Utf8 front rest (λ b bs. refl) text whole
