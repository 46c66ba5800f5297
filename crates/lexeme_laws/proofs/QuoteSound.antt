-- A Char, a Text or a Quoted that is taken is one of the table.
use Rattle.std.proofs.Common.{◌≡◌, ◌≢◌, ℕ, zero, suc, ◌+◌, ◌≤◌, inl, inr, List, [], ◌∷◌, ◌++◌, Bool, true, false, ◌==◌, length, drop, take, get_or}
use Rattle.std.proofs.Common.{nat_eq, Option, Some, None, refl, ap, sym, subst, ◌∙◌, arith, length-append, append_assoc}
use Rattle.std.specs.List.{prefix_len, starts_with}
use Rattle.std.specs.Prelude.{codes}
use Rattle.std.specs.Str.{byte}
use Rattle.std.proofs.lemmas.Bool.Decides.{nat_tests}
use Rattle.std.proofs.lemmas.List.{take-append-le, take-append-drop, length-take-le}
use Rattle.std.proofs.lemmas.Slice.Eq.{bytes_eq-Decides}
use Rattle.std.proofs.lemmas.List.Sums.{prefix_len-le-length}
use lib.Pointwise.{pointwise}
use Rattle.rotor_base.specs.declared.token.Class.{Class}
use Rattle.rotor_base.specs.declared.token.Class.TheVariants as class
use Rattle.ml_lexer.specs.declared.piece.Piece.{Piece}
use Rattle.ml_lexer.specs.declared.piece.Piece.TheVariants as piece
use Rattle.ml_lexer.specs.Bytes.{is_at, is_quoted_word_byte}
use Rattle.ml_lexer.specs.Quotes.{char_length, text_end, text_length, opens_quoted, closes_quoted, quoted_end, quoted_length}
use Rattle.ml_lexer.specs.Pieces.{ended, char_or_variable}
use Rattle.ml_lexer.proofs.Local.{which, and_left, and_right, opens_at}
use Rattle.ml_lexer.proofs.Words.{take_front}
use Rattle.lexeme_laws.specs.Table.{IsTextBody, IsTextLexeme, IsUpTo, IsQuoted, quoted_close}
use Rattle.lexeme_laws.specs.Begins.{Begins}
use Rattle.lexeme_laws.proofs.Tests.{same_numbers}
use Rattle.lexeme_laws.proofs.CharSound.{char_sound}
use Rattle.lexeme_laws.proofs.QuoteReach.{closes_is, close_length, quoted_at, up_to_length}
use Rattle.lexeme_laws.proofs.WordSound.{Fine, run_passes, variable_fine}

-- ---- texts

-- what a Text that ends has from here on: its body, and a `"`
pub record Body (body rest b : List ℕ) (n m : ℕ) : Type 0 where
  pub bytes : b ≡ body ++ (byte "\"" ∷ rest)
  pub is : IsTextBody body
  pub ends : m ≡ n + length body + 1

-- behind a `\` one byte is taken
abbrev BodyFrom : Bool → List ℕ → ℕ → ℕ → Type 0
BodyFrom false b n m = (body : List ℕ) × (rest : List ℕ) × Body body rest b n m
BodyFrom true b n m = (c : ℕ) × (s : List ℕ) × (body : List ℕ) × (rest : List ℕ) × (b ≡ c ∷ s) × Body body rest s (n + 1) m

equal_self : (k : ℕ) → (k == k) ≡ true
equal_self k = elim (which (k == k)) [
  | inl y ↦ y
  | inr n ↦ absurd (grind (arith, nat_tests, n))
]

unequal : (c k : ℕ) → (c == k) ≡ false → c ≢ k
unequal c k e same = let wrong : true ≡ false = sym (ap (λ v. v == k) same ∙ equal_self k) ∙ e in cc

text_found : (n c : ℕ) (b : List ℕ) (m : ℕ) → (c == byte "\"") ≡ true → text_end n false (c ∷ b) ≡ Some m → n + 1 ≡ m
unfolding text_end
text_found n c b m h e = let got = rw h at e in cc

text_on : (n c : ℕ) (b : List ℕ) (m : ℕ) → (c == byte "\"") ≡ false → text_end n false (c ∷ b) ≡ Some m
    → text_end (n + 1) (c == byte "\\") b ≡ Some m
unfolding text_end
text_on n c b m h e = rw h at e

text_taken : (n c : ℕ) (b : List ℕ) (m : ℕ) → text_end n true (c ∷ b) ≡ Some m → text_end (n + 1) false b ≡ Some m
unfolding text_end
text_taken n c b m e = e

text_nothing : (n : ℕ) (taken : Bool) (m : ℕ) → text_end n taken [] ≡ Some m → ⊥
unfolding text_end
text_nothing n true m e = cc
text_nothing n false m e = cc

-- a byte before a body, taken behind a `\` or not
text_cons : (t : Bool) (n c : ℕ) (b : List ℕ) (m : ℕ) → (c == byte "\"") ≡ false → (c == byte "\\") ≡ t → BodyFrom t b (n + 1) m
    → BodyFrom false (c ∷ b) n m
text_cons false n c b m quote escape got =
    let body = got.0 in
    let rest = got.1 in
    let has = got.2 in
    let ends = has.ends in (
      c ∷ body,
      rest,
      record {
        bytes = ap (λ l. c ∷ l) has.bytes;
        is =
            IsTextBody.plain c body (unequal c (byte "\\") escape) (unequal c (byte "\"") quote) has.is;
        ends = omega (arith, ends);
      },
    )
text_cons true n c b m quote escape got =
    let d = got.0 in
    let s = got.1 in
    let body = got.2 in
    let rest = got.3 in
    let has = got.5 in
    let ends = has.ends in
    let same = same_numbers c (byte "\\") escape in
    let bytes : c ∷ b ≡ byte "\\" ∷ d ∷ (body ++ (byte "\"" ∷ rest)) = ap (λ v. v ∷ b) same
    ∙ ap (λ l. byte "\\" ∷ l) (got.4 ∙ ap (λ l. d ∷ l) has.bytes) in
    (byte "\\" ∷ d ∷ body, rest, record { bytes = bytes; is = IsTextBody.escaped d body has.is; ends = omega (arith, ends) })

text_sound : (b : List ℕ) (taken : Bool) (n m : ℕ) → text_end n taken b ≡ Some m → BodyFrom taken b n m
text_sound [] taken n m e = absurd (text_nothing n taken m e)
text_sound (c ∷ b) true n m e =
    let got = text_sound b false (n + 1) m (text_taken n c b m e) in
    (c, b, got.0, got.1, refl, got.2)
text_sound (c ∷ b) false n m e = elim (which (c == byte "\"")) [
  | inl y ↦
      let at = text_found n c b m y e in
      ([], b, record { bytes = ap (λ v. v ∷ b) (same_numbers c (byte "\"") y); is = IsTextBody.empty; ends = omega (arith, at) })
  | inr no_end ↦ text_cons (c == byte "\\") n c b m no_end refl (text_sound b (c == byte "\\") (n + 1) m (text_on n c b m no_end e))
]

front_length : (front rest : List ℕ) → length front ≤ length (front ++ rest)
front_length front rest = let e = length-append front rest in omega (arith, e)

-- a front that is a lexeme
front_begins : (k : Class) (front rest b : List ℕ) (m : ℕ) (P : List ℕ → Type 0) → P front → b ≡ front ++ rest → m ≡ length front
    → (m ≤ length b) × P (take m b)
front_begins k front rest b m P is e size =
    let text : take m b ≡ front = ap (λ n. take n b) size ∙ ap (take (length front)) e ∙ take_front front rest in
    let fits = front_length front rest in
    let within : length front ≤ length b = subst (λ v. length front ≤ length v) (sym e) fits in
    (omega (arith, within, size), subst P (sym text) is)

some_of : (kind k : Class) (n m : ℕ) → ◌≡◌ {A = Piece} (piece.Lexeme kind n) (piece.Lexeme k m) → ◌≡◌ {A = Option ℕ} (Some n) (Some m)
some_of kind k n m e = let same : n ≡ m = cc in ap (λ v. Some v) same

pub ended_parts : (kind k : Class) (o : Option ℕ) (m : ℕ) → ended kind o ≡ piece.Lexeme k m → (o ≡ Some m) × (kind ≡ k)
ended_parts kind k None m e = cc
ended_parts kind k (Some n) m e = (some_of kind k n m e, cc)

text_begins : (x : ℕ) (b : List ℕ) (m : ℕ) → (x == byte "\"") ≡ true → text_end 1 false b ≡ Some m → Begins class.Text m (x ∷ b)
text_begins x b m h e =
    let got = text_sound b false 1 m e in
    let body = got.0 in
    let rest = got.1 in
    let has = got.2 in
    let front = byte "\"" ∷ (body ++ codes "\"") in
    let same = same_numbers x (byte "\"") h in
    let bytes : x ∷ b ≡ front ++ rest = ap (λ v. v ∷ b) same ∙ ap (λ l. byte "\"" ∷ l) (has.bytes ∙ sym (append_assoc body (codes "\"") rest)) in
    let size : length (body ++ codes "\"") ≡ length body + 1 = length-append body (codes "\"") in
    let ends = has.ends in
    let made = front_begins class.Text front rest (x ∷ b) m IsTextLexeme (IsTextLexeme.closed body has.is) bytes (omega (arith, size, ends)) in
    (made.0, made.1, tt)

pub text_fine : (b : List ℕ) → is_at "\"" 0 b ≡ true → Fine b (ended class.Text (text_length b))
text_fine [] h k m e = cc
text_fine (x ∷ b) h k m e =
    let parts = ended_parts class.Text k (text_length (x ∷ b)) m e in
    subst (λ c. Begins c m (x ∷ b)) parts.1 (text_begins x b m h parts.0)

-- ---- quoted texts

-- what a Quoted that ends has from here on
pub record Rest (word t rest b : List ℕ) (n m : ℕ) : Type 0 where
  pub bytes : b ≡ t ++ rest
  pub is : IsUpTo (quoted_close word) t
  pub ends : m ≡ n + length t

quoted_nothing : (word : List ℕ) (n m : ℕ) → quoted_end word n [] ≡ Some m → ⊥
unfolding quoted_end
quoted_nothing word n m e = cc

quoted_found : (word : List ℕ) (n c : ℕ) (b : List ℕ) (m : ℕ) → closes_quoted word (c ∷ b) ≡ true → quoted_end word n (c ∷ b) ≡ Some m
    → n + length word + 2 ≡ m
unfolding quoted_end
quoted_found word n c b m h e = let got = rw h at e in cc

quoted_on : (word : List ℕ) (n c : ℕ) (b : List ℕ) (m : ℕ) → closes_quoted word (c ∷ b) ≡ false → quoted_end word n (c ∷ b) ≡ Some m
    → quoted_end word (n + 1) b ≡ Some m
unfolding quoted_end
quoted_on word n c b m h e = rw h at e

texts_equal : (xs ys : List ℕ) → pointwise nat_eq xs ys ≡ true → xs ≡ ys
texts_equal xs ys e = (bytes_eq-Decides xs ys).0 e

quoted_sound : (word b : List ℕ) (n m : ℕ) → quoted_end word n b ≡ Some m → (t : List ℕ) × (rest : List ℕ) × Rest word t rest b n m
quoted_sound word [] n m e = absurd (quoted_nothing word n m e)
quoted_sound word (c ∷ b) n m e = elim (which (closes_quoted word (c ∷ b))) [
  | inl y ↦
      let close = quoted_close word in
      let at = quoted_found word n c b m y e in
      let begins : starts_with nat_eq (c ∷ b) close ≡ true = sym (closes_is word c b) ∙ y in
      let same : close ≡ take (length close) (c ∷ b) = texts_equal close (take (length close) (c ∷ b)) begins in
      let size = close_length word in
      let bytes : c ∷ b ≡ close ++ drop (length close) (c ∷ b) = sym (take-append-drop (length close) (c ∷ b))
      ∙ ap (λ v. v ++ drop (length close) (c ∷ b)) (sym same) in
      (close, drop (length close) (c ∷ b), record { bytes = bytes; is = IsUpTo.here; ends = omega (arith, at, size) })
  | inr none ↦
      let got = quoted_sound word b (n + 1) m (quoted_on word n c b m none e) in
      let t = got.0 in
      let rest = got.1 in
      let has = got.2 in
      let ends = has.ends in
      let size = close_length word in
      let far = up_to_length word t has.is in
      let here : starts_with nat_eq (c ∷ (t ++ rest)) (quoted_close word) ≡ false = sym (closes_is word c (t ++ rest))
      ∙ ap (λ l. closes_quoted word (c ∷ l)) (sym has.bytes) ∙ none in
      let nay : starts_with nat_eq (c ∷ t) (quoted_close word) ≡ false =
      ap (pointwise nat_eq (quoted_close word)) (sym (take-append-le (length (quoted_close word)) (c ∷ t) rest (omega (arith, size, far))))
      ∙ here in
      (c ∷ t, rest, record { bytes = ap (λ l. c ∷ l) has.bytes; is = IsUpTo.later c t nay has.is; ends = omega (arith, ends) })
]

drop_cons : (s : List ℕ) (n k : ℕ) → (0 == k) ≡ false → (get_or s n 0 == k) ≡ true → drop n s ≡ k ∷ drop (suc n) s
drop_cons [] n k some e = let wrong : true ≡ false = sym e ∙ some in cc
drop_cons (x ∷ s) zero k some e = ap (λ v. v ∷ s) (same_numbers x k e)
drop_cons (x ∷ s) (suc n) k some e = drop_cons s n k some e

two_more : (n : ℕ) → n + 2 ≡ suc (suc n)
two_more n = omega arith

run_length : (s : List ℕ) → length (take (prefix_len is_quoted_word_byte s) s) ≡ prefix_len is_quoted_word_byte s
run_length s = length-take-le (prefix_len is_quoted_word_byte s) s (prefix_len-le-length is_quoted_word_byte s)

quoted_begins : (x : ℕ) (s : List ℕ) (m : ℕ) → opens_quoted (x ∷ s) ≡ true → quoted_length (x ∷ s) ≡ Some m → Begins class.Quoted m (x ∷ s)
quoted_begins x s m h e =
    let n = prefix_len is_quoted_word_byte s in
    let word = take n s in
    let opens = sym (opens_at (x ∷ s) n refl) ∙ h in
    let brace = same_numbers x (byte "{") (and_left (x == byte "{") (is_at "|" (1 + n) (x ∷ s)) opens) in
    let index : 1 + n ≡ suc n = omega arith in
    let bar : (get_or s n 0 == byte "|") ≡ true = sym (ap (λ i. is_at "|" i (x ∷ s)) index)
    ∙ and_right (x == byte "{") (is_at "|" (1 + n) (x ∷ s)) opens in
    let behind : drop (n + 2) (x ∷ s) ≡ drop (suc n) s = ap (λ i. drop i (x ∷ s)) (two_more n) in
    let end : quoted_end word (n + 2) (drop (suc n) s) ≡ Some m = ap (quoted_end word (n + 2)) (sym behind) ∙ sym (quoted_at (x ∷ s) n refl) ∙ e in
    let got = quoted_sound word (drop (suc n) s) (n + 2) m end in
    let t = got.0 in
    let rest = got.1 in
    let has = got.2 in
    let ends = has.ends in
    let front = byte "{" ∷ (word ++ (byte "|" ∷ t)) in
    let inner : s ≡ (word ++ (byte "|" ∷ t)) ++ rest =
    sym (take-append-drop n s) ∙ ap (λ l. word ++ l) (drop_cons s n (byte "|") refl bar ∙ ap (λ l. byte "|" ∷ l) has.bytes)
    ∙ sym (append_assoc word (byte "|" ∷ t) rest) in
    let bytes : x ∷ s ≡ front ++ rest = ap (λ v. v ∷ s) brace ∙ ap (λ l. byte "{" ∷ l) inner in
    let word_size = run_length s in
    let size : length (word ++ (byte "|" ∷ t)) ≡ length word + suc (length t) = length-append word (byte "|" ∷ t) in
    let made = front_begins class.Quoted front rest (x ∷ s) m IsQuoted (IsQuoted.quoted word t (run_passes is_quoted_word_byte s) has.is) bytes
    (omega (arith, size, ends, word_size)) in
    (made.0, made.1, tt)

opens_nothing : opens_quoted [] ≡ true → ⊥
unfolding opens_quoted
opens_nothing h = cc

pub quoted_fine : (b : List ℕ) → opens_quoted b ≡ true → Fine b (ended class.Quoted (quoted_length b))
quoted_fine [] h k m e = absurd (opens_nothing h)
quoted_fine (x ∷ b) h k m e =
    let parts = ended_parts class.Quoted k (quoted_length (x ∷ b)) m e in
    subst (λ c. Begins c m (x ∷ b)) parts.1 (quoted_begins x b m h parts.0)

-- ---- characters

pub char_parts : (k : Class) (n m : ℕ) → ◌≡◌ {A = Piece} (piece.Lexeme class.Char n) (piece.Lexeme k m) → (n ≡ m) × (class.Char ≡ k)
char_parts k n m e = (cc, cc)

quote_with : (b : List ℕ) (o : Option ℕ) → is_at "'" 0 b ≡ true → char_length b ≡ o → Fine b (char_or_variable o b)
quote_with b None h is k m e = variable_fine b h is k m e
quote_with b (Some n) h is k m e =
    let parts = char_parts k n m e in
    let sound = char_sound b n is in
    subst (λ n. Begins k n b) parts.0 (subst (λ c. Begins c n b) parts.1 (sound.0, sound.1, tt))

pub quote_fine : (b : List ℕ) → is_at "'" 0 b ≡ true → Fine b (char_or_variable (char_length b) b)
quote_fine b h = quote_with b (char_length b) h refl
