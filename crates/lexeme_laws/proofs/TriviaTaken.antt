-- Where a trivia of the table begins, it is taken.
use Rattle.std.proofs.Common.{◌≡◌, ℕ, suc, ◌+◌, ◌-◌, ◌<◌, List, [], ◌∷◌, ◌++◌, Bool, true, false, ◌==◌, ◌||◌, length, drop, Option, Some, refl, ap}
use Rattle.std.proofs.Common.{sym, ◌∙◌, arith, length-append, length-drop, append_assoc}
use Rattle.std.specs.Prelude.{codes}
use Rattle.std.specs.Str.{byte}
use Rattle.std.specs.List.{list_any}
use Rattle.ml_lexer.specs.declared.piece.Piece.TheVariants as piece
use Rattle.ml_lexer.specs.declared.trivia.Part.{Part}
use Rattle.ml_lexer.specs.declared.trivia.Part.TheVariants.{Opens, Closes, Whole}
use Rattle.ml_lexer.specs.Quotes.{char_length, text_length, opens_quoted, quoted_length, text_end}
use Rattle.ml_lexer.specs.Trivia.{whole, or_one_byte, plain_part, opens_comment, comment_part, level_end, comment_length, attribute_part}
use Rattle.ml_lexer.specs.Trivia.{attribute_length}
use Rattle.ml_lexer.specs.Pieces.{trivia, piece_at}
use Rattle.ml_lexer.proofs.Steps.{level_opens, level_closes, level_closed, level_whole}
use Rattle.ml_lexer.proofs.Fronts.{piece_tests}
use Rattle.lexeme_laws.specs.Table.{IsChar, IsTextLexeme, IsQuoted}
use Rattle.lexeme_laws.specs.Trivia.{IsSkipped, IsPlain, closes_comment, CommentEnds, AttributeEnds, TriviaEnds}
use Rattle.lexeme_laws.specs.Laws.{TriviaAreTaken}
use Rattle.lexeme_laws.proofs.Tests.{last_byte}
use Rattle.lexeme_laws.proofs.QuoteReach.{numbers_same, char_whole, text_whole, quoted_exact, quoted_opens}
use Rattle.lexeme_laws.proofs.QuoteClass.{char_first}
use Rattle.lexeme_laws.proofs.NumberReach.{drop_front}
use Rattle.lexeme_laws.proofs.Longest.{no_char}

-- the levels of comments or attributes, from here to the bytes behind the last
record Sized (p : List ℕ → Part) (b behind : List ℕ) : Type 0 where
  size : ℕ
  sums : size + length behind ≡ length b
  one : (n : ℕ) → level_end p 1 0 n b ≡ Some (n + size)
  more : (d n : ℕ) → 1 < d → level_end p d 0 n b ≡ level_end p (d - 1) 0 (n + size) behind

some_same : (a b : ℕ) → a ≡ b → ◌≡◌ {A = Option ℕ} (Some a) (Some b)
some_same a b e = ap (λ v. Some v) e

one_less : (d : ℕ) → d + 1 - 1 ≡ d
one_less d = omega arith

sum_of : (n k i o : ℕ) → n + k + i + o ≡ n + (k + i + o)
sum_of n k i o = omega arith

sum_two : (n k i : ℕ) → n + k + i ≡ n + (k + i)
sum_two n k i = omega arith

closed_sized : (p : List ℕ → Part) (k : ℕ) (b behind : List ℕ) → p b ≡ Closes k → 0 < k → 0 < length b → drop k b ≡ behind
    → k + length behind ≡ length b → Sized p b behind
closed_sized p k b behind e some nonempty rest sums = record {
  size = k;
  sums = sums;
  one = λ n. level_closed p 1 n k b nonempty e refl;
  more = λ d n deep. level_closes p d n k b nonempty e some deep ∙ ap (level_end p (d - 1) 0 (n + k)) rest;
}

opened_sized : (p : List ℕ → Part) (k : ℕ) (b inside middle behind : List ℕ) → p b ≡ Opens k → 0 < k → 0 < length b → drop k b ≡ inside
    → k + length inside ≡ length b → Sized p inside middle → Sized p middle behind → Sized p b behind
opened_sized p k b inside middle behind e some nonempty rest sums inner outer =
    let sums_in = inner.sums in
    let sums_out = outer.sums in
    record {
      size = k + inner.size + outer.size;
      sums = omega (arith, sums, sums_in, sums_out);
      one = λ n.
          level_opens p 1 n k b nonempty e some
          ∙ ap (level_end p 2 0 (n + k)) rest
          ∙ inner.more 2 (n + k) (omega arith)
          ∙ outer.one (n + k + inner.size)
          ∙ some_same (n + k + inner.size + outer.size) (n + (k + inner.size + outer.size)) (omega arith);
      more = λ d n deep.
          level_opens p d n k b nonempty e some
          ∙ ap (level_end p (d + 1) 0 (n + k)) rest
          ∙ inner.more (d + 1) (n + k) (omega (arith, deep))
          ∙ ap (λ i. level_end p i 0 (n + k + inner.size) middle) (one_less d)
          ∙ outer.more d (n + k + inner.size) deep
          ∙ ap (λ i. level_end p (d - 1) 0 i behind) (sum_of n k inner.size outer.size);
    }

whole_sized : (p : List ℕ → Part) (k : ℕ) (b rest behind : List ℕ) → p b ≡ Whole k → 0 < k → 0 < length b → drop k b ≡ rest
    → k + length rest ≡ length b → Sized p rest behind → Sized p b behind
whole_sized p k b rest behind e some nonempty dropped sums inner =
    let sums_in = inner.sums in
    record {
      size = k + inner.size;
      sums = omega (arith, sums, sums_in);
      one = λ n.
          level_whole p 1 n k b nonempty e some (omega arith)
          ∙ ap (level_end p 1 0 (n + k)) dropped
          ∙ inner.one (n + k)
          ∙ some_same (n + k + inner.size) (n + (k + inner.size)) (omega arith);
      more = λ d n deep.
          level_whole p d n k b nonempty e some (omega (arith, deep))
          ∙ ap (level_end p d 0 (n + k)) dropped
          ∙ inner.more d (n + k) deep
          ∙ ap (λ i. level_end p (d - 1) 0 i behind) (sum_two n k inner.size);
    }

-- ---- what is skipped whole

-- where a Text, a Quoted or a Char may begin, these are the parts
record SkipsWhole (p : List ℕ → Part) : Type 0 where
  texts : (s : List ℕ) → p (byte "\"" ∷ s) ≡ whole (text_length (byte "\"" ∷ s))
  quoteds : (s : List ℕ) → opens_quoted (byte "{" ∷ s) ≡ true → p (byte "{" ∷ s) ≡ whole (quoted_length (byte "{" ∷ s))
  chars : (s : List ℕ) → p (byte "'" ∷ s) ≡ or_one_byte (char_length (byte "'" ∷ s))

-- the front is one part
record OnePart (p : List ℕ → Part) (front rest : List ℕ) : Type 0 where
  is_part : p (front ++ rest) ≡ Whole (length front)
  some : 0 < length front

text_part : (p : List ℕ → Part) → SkipsWhole p → (front rest : List ℕ) → IsTextLexeme front → OnePart p front rest
text_part p skips front rest (IsTextLexeme.closed body is) =
    let s = (body ++ codes "\"") ++ rest in
    let size : length (body ++ codes "\"") ≡ length body + 1 = length-append body (codes "\"") in
    let ends : text_length (byte "\"" ∷ s) ≡ Some (length (byte "\"" ∷ (body ++ codes "\""))) =
    ap (text_end 1 false) (last_byte body (byte "\"") rest) ∙ text_whole body rest 1 is
    ∙ some_same (1 + length body + 1) (suc (length (body ++ codes "\""))) (omega (arith, size)) in
    record { is_part = skips.texts s ∙ ap whole ends; some = omega arith }

quoted_part : (p : List ℕ → Part) → SkipsWhole p → (front rest : List ℕ) → IsQuoted front → OnePart p front rest
quoted_part p skips front rest (IsQuoted.quoted word t h is) =
    let s = word ++ (byte "|" ∷ (t ++ rest)) in
    let joined : (word ++ (byte "|" ∷ t)) ++ rest ≡ s = append_assoc word (byte "|" ∷ t) rest in
    let size : length (word ++ (byte "|" ∷ t)) ≡ length word + suc (length t) = length-append word (byte "|" ∷ t) in
    let ends = quoted_exact word t rest h is
    ∙ some_same (length word + 2 + length t) (suc (length (word ++ (byte "|" ∷ t)))) (omega (arith, size)) in
    record { is_part = ap (λ v. p (byte "{" ∷ v)) joined ∙ skips.quoteds s (quoted_opens word (t ++ rest) h) ∙ ap whole ends; some = omega arith }

char_part : (p : List ℕ → Part) → SkipsWhole p → (front rest : List ℕ) → IsChar front → OnePart p front rest
char_part p skips front rest is =
    let first = char_first front is in
    let same : front ++ rest ≡ byte "'" ∷ (first.0 ++ rest) = ap (λ v. v ++ rest) first.1 in
    let size : length front ≡ suc (length first.0) = ap length first.1 in
    let ends : char_length (byte "'" ∷ (first.0 ++ rest)) ≡ Some (length front) = ap char_length (sym same) ∙ char_whole front rest is in
    record { is_part = ap p same ∙ skips.chars (first.0 ++ rest) ∙ ap or_one_byte ends; some = omega (arith, size) }

skipped_part : (p : List ℕ → Part) → SkipsWhole p → (front rest : List ℕ) → IsSkipped front → OnePart p front rest
skipped_part p skips front rest (IsSkipped.text own is) = text_part p skips own rest is
skipped_part p skips front rest (IsSkipped.quoted own is) = quoted_part p skips own rest is
skipped_part p skips front rest (IsSkipped.char own is) = char_part p skips own rest is

skipped_sized : (p : List ℕ → Part) → SkipsWhole p → (front rest behind : List ℕ) → IsSkipped front → Sized p rest behind
    → Sized p (front ++ rest) behind
skipped_sized p skips front rest behind is inner =
    let part = skipped_part p skips front rest is in
    let some : 0 < length front = part.some in
    let size : length (front ++ rest) ≡ length front + length rest = length-append front rest in
    whole_sized p (length front) (front ++ rest) rest behind part.is_part some (omega (arith, some, size)) (drop_front front rest) (sym size) inner

-- a byte where none of them begins
plain_byte : (c : ℕ) (rest : List ℕ) → IsPlain (c ∷ rest) → plain_part (c ∷ rest) ≡ Whole 1
unfolding plain_part
plain_byte c rest is = rw (is.no_text, is.no_quoted, no_char (c ∷ rest) is.no_char) refl

-- ---- comments

comment_skips : SkipsWhole comment_part
unfolding comment_part plain_part opens_quoted
comment_skips = record { texts = λ s. refl; quoteds = λ s h. rw h refl; chars = λ s. refl }

comment_opens : (s : List ℕ) → comment_part (codes "(*" ++ s) ≡ Opens 2
unfolding comment_part
comment_opens s = refl

comment_closes : (s : List ℕ) → comment_part (codes "*)" ++ s) ≡ Closes 2
unfolding comment_part
comment_closes s = refl

comment_plain : (c : ℕ) (rest : List ℕ) → opens_comment (c ∷ rest) ≡ false → closes_comment (c ∷ rest) ≡ false
    → comment_part (c ∷ rest) ≡ plain_part (c ∷ rest)
unfolding comment_part
comment_plain c rest e f = rw (e, f) refl

comment_sized : (b behind : List ℕ) → CommentEnds b behind → Sized comment_part b behind
comment_sized b behind (CommentEnds.closed own) =
    closed_sized comment_part 2 (codes "*)" ++ own) own (comment_closes own) (omega arith) (omega arith) refl (omega arith)
comment_sized b behind (CommentEnds.nested inside middle own inner outer) =
    opened_sized comment_part 2 (codes "(*" ++ inside) inside middle own (comment_opens inside) (omega arith) (omega arith) refl (omega arith)
    (comment_sized inside middle inner) (comment_sized middle own outer)
comment_sized b behind (CommentEnds.skipped front rest own is inner) =
    skipped_sized comment_part comment_skips front rest own is (comment_sized rest own inner)
comment_sized b behind (CommentEnds.plain c rest own e f is inner) =
    whole_sized comment_part 1 (c ∷ rest) rest own (comment_plain c rest e f ∙ plain_byte c rest is) (omega arith) (omega arith) refl (omega arith)
    (comment_sized rest own inner)

pub comment_at : (s : List ℕ) → comment_length (codes "(*" ++ s) ≡ level_end comment_part 1 0 2 s
unfolding comment_length
comment_at s = refl

-- ---- attributes

attribute_skips : SkipsWhole attribute_part
unfolding attribute_part plain_part opens_quoted
attribute_skips = record { texts = λ s. refl; quoteds = λ s h. rw h refl; chars = λ s. refl }

attribute_opens : (s : List ℕ) → attribute_part (codes "[" ++ s) ≡ Opens 1
unfolding attribute_part
attribute_opens s = refl

attribute_closes : (s : List ℕ) → attribute_part (codes "]" ++ s) ≡ Closes 1
unfolding attribute_part
attribute_closes s = refl

attribute_comment : (s : List ℕ) → attribute_part (codes "(*" ++ s) ≡ whole (comment_length (codes "(*" ++ s))
unfolding attribute_part
attribute_comment s = refl

attribute_plain : (c : ℕ) (rest : List ℕ) → opens_comment (c ∷ rest) ≡ false → (c == byte "[") ≡ false → (c == byte "]") ≡ false
    → attribute_part (c ∷ rest) ≡ plain_part (c ∷ rest)
unfolding attribute_part
attribute_plain c rest e f g = rw (e, f, g) refl

or_first : (a b : Bool) → (a || b) ≡ false → a ≡ false
or_first true b e = cc
or_first false b e = refl

or_second : (a b : Bool) → (a || b) ≡ false → b ≡ false
or_second true b e = cc
or_second false b e = e

not_same : (k c : ℕ) → (k == c) ≡ false → (c == k) ≡ false
not_same k c e = numbers_same c k ∙ e

no_bracket : (k l c : ℕ) → list_any (λ x. x == c) (k ∷ l ∷ []) ≡ false → ((c == k) ≡ false) × ((c == l) ≡ false)
no_bracket k l c e = (
  not_same k c (or_first (k == c) (l == c || false) e),
  not_same l c
      (or_first (l == c) false (or_second (k == c) (l == c || false) e)),
)

-- the bytes behind a comment are the end of the bytes
pub comment_tail : (b behind : List ℕ) → CommentEnds b behind → (front : List ℕ) × (b ≡ front ++ behind)
comment_tail b behind (CommentEnds.closed own) = (codes "*)", refl)
comment_tail b behind (CommentEnds.nested inside middle own inner outer) =
    let one = comment_tail inside middle inner in
    let two = comment_tail middle own outer in
    (codes "(*" ++ (one.0 ++ two.0), ap (λ l. codes "(*" ++ l) (one.1 ∙ ap (λ l. one.0 ++ l) two.1 ∙ sym (append_assoc one.0 two.0 own)))
comment_tail b behind (CommentEnds.skipped front rest own is inner) =
    let one = comment_tail rest own inner in
    (front ++ one.0, ap (λ l. front ++ l) one.1 ∙ sym (append_assoc front one.0 own))
comment_tail b behind (CommentEnds.plain c rest own e f is inner) =
    let one = comment_tail rest own inner in
    (c ∷ one.0, ap (λ l. c ∷ l) one.1)

pub comment_behind : (s middle : List ℕ) → CommentEnds s middle → (n : ℕ) → n + length middle ≡ length s → drop n s ≡ middle
comment_behind s middle is n sums =
    let tail = comment_tail s middle is in
    let front = tail.0 in
    let size : length s ≡ length front + length middle = ap length tail.1 ∙ length-append front middle in
    let same : n ≡ length front = omega (arith, size, sums) in
    ap (λ i. drop i s) same ∙ ap (drop (length front)) tail.1 ∙ drop_front front middle

attribute_sized : (b behind : List ℕ) → AttributeEnds b behind → Sized attribute_part b behind
attribute_sized b behind (AttributeEnds.closed own) =
    closed_sized attribute_part 1 (codes "]" ++ own) own (attribute_closes own) (omega arith) (omega arith) refl (omega arith)
attribute_sized b behind (AttributeEnds.nested inside middle own inner outer) =
    opened_sized attribute_part 1 (codes "[" ++ inside) inside middle own (attribute_opens inside) (omega arith) (omega arith) refl (omega arith)
    (attribute_sized inside middle inner) (attribute_sized middle own outer)
attribute_sized b behind (AttributeEnds.comment inside middle own inner outer) =
    let sized = comment_sized inside middle inner in
    let sums = sized.sums in
    let ends = comment_at inside ∙ sized.one 2 in
    let index : 2 + sized.size ≡ suc (suc sized.size) = omega arith in
    let rest : drop (2 + sized.size) (codes "(*" ++ inside) ≡ middle = ap (λ i. drop i (codes "(*" ++ inside)) index
    ∙ comment_behind inside middle inner sized.size sums in
    whole_sized attribute_part (2 + sized.size) (codes "(*" ++ inside) middle own (attribute_comment inside ∙ ap whole ends) (omega arith)
    (omega arith) rest (omega (arith, sums)) (attribute_sized middle own outer)
attribute_sized b behind (AttributeEnds.skipped front rest own is inner) =
    skipped_sized attribute_part attribute_skips front rest own is (attribute_sized rest own inner)
attribute_sized b behind (AttributeEnds.plain c rest own e f is inner) =
    let none = no_bracket (byte "[") (byte "]") c f in
    whole_sized attribute_part 1 (c ∷ rest) rest own (attribute_plain c rest e none.0 none.1 ∙ plain_byte c rest is) (omega arith) (omega arith)
    refl (omega arith) (attribute_sized rest own inner)

pub attribute_at : (s : List ℕ) → attribute_length (codes "[@" ++ s) ≡ level_end attribute_part 1 0 2 s
unfolding attribute_length
attribute_at s = refl

-- ---- what is taken

taken : (b behind : List ℕ) → TriviaEnds b behind → (n : ℕ) → n + length behind ≡ length b → piece_at b ≡ piece.Trivia n
taken b behind (TriviaEnds.blank c own h) n sums =
    let one : n ≡ 1 = omega (arith, sums) in
    piece_tests (c ∷ own) _ _ refl refl ∙ rw h (ap (λ v. piece.Trivia v) (sym one))
taken b behind (TriviaEnds.comment inside own is) n sums =
    let sized = comment_sized inside own is in
    let total = sized.sums in
    let same : 2 + sized.size ≡ n = omega (arith, total, sums) in
    piece_tests (codes "(*" ++ inside) true _ refl refl ∙ ap trivia (comment_at inside ∙ sized.one 2) ∙ ap (λ v. piece.Trivia v) same
taken b behind (TriviaEnds.attribute inside own is) n sums =
    let sized = attribute_sized inside own is in
    let total = sized.sums in
    let same : 2 + sized.size ≡ n = omega (arith, total, sums) in
    piece_tests (codes "[@" ++ inside) false true refl refl ∙ ap trivia (attribute_at inside ∙ sized.one 2) ∙ ap (λ v. piece.Trivia v) same

pub trivia_are_taken : TriviaAreTaken
trivia_are_taken bytes n begins =
    let fits = begins.0 in
    let rest = length-drop n bytes in
    taken bytes (drop n bytes) begins.1 n (omega (arith, fits, rest))
