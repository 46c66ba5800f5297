-- A trivia that is taken is one of the table.
use Rattle.std.proofs.Common.{◌≡◌, ℕ, zero, suc, ◌+◌, ◌-◌, ◌<◌, ◌≤◌, ◌⊎◌, inl, inr, List, [], ◌∷◌, ◌++◌, Bool, true, false, cond, ◌==◌, ◌&&◌}
use Rattle.std.proofs.Common.{length, drop, take, get_or, Option, Some, None, refl, ap, sym, subst, ◌∙◌, arith, length-drop, length-append}
use Rattle.std.proofs.Common.{append_assoc}
use Rattle.std.specs.Prelude.{codes}
use Rattle.std.specs.Str.{byte}
use Rattle.std.proofs.lemmas.Bool.Decides.{nat_tests}
use Rattle.std.proofs.lemmas.List.{take-append-drop}
use Rattle.rotor_base.specs.declared.token.Class.TheVariants as class
use Rattle.ml_lexer.specs.declared.piece.Piece.{Piece}
use Rattle.ml_lexer.specs.declared.piece.Piece.TheVariants as piece
use Rattle.ml_lexer.specs.declared.trivia.Part.{Part}
use Rattle.ml_lexer.specs.declared.trivia.Part.TheVariants.{Opens, Closes, Whole, Unended}
use Rattle.ml_lexer.specs.Bytes.{among, is_at}
use Rattle.ml_lexer.specs.Quotes.{char_length, text_length, opens_quoted, quoted_length}
use Rattle.ml_lexer.specs.Pieces.{ended, trivia, lexeme_at}
use Rattle.ml_lexer.specs.Trivia.{whole, or_one_byte, plain_part, opens_comment, comment_part, size_of, depth_after, is_unended, level_end}
use Rattle.ml_lexer.specs.Trivia.{comment_length, attribute_part, attribute_length}
use Rattle.ml_lexer.proofs.Local.{and_left, and_right}
use Rattle.ml_lexer.proofs.Apart.{lexeme_is_no_trivia}
use Rattle.ml_lexer.proofs.Fronts.{piece_tests}
use Rattle.lexeme_laws.specs.Table.{IsChar, IsTextLexeme, IsQuoted}
use Rattle.lexeme_laws.specs.Trivia.{IsSkipped, IsPlain, closes_comment, CommentEnds, AttributeEnds, TriviaEnds}
use Rattle.lexeme_laws.specs.Laws.{TriviaBegin}
use Rattle.lexeme_laws.proofs.Tests.{same_numbers}
use Rattle.lexeme_laws.proofs.CharSound.{char_sound}
use Rattle.lexeme_laws.proofs.QuoteReach.{numbers_same}
use Rattle.lexeme_laws.proofs.QuoteSound.{text_fine, quoted_fine}
use Rattle.lexeme_laws.proofs.WordSound.{no_char_begins}
use Rattle.lexeme_laws.proofs.TriviaTaken.{comment_at, attribute_at, comment_tail, comment_behind}
use Rattle.lexeme_laws.proofs.NumberReach.{drop_front}

-- ---- levels

-- so many levels end, one behind the other
abbrev Levels : (List ℕ → List ℕ → Type 0) → ℕ → List ℕ → List ℕ → Type 0
Levels E zero b behind = b ≡ behind
Levels E (suc d) b behind = (middle : List ℕ) × E b middle × Levels E d middle behind

abbrev Found : (List ℕ → List ℕ → Type 0) → ℕ → ℕ → List ℕ → ℕ → ℕ → Type 0
Found E d skip b n m = (behind : List ℕ) × Levels E d (drop skip b) behind × (m + length behind ≡ n + length b)

-- what the parts of comments, or of attributes, say
record Rules (p : List ℕ → Part) (E : List ℕ → List ℕ → Type 0) : Type 0 where
  opens : (c : ℕ) (b : List ℕ) (k : ℕ) → p (c ∷ b) ≡ Opens k → (middle behind : List ℕ) → E (drop (k - 1) b) middle → E middle behind
      → E (c ∷ b) behind
  closes : (c : ℕ) (b : List ℕ) (k : ℕ) → p (c ∷ b) ≡ Closes k → E (c ∷ b) (drop (k - 1) b)
  closes_size : (c : ℕ) (b : List ℕ) (k : ℕ) → p (c ∷ b) ≡ Closes k → (1 ≤ k) × (k - 1 ≤ length b)
  wholes : (c : ℕ) (b : List ℕ) (k : ℕ) → p (c ∷ b) ≡ Whole k → (behind : List ℕ) → E (drop (k - 1) b) behind → E (c ∷ b) behind

level_at : (p : List ℕ → Part) (d n x : ℕ) (b : List ℕ) (part : Part) → p (x ∷ b) ≡ part
    → level_end p d 0 n (x ∷ b) ≡ cond (is_unended part) None
    (cond (depth_after part d == 0) (Some (n + size_of part)) (level_end p (depth_after part d) (size_of part - 1) (n + 1) b))
unfolding level_end
level_at p d n x b part e = rw e refl

level_nothing : (p : List ℕ → Part) (d k n m : ℕ) → level_end p d k n [] ≡ Some m → ⊥
unfolding level_end
level_nothing p d k n m e = cc

level_passes : (p : List ℕ → Part) (d k n x : ℕ) (b : List ℕ) (m : ℕ) → level_end p d (suc k) n (x ∷ b) ≡ Some m
    → level_end p d k (n + 1) b ≡ Some m
unfolding level_end
level_passes p d k n x b m e = e

cond_false : (t : Bool) (a r o : Option ℕ) → t ≡ false → cond t a r ≡ o → r ≡ o
cond_false true a r o e f = cc
cond_false false a r o e f = f

not_zero : (d : ℕ) → (suc d == 0) ≡ false
not_zero d = grind (arith, nat_tests)

deeper : (d : ℕ) → suc d + 1 ≡ suc (suc d)
deeper d = omega arith

higher : (d : ℕ) → suc d - 1 ≡ d
higher d = omega arith

module _ (p : List ℕ → Part) (E : List ℕ → List ℕ → Type 0) (rules : Rules p E) where
  found_opens : (c : ℕ) (b : List ℕ) (d k n m : ℕ) → p (c ∷ b) ≡ Opens k → Found E (suc (suc d)) (k - 1) b (n + 1) m → Found E (suc d) 0 (c ∷ b) n m
  found_opens c b d k n m e found =
      let levels = found.1 in
      let sum = found.2 in
      (found.0, (levels.2.0, rules.opens c b k e levels.0 levels.2.0 levels.1 levels.2.1, levels.2.2), omega (arith, sum))

  found_whole : (c : ℕ) (b : List ℕ) (d k n m : ℕ) → p (c ∷ b) ≡ Whole k → Found E (suc d) (k - 1) b (n + 1) m → Found E (suc d) 0 (c ∷ b) n m
  found_whole c b d k n m e found =
      let levels = found.1 in
      let sum = found.2 in
      (found.0, (levels.0, rules.wholes c b k e levels.0 levels.1, levels.2), omega (arith, sum))

  found_closes : (c : ℕ) (b : List ℕ) (d k n m : ℕ) → p (c ∷ b) ≡ Closes k → Found E (suc d) (k - 1) b (n + 1) m
      → Found E (suc (suc d)) 0 (c ∷ b) n m
  found_closes c b d k n m e found =
      let sum = found.2 in
      (found.0, (drop (k - 1) b, rules.closes c b k e, found.1), omega (arith, sum))

  found_last : (c : ℕ) (b : List ℕ) (k n m : ℕ) → p (c ∷ b) ≡ Closes k → n + k ≡ m → Found E 1 0 (c ∷ b) n m
  found_last c b k n m e at =
      let size = rules.closes_size c b k e in
      let some = size.0 in
      let most = size.1 in
      let rest = length-drop (k - 1) b in
      (drop (k - 1) b, (drop (k - 1) b, rules.closes c b k e, refl), omega (arith, some, most, rest, at))

  step : (c : ℕ) (b : List ℕ) (d n m : ℕ) (part : Part) → p (c ∷ b) ≡ part
      → ((e k j : ℕ) → level_end p (suc e) k j b ≡ Some m → Found E (suc e) k b j m)
      → cond (is_unended part) None
      (cond (depth_after part (suc d) == 0) (Some (n + size_of part)) (level_end p (depth_after part (suc d)) (size_of part - 1) (n + 1) b)) ≡ Some
      m → Found E (suc d) 0 (c ∷ b) n m
  step c b d n m Unended is rec e = cc
  step c b d n m (Opens k) is rec e =
      let up : (suc d + 1 == 0) ≡ false = ap (λ v. v == 0) (deeper d) ∙ not_zero (suc d) in
      let rest = cond_false (suc d + 1 == 0) (Some (n + k)) (level_end p (suc d + 1) (k - 1) (n + 1) b) (Some m) up e in
      found_opens c b d k n m is (rec (suc d) (k - 1) (n + 1) (ap (λ v. level_end p v (k - 1) (n + 1) b) (sym (deeper d)) ∙ rest))
  step c b d n m (Whole k) is rec e =
      let rest = cond_false (suc d == 0) (Some (n + k)) (level_end p (suc d) (k - 1) (n + 1) b) (Some m) (not_zero d) e in
      found_whole c b d k n m is (rec d (k - 1) (n + 1) rest)
  step c b zero n m (Closes k) is rec e = let at : n + k ≡ m = cc in found_last c b k n m is at
  step c b (suc d) n m (Closes k) is rec e =
      let up : (suc (suc d) - 1 == 0) ≡ false = ap (λ v. v == 0) (higher (suc d)) ∙ not_zero d in
      let rest = cond_false (suc (suc d) - 1 == 0) (Some (n + k)) (level_end p (suc (suc d) - 1) (k - 1) (n + 1) b) (Some m) up e in
      found_closes c b d k n m is (rec d (k - 1) (n + 1) (ap (λ v. level_end p v (k - 1) (n + 1) b) (sym (higher (suc d))) ∙ rest))

  levels_sound : (b : List ℕ) (d k n m : ℕ) → level_end p (suc d) k n b ≡ Some m → Found E (suc d) k b n m
  levels_sound [] d k n m e = absurd (level_nothing p (suc d) k n m e)
  levels_sound (x ∷ b) d (suc k) n m e =
      let found = levels_sound b d k (n + 1) m (level_passes p (suc d) k n x b m e) in
      let sum = found.2 in
      (found.0, found.1, omega (arith, sum))
  levels_sound (x ∷ b) d zero n m e =
      step x b d n m (p (x ∷ b)) refl (λ f k j h. levels_sound b f k j m h) (sym (level_at p (suc d) n x b (p (x ∷ b)) refl) ∙ e)

-- ---- what is skipped whole

plain_tests : (b : List ℕ) (t q : Bool) → is_at "\"" 0 b ≡ t → opens_quoted b ≡ q
    → plain_part b ≡ cond t (whole (text_length b)) (cond q (whole (quoted_length b)) (or_one_byte (char_length b)))
unfolding plain_part
plain_tests b t q e f = rw (e, f) refl

-- a part that is skipped whole; if none begins, one byte
abbrev Skips : List ℕ → ℕ → Type 0
Skips b k = ((k ≤ length b) × IsSkipped (take k b)) ⊎ ((k ≡ 1) × IsPlain b)

whole_some : (o : Option ℕ) (k : ℕ) → whole o ≡ Whole k → o ≡ Some k
whole_some None k e = cc
whole_some (Some n) k e = let same : n ≡ k = cc in ap (λ v. Some v) same

skips_char : (b : List ℕ) (o : Option ℕ) (k : ℕ) → is_at "\"" 0 b ≡ false → opens_quoted b ≡ false → char_length b ≡ o → or_one_byte o ≡ Whole k
    → Skips b k
skips_char b None k no_text no_quoted is e = let one : 1 ≡ k =
    cc in inr (sym one, record { no_text = no_text; no_quoted = no_quoted; no_char = no_char_begins b is })
skips_char b (Some n) k no_text no_quoted is e =
    let same : n ≡ k = cc in
    let sound = char_sound b k (is ∙ ap (λ v. Some v) same) in
    inl (sound.0, IsSkipped.char (take k b) sound.1)

skips_at : (b : List ℕ) (t q : Bool) (k : ℕ) → is_at "\"" 0 b ≡ t → opens_quoted b ≡ q
    → cond t (whole (text_length b)) (cond q (whole (quoted_length b)) (or_one_byte (char_length b))) ≡ Whole k → Skips b k
skips_at b true q k t f e =
    let begins = text_fine b t class.Text k (ap (ended class.Text) (whole_some (text_length b) k e)) in
    inl (begins.0, IsSkipped.text (take k b) begins.1)
skips_at b false true k t f e =
    let begins = quoted_fine b f class.Quoted k (ap (ended class.Quoted) (whole_some (quoted_length b) k e)) in
    inl (begins.0, IsSkipped.quoted (take k b) begins.1)
skips_at b false false k t f e = skips_char b (char_length b) k t f refl e

skips : (b : List ℕ) (k : ℕ) → plain_part b ≡ Whole k → Skips b k
skips b k e = skips_at b _ _ k refl refl (sym (plain_tests b _ _ refl refl) ∙ e)

skipped_some : (w : List ℕ) → IsSkipped w → 0 < length w
skipped_some w (IsSkipped.text own (IsTextLexeme.closed body is)) = omega arith
skipped_some w (IsSkipped.quoted own (IsQuoted.quoted word rest h is)) = omega arith
skipped_some w (IsSkipped.char own (IsChar.plain c h)) = omega arith
skipped_some w (IsSkipped.char own (IsChar.short c h)) = omega arith
skipped_some w (IsSkipped.char own (IsChar.decimal a b c h i j)) = omega arith
skipped_some w (IsSkipped.char own (IsChar.hexadecimal a b h i)) = omega arith
skipped_some w (IsSkipped.char own (IsChar.octal a b c h i j)) = omega arith

-- a part is no level
abbrev is_level : Part → Bool
is_level (Opens k) = true
is_level (Closes k) = true
is_level (Whole k) = false
is_level Unended = false

whole_level : (o : Option ℕ) → is_level (whole o) ≡ false
whole_level None = refl
whole_level (Some n) = refl

char_level : (o : Option ℕ) → is_level (or_one_byte o) ≡ false
char_level None = refl
char_level (Some n) = refl

cond_level : (t : Bool) (a c : Part) → is_level a ≡ false → is_level c ≡ false → is_level (cond t a c) ≡ false
cond_level true a c e f = e
cond_level false a c e f = f

plain_level : (b : List ℕ) → is_level (plain_part b) ≡ false
plain_level b = ap is_level (plain_tests b _ _ refl refl)
    ∙ cond_level (is_at "\"" 0 b) (whole (text_length b)) (cond (opens_quoted b) (whole (quoted_length b)) (or_one_byte (char_length b)))
    (whole_level (text_length b))
    (cond_level (opens_quoted b) (whole (quoted_length b)) (or_one_byte (char_length b)) (whole_level (quoted_length b))
    (char_level (char_length b)))

no_level : (part other : Part) → is_level part ≡ false → part ≡ other → is_level other ≡ true → ⊥
no_level part other e f g = let wrong : true ≡ false = sym g ∙ ap is_level (sym f) ∙ e in cc

-- the front that is skipped, and the rest
skipped_front : (E : List ℕ → List ℕ → Type 0) → ((front rest behind : List ℕ) → IsSkipped front → E rest behind → E (front ++ rest) behind)
    → (c : ℕ) (b : List ℕ) (k : ℕ) → k ≤ length (c ∷ b) → IsSkipped (take k (c ∷ b)) → (behind : List ℕ) → E (drop (k - 1) b) behind
    → E (c ∷ b) behind
skipped_front E skipped c b zero fits is behind inner = let some = skipped_some [] is in absurd (omega (arith, some))
skipped_front E skipped c b (suc k) fits is behind inner =
    let rest : E (drop k b) behind = subst (λ i. E (drop i b) behind) (higher k) inner in
    subst (λ v. E v behind) (take-append-drop (suc k) (c ∷ b)) (skipped (take (suc k) (c ∷ b)) (drop (suc k) (c ∷ b)) behind is rest)

-- the first two bytes
pair_of : (k l c : ℕ) (b : List ℕ) → (0 == l) ≡ false → ((c == k) && (get_or b 0 0 == l)) ≡ true → (s : List ℕ) × (c ∷ b ≡ k ∷ l ∷ s) × (b ≡ l ∷ s)
pair_of k l c [] some h = let wrong : true ≡ false = sym (and_right (c == k) (0 == l) h) ∙ some in cc
pair_of k l c (x ∷ s) some h =
    let first = same_numbers c k (and_left (c == k) (x == l) h) in
    let second = same_numbers x l (and_right (c == k) (x == l) h) in
    (s, ap (λ v. v ∷ x ∷ s) first ∙ ap (λ v. k ∷ v ∷ s) second, ap (λ v. v ∷ s) second)

-- ---- comments

comment_tests : (b : List ℕ) (o t : Bool) → opens_comment b ≡ o → closes_comment b ≡ t
    → comment_part b ≡ cond o (Opens 2) (cond t (Closes 2) (plain_part b))
unfolding comment_part
comment_tests b o t e f = rw (e, f) refl

-- which part it is
data CommentPart (b : List ℕ) : Part → Type 0 where
  opening : opens_comment b ≡ true → CommentPart b (Opens 2)
  closing : closes_comment b ≡ true → CommentPart b (Closes 2)
  other : (part : Part) → opens_comment b ≡ false → closes_comment b ≡ false → plain_part b ≡ part → CommentPart b part

comment_cases : (b : List ℕ) (o t : Bool) → opens_comment b ≡ o → closes_comment b ≡ t
    → CommentPart b (cond o (Opens 2) (cond t (Closes 2) (plain_part b)))
comment_cases b true t e f = CommentPart.opening e
comment_cases b false true e f = CommentPart.closing f
comment_cases b false false e f = CommentPart.other (plain_part b) e f refl

comment_case : (b : List ℕ) (part : Part) → comment_part b ≡ part → CommentPart b part
comment_case b part e = subst (CommentPart b) (sym (comment_tests b _ _ refl refl) ∙ e) (comment_cases b _ _ refl refl)

comment_opens : (c : ℕ) (b : List ℕ) (k : ℕ) → CommentPart (c ∷ b) (Opens k) → (middle behind : List ℕ) → CommentEnds (drop (k - 1) b) middle
    → CommentEnds middle behind → CommentEnds (c ∷ b) behind
comment_opens c b k (CommentPart.opening h) middle behind inner outer =
    let pair = pair_of (byte "(") (byte "*") c b refl h in
    let inside : CommentEnds pair.0 middle = subst (λ v. CommentEnds (drop 1 v) middle) pair.2 inner in
    subst (λ v. CommentEnds v behind) (sym pair.1) (CommentEnds.nested pair.0 middle behind inside outer)
comment_opens c b k (CommentPart.other part e f h) middle behind inner outer =
    absurd (no_level (plain_part (c ∷ b)) (Opens k) (plain_level (c ∷ b)) h refl)

comment_closes : (c : ℕ) (b : List ℕ) (k : ℕ) → CommentPart (c ∷ b) (Closes k) → CommentEnds (c ∷ b) (drop (k - 1) b)
comment_closes c b k (CommentPart.closing h) =
    let pair = pair_of (byte "*") (byte ")") c b refl h in
    let rest : pair.0 ≡ drop 1 b = ap (drop 1) (sym pair.2) in
    subst (λ v. CommentEnds v (drop 1 b)) (sym pair.1) (subst (λ v. CommentEnds (byte "*" ∷ byte ")" ∷ pair.0) v) rest (CommentEnds.closed pair.0))
comment_closes c b k (CommentPart.other part e f h) = absurd (no_level (plain_part (c ∷ b)) (Closes k) (plain_level (c ∷ b)) h refl)

comment_closes_size : (c : ℕ) (b : List ℕ) (k : ℕ) → CommentPart (c ∷ b) (Closes k) → (1 ≤ k) × (k - 1 ≤ length b)
comment_closes_size c b k (CommentPart.closing h) =
    let pair = pair_of (byte "*") (byte ")") c b refl h in
    let size : length b ≡ suc (length pair.0) = ap length pair.2 in
    (omega arith, omega (arith, size))
comment_closes_size c b k (CommentPart.other part e f h) = absurd (no_level (plain_part (c ∷ b)) (Closes k) (plain_level (c ∷ b)) h refl)

comment_wholes : (c : ℕ) (b : List ℕ) (k : ℕ) → CommentPart (c ∷ b) (Whole k) → (behind : List ℕ) → CommentEnds (drop (k - 1) b) behind
    → CommentEnds (c ∷ b) behind
comment_wholes c b k (CommentPart.other part e f h) behind inner = elim (skips (c ∷ b) k h) [
  | inl is ↦ skipped_front CommentEnds CommentEnds.skipped c b k is.0 is.1 behind inner
  | inr is ↦ CommentEnds.plain c b behind e f is.1 (subst (λ i. CommentEnds (drop (i - 1) b) behind) is.0 inner)
]

comment_rules : Rules comment_part CommentEnds
comment_rules = record {
  opens = λ c b k e. comment_opens c b k (comment_case (c ∷ b) (Opens k) e);
  closes = λ c b k e. comment_closes c b k (comment_case (c ∷ b) (Closes k) e);
  closes_size = λ c b k e. comment_closes_size c b k (comment_case (c ∷ b) (Closes k) e);
  wholes = λ c b k e. comment_wholes c b k (comment_case (c ∷ b) (Whole k) e);
}

-- a comment that ends
comment_found : (s : List ℕ) (n : ℕ) → comment_length (codes "(*" ++ s) ≡ Some n
    → (behind : List ℕ) × CommentEnds s behind × (n + length behind ≡ 2 + length s)
comment_found s n e =
    let found = levels_sound comment_part CommentEnds comment_rules s 0 0 2 n (sym (comment_at s) ∙ e) in
    let levels = found.1 in
    (found.0, subst (CommentEnds s) levels.2 levels.1, found.2)

-- ---- attributes

attribute_tests : (b : List ℕ) (o t u : Bool) → opens_comment b ≡ o → is_at "[" 0 b ≡ t → is_at "]" 0 b ≡ u
    → attribute_part b ≡ cond o (whole (comment_length b)) (cond t (Opens 1) (cond u (Closes 1) (plain_part b)))
unfolding attribute_part
attribute_tests b o t u e f g = rw (e, f, g) refl

data AttributePart (b : List ℕ) : Part → Type 0 where
  skipping : (part : Part) → opens_comment b ≡ true → whole (comment_length b) ≡ part → AttributePart b part
  opening : is_at "[" 0 b ≡ true → AttributePart b (Opens 1)
  closing : is_at "]" 0 b ≡ true → AttributePart b (Closes 1)
  other : (part : Part) → opens_comment b ≡ false → is_at "[" 0 b ≡ false → is_at "]" 0 b ≡ false → plain_part b ≡ part → AttributePart b part

attribute_cases : (b : List ℕ) (o t u : Bool) → opens_comment b ≡ o → is_at "[" 0 b ≡ t → is_at "]" 0 b ≡ u
    → AttributePart b (cond o (whole (comment_length b)) (cond t (Opens 1) (cond u (Closes 1) (plain_part b))))
attribute_cases b true t u e f g = AttributePart.skipping (whole (comment_length b)) e refl
attribute_cases b false true u e f g = AttributePart.opening f
attribute_cases b false false true e f g = AttributePart.closing g
attribute_cases b false false false e f g = AttributePart.other (plain_part b) e f g refl

attribute_case : (b : List ℕ) (part : Part) → attribute_part b ≡ part → AttributePart b part
attribute_case b part e = subst (AttributePart b) (sym (attribute_tests b _ _ _ refl refl refl) ∙ e) (attribute_cases b _ _ _ refl refl refl)

attribute_opens : (c : ℕ) (b : List ℕ) (k : ℕ) → AttributePart (c ∷ b) (Opens k) → (middle behind : List ℕ) → AttributeEnds (drop (k - 1) b) middle
    → AttributeEnds middle behind → AttributeEnds (c ∷ b) behind
attribute_opens c b k (AttributePart.skipping part e h) middle behind inner outer =
    absurd (no_level (whole (comment_length (c ∷ b))) (Opens k) (whole_level (comment_length (c ∷ b))) h refl)
attribute_opens c b k (AttributePart.opening h) middle behind inner outer =
    subst (λ v. AttributeEnds (v ∷ b) behind) (sym (same_numbers c (byte "[") h)) (AttributeEnds.nested b middle behind inner outer)
attribute_opens c b k (AttributePart.other part e f g h) middle behind inner outer =
    absurd (no_level (plain_part (c ∷ b)) (Opens k) (plain_level (c ∷ b)) h refl)

attribute_closes : (c : ℕ) (b : List ℕ) (k : ℕ) → AttributePart (c ∷ b) (Closes k) → AttributeEnds (c ∷ b) (drop (k - 1) b)
attribute_closes c b k (AttributePart.skipping part e h) =
    absurd (no_level (whole (comment_length (c ∷ b))) (Closes k) (whole_level (comment_length (c ∷ b))) h refl)
attribute_closes c b k (AttributePart.closing h) = subst (λ v. AttributeEnds (v ∷ b) b) (sym (same_numbers c (byte "]") h)) (AttributeEnds.closed b)
attribute_closes c b k (AttributePart.other part e f g h) = absurd (no_level (plain_part (c ∷ b)) (Closes k) (plain_level (c ∷ b)) h refl)

attribute_closes_size : (c : ℕ) (b : List ℕ) (k : ℕ) → AttributePart (c ∷ b) (Closes k) → (1 ≤ k) × (k - 1 ≤ length b)
attribute_closes_size c b k (AttributePart.skipping part e h) =
    absurd (no_level (whole (comment_length (c ∷ b))) (Closes k) (whole_level (comment_length (c ∷ b))) h refl)
attribute_closes_size c b k (AttributePart.closing h) = (omega arith, omega arith)
attribute_closes_size c b k (AttributePart.other part e f g h) = absurd (no_level (plain_part (c ∷ b)) (Closes k) (plain_level (c ∷ b)) h refl)

comment_shorter : (s middle : List ℕ) → CommentEnds s middle → length middle + 1 ≤ length s
comment_shorter s middle (CommentEnds.closed own) = omega arith
comment_shorter s middle (CommentEnds.nested inside between own inner outer) =
    let one = comment_shorter inside between inner in
    let two = comment_shorter between own outer in
    omega (arith, one, two)
comment_shorter s middle (CommentEnds.skipped front rest own is inner) =
    let one = comment_shorter rest own inner in
    let size = length-append front rest in
    omega (arith, one, size)
comment_shorter s middle (CommentEnds.plain c rest own e f is inner) = let one = comment_shorter rest own inner in omega (arith, one)

no_brackets : (c : ℕ) → (c == byte "[") ≡ false → (c == byte "]") ≡ false → among "[]" c ≡ false
no_brackets c f g = rw (numbers_same (byte "[") c ∙ f, numbers_same (byte "]") c ∙ g) refl

-- a comment inside an attribute
attribute_skips : (c : ℕ) (b : List ℕ) (k : ℕ) → opens_comment (c ∷ b) ≡ true → comment_length (c ∷ b) ≡ Some k → (behind : List ℕ)
    → AttributeEnds (drop (k - 1) b) behind → AttributeEnds (c ∷ b) behind
attribute_skips c b k h e behind inner =
    let pair = pair_of (byte "(") (byte "*") c b refl h in
    let s = pair.0 in
    let found = comment_found s k (ap comment_length (sym pair.1) ∙ e) in
    let middle = found.0 in
    let sum = found.2 in
    let far = comment_shorter s middle found.1 in
    let size : k - 1 ≡ suc (k - 2) = omega (arith, sum, far) in
    let rest : drop (k - 1) b ≡ middle = ap (λ i. drop i b) size ∙ ap (drop (suc (k - 2))) pair.2
    ∙ comment_behind s middle found.1 (k - 2) (omega (arith, sum, far)) in
    subst (λ v. AttributeEnds v behind) (sym pair.1)
    (AttributeEnds.comment s middle behind found.1 (subst (λ v. AttributeEnds v behind) rest inner))

attribute_wholes : (c : ℕ) (b : List ℕ) (k : ℕ) → AttributePart (c ∷ b) (Whole k) → (behind : List ℕ) → AttributeEnds (drop (k - 1) b) behind
    → AttributeEnds (c ∷ b) behind
attribute_wholes c b k (AttributePart.skipping part e h) behind inner =
    attribute_skips c b k e (whole_some (comment_length (c ∷ b)) k h) behind inner
attribute_wholes c b k (AttributePart.other part e f g h) behind inner = elim (skips (c ∷ b) k h) [
  | inl is ↦ skipped_front AttributeEnds AttributeEnds.skipped c b k is.0 is.1 behind inner
  | inr is ↦ AttributeEnds.plain c b behind e (no_brackets c f g) is.1 (subst (λ i. AttributeEnds (drop (i - 1) b) behind) is.0 inner)
]

attribute_rules : Rules attribute_part AttributeEnds
attribute_rules = record {
  opens = λ c b k e. attribute_opens c b k (attribute_case (c ∷ b) (Opens k) e);
  closes = λ c b k e. attribute_closes c b k (attribute_case (c ∷ b) (Closes k) e);
  closes_size = λ c b k e. attribute_closes_size c b k (attribute_case (c ∷ b) (Closes k) e);
  wholes = λ c b k e. attribute_wholes c b k (attribute_case (c ∷ b) (Whole k) e);
}

attribute_found : (s : List ℕ) (n : ℕ) → attribute_length (codes "[@" ++ s) ≡ Some n
    → (behind : List ℕ) × AttributeEnds s behind × (n + length behind ≡ 2 + length s)
attribute_found s n e =
    let found = levels_sound attribute_part AttributeEnds attribute_rules s 0 0 2 n (sym (attribute_at s) ∙ e) in
    let levels = found.1 in
    (found.0, subst (AttributeEnds s) levels.2 levels.1, found.2)

-- ---- what is taken

-- a trivia with the bytes behind it
abbrev Ends : List ℕ → ℕ → Type 0
Ends b n = (behind : List ℕ) × TriviaEnds b behind × (n + length behind ≡ length b)

trivia_some : (o : Option ℕ) (n : ℕ) → trivia o ≡ piece.Trivia n → o ≡ Some n
trivia_some None n e = cc
trivia_some (Some k) n e = let same : k ≡ n = cc in ap (λ v. Some v) same

ends_blank : (b : List ℕ) (n : ℕ) → among " \t\n\r\u{c}" (get_or b 0 0) ≡ true → ◌≡◌ {A = Piece} (piece.Trivia 1) (piece.Trivia n) → Ends b n
ends_blank [] n h e = cc
ends_blank (x ∷ b) n h e = let one : 1 ≡ n = cc in (b, TriviaEnds.blank x b h, omega (arith, one))

ends_comment : (b : List ℕ) (n : ℕ) → opens_comment b ≡ true → comment_length b ≡ Some n → Ends b n
ends_comment [] n h e = cc
ends_comment (x ∷ b) n h e =
    let pair = pair_of (byte "(") (byte "*") x b refl h in
    let found = comment_found pair.0 n (ap comment_length (sym pair.1) ∙ e) in
    let sum = found.2 in
    let size : length (x ∷ b) ≡ 2 + length pair.0 = ap length pair.1 ∙ omega arith in
    (found.0, subst (λ v. TriviaEnds v found.0) (sym pair.1) (TriviaEnds.comment pair.0 found.0 found.1), omega (arith, sum, size))

ends_attribute : (b : List ℕ) (n : ℕ) → (is_at "[" 0 b && is_at "@" 1 b) ≡ true → attribute_length b ≡ Some n → Ends b n
ends_attribute [] n h e = cc
ends_attribute (x ∷ b) n h e =
    let pair = pair_of (byte "[") (byte "@") x b refl h in
    let found = attribute_found pair.0 n (ap attribute_length (sym pair.1) ∙ e) in
    let sum = found.2 in
    let size : length (x ∷ b) ≡ 2 + length pair.0 = ap length pair.1 ∙ omega arith in
    (found.0, subst (λ v. TriviaEnds v found.0) (sym pair.1) (TriviaEnds.attribute pair.0 found.0 found.1), omega (arith, sum, size))

ends_of : (b : List ℕ) (n : ℕ) (w o t : Bool) → among " \t\n\r\u{c}" (get_or b 0 0) ≡ w → opens_comment b ≡ o → (is_at "[" 0 b && is_at "@" 1 b) ≡ t
    → cond w (piece.Trivia 1) (cond o (trivia (comment_length b)) (cond t (trivia (attribute_length b)) (lexeme_at b))) ≡ piece.Trivia n → Ends b n
ends_of b n true o t f g h e = ends_blank b n f e
ends_of b n false true t f g h e = ends_comment b n g (trivia_some (comment_length b) n e)
ends_of b n false false true f g h e = ends_attribute b n h (trivia_some (attribute_length b) n e)
ends_of b n false false false f g h e = absurd (lexeme_is_no_trivia b n e)

attribute_tail : (b behind : List ℕ) → AttributeEnds b behind → (front : List ℕ) × (b ≡ front ++ behind)
attribute_tail b behind (AttributeEnds.closed own) = (codes "]", refl)
attribute_tail b behind (AttributeEnds.nested inside middle own inner outer) =
    let one = attribute_tail inside middle inner in
    let two = attribute_tail middle own outer in
    (codes "[" ++ (one.0 ++ two.0), ap (λ l. codes "[" ++ l) (one.1 ∙ ap (λ l. one.0 ++ l) two.1 ∙ sym (append_assoc one.0 two.0 own)))
attribute_tail b behind (AttributeEnds.comment inside middle own inner outer) =
    let one = comment_tail inside middle inner in
    let two = attribute_tail middle own outer in
    (codes "(*" ++ (one.0 ++ two.0), ap (λ l. codes "(*" ++ l) (one.1 ∙ ap (λ l. one.0 ++ l) two.1 ∙ sym (append_assoc one.0 two.0 own)))
attribute_tail b behind (AttributeEnds.skipped front rest own is inner) =
    let one = attribute_tail rest own inner in
    (front ++ one.0, ap (λ l. front ++ l) one.1 ∙ sym (append_assoc front one.0 own))
attribute_tail b behind (AttributeEnds.plain c rest own e f is inner) =
    let one = attribute_tail rest own inner in
    (c ∷ one.0, ap (λ l. c ∷ l) one.1)

trivia_tail : (b behind : List ℕ) → TriviaEnds b behind → (front : List ℕ) × (b ≡ front ++ behind)
trivia_tail b behind (TriviaEnds.blank c own h) = (c ∷ [], refl)
trivia_tail b behind (TriviaEnds.comment inside own is) = let one =
    comment_tail inside own is in (codes "(*" ++ one.0, ap (λ l. codes "(*" ++ l) one.1)
trivia_tail b behind (TriviaEnds.attribute inside own is) = let one =
    attribute_tail inside own is in (codes "[@" ++ one.0, ap (λ l. codes "[@" ++ l) one.1)

ends_tail : (b behind : List ℕ) → TriviaEnds b behind → (n : ℕ) → n + length behind ≡ length b → drop n b ≡ behind
ends_tail b behind is n sums =
    let tail = trivia_tail b behind is in
    let size : length b ≡ length tail.0 + length behind = ap length tail.1 ∙ length-append tail.0 behind in
    let same : n ≡ length tail.0 = omega (arith, size, sums) in
    ap (λ i. drop i b) same ∙ ap (drop (length tail.0)) tail.1 ∙ drop_front tail.0 behind

pub trivia_begin : TriviaBegin
trivia_begin bytes n e =
    let ends = ends_of bytes n _ _ _ refl refl refl (sym (piece_tests bytes _ _ refl refl) ∙ e) in
    let sum = ends.2 in
    (omega (arith, sum), subst (TriviaEnds bytes) (sym (ends_tail bytes ends.0 ends.1 n sum)) ends.1)
