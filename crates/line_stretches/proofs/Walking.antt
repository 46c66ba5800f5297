-- The lines that a walk has passed.
use Rattle.std.proofs.Common.{◌≡◌, ℕ, suc, ◌+◌, ◌≤◌, ◌==◌, List, [], ◌∷◌, ◌++◌, Bool, true, false, length, refl, ap, sym, subst, ◌∙◌}
use Rattle.std.proofs.Common.{append_assoc, arith, if◌then◌else◌}
use Rattle.std.proofs.lemmas.List.Sums.{sum_by-append, sum_by-cons, sum_by_push}
use Rattle.std.proofs.lemmas.List.{length-append}
use Rattle.std.specs.List.{onto_first}
use Rattle.rotor_base.specs.Lines.{feed_lines}
use Rattle.line_stretches.specs.Stretch.{IsStretch, bytes_in}

more : (line : List ℕ) (lines : List (List ℕ)) → bytes_in (line ∷ lines) ≡ suc (length line) + bytes_in lines
more line lines = sum_by-cons (λ l. suc (length l)) line lines

put_first : (b : ℕ) (lines : List (List ℕ)) (n : ℕ) → bytes_in lines ≤ suc n → bytes_in (onto_first b lines) ≤ suc (suc n)
put_first b [] n h = omega (arith, more (b ∷ []) [])
put_first b (line ∷ lines) n h = omega (arith, h, more line lines, more (b ∷ line) lines)

-- the lines of a text have one byte more at most, that of the last LF
pub lines_fit : (bytes : List ℕ) → bytes_in (feed_lines bytes) ≤ suc (length bytes)
lines_fit [] = omega arith
lines_fit (b ∷ bs) = by (b == 10) (lines_fit bs) where
  by : (t : Bool) → bytes_in (feed_lines bs) ≤ suc (length bs)
      → bytes_in (if t then [] ∷ feed_lines bs else onto_first b (feed_lines bs)) ≤ suc (suc (length bs))
  by true h = omega (arith, h, more [] (feed_lines bs))
  by false h = put_first b (feed_lines bs) (length bs) h

-- so many lines are passed, which end before `start`, and those of `rest` are behind them
pub record HasPassed (lines : List (List ℕ)) (rest : List ℕ) (number start : ℕ) : Type 0 where
  pub passed : List (List ℕ)
  pub split : lines ≡ passed ++ feed_lines rest
  pub counted : number ≡ length passed
  pub begins : start ≡ bytes_in passed

pub none_passed : (bytes : List ℕ) → HasPassed (feed_lines bytes) bytes 0 0
none_passed bytes = record { passed = []; split = refl; counted = refl; begins = refl }

pub one_passed : (lines : List (List ℕ)) (rest line behind : List ℕ) (number start : ℕ) → HasPassed lines rest number start
    → feed_lines rest ≡ line ∷ feed_lines behind → HasPassed lines behind (number + 1) (start + length line + 1)
one_passed lines rest line behind number start h e =
    let begins : bytes_in (h.passed ++ line ∷ []) ≡ bytes_in h.passed + suc (length line)
    = sum_by_push (λ l. suc (length l)) h.passed line in
    record {
      passed = h.passed ++ line ∷ [];
      split = h.split ∙ ap (λ ls. h.passed ++ ls) e ∙ sym (append_assoc h.passed (line ∷ []) (feed_lines behind));
      counted = omega (arith, h.counted, length-append h.passed (line ∷ []));
      begins = omega (arith, h.begins, begins);
    }

pub is_here : (lines : List (List ℕ)) (rest line behind : List ℕ) (number start end : ℕ) → HasPassed lines rest number start
    → feed_lines rest ≡ line ∷ feed_lines behind → end ≡ start + length line → (n : ℕ) → n ≡ number + 1 → IsStretch lines n start end
is_here lines rest line behind number start end h e k n m =
    record {
      before = h.passed;
      line = line;
      after = feed_lines behind;
      split = h.split ∙ ap (λ ls. h.passed ++ ls) e;
      counted = omega (arith, m, h.counted);
      begins = h.begins;
      ends = k;
    }

-- the lines passed, and the next one, end within the text
pub fits : (bytes rest line behind : List ℕ) (number start : ℕ) → HasPassed (feed_lines bytes) rest number start
    → feed_lines rest ≡ line ∷ feed_lines behind → (start + length line ≤ length bytes) × (number + 1 ≤ length bytes + 1)
fits bytes rest line behind number start h e =
    let lines : feed_lines bytes ≡ h.passed ++ line ∷ feed_lines behind = h.split ∙ ap (λ ls. h.passed ++ ls) e in
    let most : bytes_in (h.passed ++ line ∷ feed_lines behind) ≤ suc (length bytes)
    = subst (λ ls. bytes_in ls ≤ suc (length bytes)) lines (lines_fit bytes) in
    let whole : bytes_in (h.passed ++ line ∷ feed_lines behind) ≡ bytes_in h.passed + (suc (length line) + bytes_in (feed_lines behind))
    = sum_by-append (λ l. suc (length l)) h.passed (line ∷ feed_lines behind)
    ∙ ap (λ n. bytes_in h.passed + n) (more line (feed_lines behind)) in
    let count = as_many h.passed in
    (omega (arith, most, whole, h.begins), omega (arith, most, whole, h.counted, count)) where
      as_many : (ls : List (List ℕ)) → length ls ≤ bytes_in ls
      as_many [] = omega arith
      as_many (l ∷ ls) = let k = as_many ls in omega (arith, k, more l ls)

-- behind the last line there is none
pub all_passed : (lines : List (List ℕ)) (rest : List ℕ) (number start : ℕ) → HasPassed lines rest number start → rest ≡ []
    → length lines ≡ number
all_passed lines rest number start h e =
    let whole : lines ≡ h.passed ++ [] = h.split ∙ ap (λ r. h.passed ++ feed_lines r) e in
    omega (arith, ap length whole, length-append h.passed [], h.counted)
