-- Positions as people count, by the LFs before a byte.
use Rattle.std.proofs.Common.{◌≡◌, ℕ, zero, suc, ◌+◌, ◌-◌, ◌<◌, ◌≤◌, ◌==◌, Bool, true, false, List, [], ◌∷◌, ◌++◌, cond, get_or, length, take}
use Rattle.std.proofs.Common.{take_all, add-zero, zero-add, refl, ap, sym, ◌∙◌, arith}
use Rattle.std.proofs.lemmas.List.{take_more}
use Rattle.text_places.specs.declared.counting.Counting.TheVariants.{People}
use Rattle.text_places.specs.declared.counting.Position.{Position}
use Rattle.text_places.specs.Fronts.{behind, character, front_of, line_end, origin_of}
use Rattle.text_places.specs.Marks.{last_upto, marks_from, position_of}
use Rattle.text_places.specs.People.{column_behind, feeds_in}
use Rattle.text_places.proofs.Rising.{one_byte}
use Rattle.text_places.proofs.Walks.{front_mark, last_before, last_with, mark_of}

-- the position behind some bytes, of which the first has this one
abbrev Counted : Position → List ℕ → Position
Counted here bs = record { line = here.line + feeds_in bs; column = column_behind here.column bs }

abbrev Next : Position → ℕ → List ℕ → Position
Next here b bs = behind People here (front_of People (b ∷ bs))

counted_none : (here : Position) → here ≡ Counted here []
counted_none here = ap (λ n. record { line = n; column = here.column }) (sym (add-zero here.line))

counted_more : (here : Position) (b : ℕ) (rest bs : List ℕ) → Counted (Next here b rest) bs ≡ Counted here (b ∷ bs)
counted_more here b rest bs = go (b == 10)
  where
    go : (t : Bool) → Counted (behind People here (cond t (line_end 1) (character People 1))) bs
        ≡ record {
          line = here.line + cond t (1 + feeds_in bs) (feeds_in bs);
          column =
              cond t (column_behind 1 bs) (column_behind (here.column + 1) bs);
        }
    go true = ap (λ n. record { line = n; column = column_behind 1 bs }) (omega arith)
    go false = refl

marks_more : (at : ℕ) (here : Position) (b : ℕ) (bs : List ℕ)
    → marks_from People 0 at here (b ∷ bs) ≡ mark_of at here (front_of People (b ∷ bs)) ∷ marks_from People 0 (suc at) (Next here b bs) bs
marks_more at here b bs =
    ap (λ n. mark_of at here (front_of People (b ∷ bs)) ∷ marks_from People (n - 1) (suc at) (Next here b bs) bs) (one_byte b bs)

later_marks : (o at : ℕ) (here p : Position) (bs : List ℕ) → o < at → last_upto o p (marks_from People 0 at here bs) ≡ p
later_marks o at here p bs lt =
    let k = front_mark People at here bs in ap (last_upto o p) k.2 ∙ last_before o p k.0 k.1 (omega (arith, k.3))

counted_marks : (o at : ℕ) (here p : Position) (bs : List ℕ) → last_upto (at + o) p (marks_from People 0 at here bs) ≡ Counted here (take o bs)
counted_marks zero at here p [] =
    last_with (at + 0) p (record { offset = at; position = here; ends_line = true }) [] (omega arith) ∙ counted_none here
counted_marks (suc o) at here p [] =
    last_with (at + suc o) p (record { offset = at; position = here; ends_line = true }) [] (omega arith) ∙ counted_none here
counted_marks zero at here p (b ∷ bs) =
    ap (last_upto (at + 0) p) (marks_more at here b bs)
    ∙ last_with (at + 0) p (mark_of at here (front_of People (b ∷ bs))) (marks_from People 0 (suc at) (Next here b bs) bs) (omega arith)
    ∙ later_marks (at + 0) (suc at) (Next here b bs) here bs (omega arith) ∙ counted_none here
counted_marks (suc o) at here p (b ∷ bs) =
    let sum : at + suc o ≡ suc at + o = omega arith in
    ap (last_upto (at + suc o) p) (marks_more at here b bs)
    ∙ last_with (at + suc o) p (mark_of at here (front_of People (b ∷ bs))) (marks_from People 0 (suc at) (Next here b bs) bs) (omega arith)
    ∙ ap (λ n. last_upto n here (marks_from People 0 (suc at) (Next here b bs) bs)) sum
    ∙ counted_marks o (suc at) (Next here b bs) here bs ∙ counted_more here b bs (take o bs)

-- the position of a byte
pub people_position : (bytes : List ℕ) (offset : ℕ)
    → record { line = feeds_in (take offset bytes) + 1; column = column_behind 1 (take offset bytes) } ≡ position_of People offset bytes
people_position bytes offset =
    ap (λ n. record { line = n; column = column_behind 1 (take offset bytes) }) (omega arith)
    ∙ sym (counted_marks offset 0 (origin_of People) (origin_of People) bytes)
    ∙ ap (λ n. last_upto n (origin_of People) (marks_from People 0 0 (origin_of People) bytes)) (zero-add offset)

-- one more byte behind others
pub column_last : (n : ℕ) (xs : List ℕ) (b : ℕ) → column_behind n (xs ++ b ∷ []) ≡ cond (b == 10) 1 (column_behind n xs + 1)
column_last n [] b = refl
column_last n (x ∷ xs) b = go (x == 10) (column_last 1 xs b) (column_last (n + 1) xs b)
  where
    go : (t : Bool) → column_behind 1 (xs ++ b ∷ []) ≡ cond (b == 10) 1 (column_behind 1 xs + 1)
        → column_behind (n + 1) (xs ++ b ∷ []) ≡ cond (b == 10) 1 (column_behind (n + 1) xs + 1)
        → cond t (column_behind 1 (xs ++ b ∷ [])) (column_behind (n + 1) (xs ++ b ∷ []))
        ≡ cond (b == 10) 1 (cond t (column_behind 1 xs) (column_behind (n + 1) xs) + 1)
    go true h k = h
    go false h k = k

-- the column behind some bytes, by the last of them
pub column_split : (xs : List ℕ) → 1 ≤ length xs
    → column_behind 1 xs ≡ cond (get_or xs (length xs - 1) 0 == 10) 1 (column_behind 1 (take (length xs - 1) xs) + 1)
column_split xs le =
    let one : length xs - 1 + 1 ≡ length xs = omega arith in
    let all : xs ≡ take (length xs - 1) xs ++ get_or xs (length xs - 1) 0 ∷ []
    = sym (take_all (length xs) xs (omega arith)) ∙ ap (λ n. take n xs) (sym one) ∙ take_more xs (length xs - 1) 0 (omega arith) in
    ap (column_behind 1) all ∙ column_last 1 (take (length xs - 1) xs) (get_or xs (length xs - 1) 0)
