-- The lines of a text, one after another.
use Rattle.std.proofs.Common.{◌≡◌, ◌≢◌, ℕ, suc, ◌+◌, ◌<◌, ◌≤◌, nat_lt, ne_eqb, Some, None, List, [], ◌∷◌, Bool, eqb, true, false, not, cond, refl, ap}
use Rattle.std.proofs.Common.{◌∙◌, length, take, drop, arith}
use Rattle.std.specs.List.{slice_split, onto_first, position, position_or_len, before_first, after_first}
use Rattle.std.specs.Str.Lines.{lines, lines_of_parts, strip_carriage_return}
use Rattle.std.proofs.lemmas.List.Splits.{slice_split_first, length-slice_split}
use Rattle.std.proofs.lemmas.List.Sums.{prefix_len-le-length}
use Rattle.std.proofs.lemmas.Grind.{common_steps}
use Rattle.rotor_base.specs.Lines.{feed_lines}

parts-cons : (x : List ℕ) (parts : List (List ℕ)) → 0 < length parts → lines_of_parts (x ∷ parts) ≡ strip_carriage_return x ∷ lines_of_parts parts
parts-cons x [] l = absurd (omega arith)
parts-cons x (y ∷ more) l = refl

-- an LF ends the first line
pub lines_ended : (bs : List ℕ) → position_or_len (λ b. eqb b 10) bs < length bs
    → lines bs ≡ strip_carriage_return (take (position_or_len (λ b. eqb b 10) bs) bs) ∷ lines (drop (position_or_len (λ b. eqb b 10) bs + 1) bs)
lines_ended bs l =
    let p = λ (b : ℕ). eqb b 10 in
    ap lines_of_parts (slice_split_first p bs 0 l) ∙ parts-cons (before_first p bs) (slice_split p (after_first p bs))
    (omega (arith, length-slice_split p (after_first p bs)))

not_split_by : (b : ℕ) (bs : List ℕ) (t : Bool) → (position_or_len (λ b. eqb b 10) bs ≡ length bs → slice_split (λ b. eqb b 10) bs ≡ bs ∷ [])
    → cond (not t) (1 + position_or_len (λ b. eqb b 10) bs) 0 ≡ length (b ∷ bs)
    → cond t ([] ∷ slice_split (λ b. eqb b 10) bs) (onto_first b (slice_split (λ b. eqb b 10) bs)) ≡ (b ∷ bs) ∷ []
not_split_by b bs true h e = absurd (omega (arith, e))
not_split_by b bs false h e = ap (onto_first b) (h (omega (arith, e)))

not_split : (bs : List ℕ) → position_or_len (λ b. eqb b 10) bs ≡ length bs → slice_split (λ b. eqb b 10) bs ≡ bs ∷ []
not_split [] e = refl
not_split (b ∷ bs) e = not_split_by b bs (eqb b 10) (not_split bs) e

none_at : (a b : ℕ) (t : Bool) → nat_lt a b ≡ t → a ≤ b → cond t (Some a) None ≡ None → b ≡ a
none_at a b true h l e = cc
none_at a b false h l e = grind arith

-- no LF ends the last line
pub lines_open : (bs : List ℕ) → 0 < length bs → position_or_len (λ b. eqb b 10) bs ≡ length bs → lines bs ≡ bs ∷ []
lines_open [] l e = absurd (omega arith)
lines_open (b ∷ bs) l e = ap lines_of_parts (not_split (b ∷ bs) e)
    ∙ ap (λ t. cond t [] ((b ∷ bs) ∷ [])) (ne_eqb (length (b ∷ bs)) 0 (λ z. omega arith))

-- a front as long as the whole ends behind it
all_before : (bs line : List ℕ) → line ≡ take (position_or_len (λ b. eqb b 10) bs) bs → length line ≡ length bs
    → position_or_len (λ b. eqb b 10) bs ≡ length bs
all_before bs line is whole =
    let within = prefix_len-le-length (λ (b : ℕ). not (eqb b 10)) bs in
    grind (arith, common_steps)

-- if the bytes before the first LF are all bytes, they are the only line
pub lines_whole : (bs line rest : List ℕ) → 0 < length bs
    → line ≡ take (position_or_len (λ b. eqb b 10) bs) bs → rest ≡ drop (position_or_len (λ b. eqb b 10) bs + 1) bs
    → length line ≡ length bs → lines bs ≡ line ∷ lines rest
lines_whole bs line rest some is behind whole =
    let all : position_or_len (λ b. eqb b 10) bs ≡ length bs = all_before bs line is whole in
    let same : line ≡ bs = grind (arith, common_steps) in
    let none : rest ≡ [] = grind (arith, common_steps) in
    rw (same, none) (lines_open bs some all)

-- if they are fewer, they are the first line, without the CR at its end
pub lines_cut : (bs line rest : List ℕ)
    → line ≡ take (position_or_len (λ b. eqb b 10) bs) bs → rest ≡ drop (position_or_len (λ b. eqb b 10) bs + 1) bs
    → length line ≢ length bs → lines bs ≡ strip_carriage_return line ∷ lines rest
lines_cut bs line rest is behind fewer =
    let within = prefix_len-le-length (λ (b : ℕ). not (eqb b 10)) bs in
    rw (is, behind) (lines_ended bs (grind (arith, common_steps)))

-- one more byte in front of the first line
onto_by : (b at : ℕ) (bs : List ℕ) (parts : List (List ℕ)) → parts ≡ take at bs ∷ feed_lines (drop (at + 1) bs)
    → onto_first b parts ≡ take (1 + at) (b ∷ bs) ∷ feed_lines (drop (1 + at + 1) (b ∷ bs))
onto_by b at bs parts h =
    let one : suc at ≡ 1 + at = omega arith in
    let two : suc (at + 1) ≡ 1 + at + 1 = omega arith in
    ap (onto_first b) h
    ∙ ap (λ k. take k (b ∷ bs) ∷ feed_lines (drop (at + 1) bs)) one
    ∙ ap (λ k. take (1 + at) (b ∷ bs) ∷ feed_lines (drop k (b ∷ bs))) two

feeds_by : (b : ℕ) (bs : List ℕ) (t : Bool)
    → (0 < length bs → feed_lines bs ≡ take (position_or_len (λ b. eqb b 10) bs) bs ∷ feed_lines (drop (position_or_len (λ b. eqb b 10) bs + 1) bs))
    → cond t ([] ∷ feed_lines bs) (onto_first b (feed_lines bs)) ≡
    take (cond (not t) (1 + position_or_len (λ b. eqb b 10) bs) 0) (b ∷ bs)
    ∷ feed_lines (drop (cond (not t) (1 + position_or_len (λ b. eqb b 10) bs) 0 + 1) (b ∷ bs))
feeds_by b bs true h = refl
feeds_by b [] false h = refl
feeds_by b (c ∷ bs) false h = onto_by b (position_or_len (λ b. eqb b 10) (c ∷ bs)) (c ∷ bs) (feed_lines (c ∷ bs)) (h (omega arith))

-- the first line that LF alone ends, and the others
pub feeds_cut : (bs : List ℕ) → 0 < length bs
    → feed_lines bs ≡ take (position_or_len (λ b. eqb b 10) bs) bs ∷ feed_lines (drop (position_or_len (λ b. eqb b 10) bs + 1) bs)
feeds_cut [] some = absurd (omega arith)
feeds_cut (b ∷ bs) some = feeds_by b bs (eqb b 10) (feeds_cut bs)

-- no LF is found, so all bytes precede it
pub no_feed : (bs : List ℕ) → position (λ b. eqb b 10) bs ≡ None → length bs ≡ position_or_len (λ b. eqb b 10) bs
no_feed bs e = none_at (position_or_len (λ b. eqb b 10) bs) (length bs) (nat_lt (position_or_len (λ b. eqb b 10) bs) (length bs)) refl
    (prefix_len-le-length (λ (b : ℕ). not (eqb b 10)) bs) e
