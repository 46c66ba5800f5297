-- The lines of a text, one after another.
use Rattle.std.proofs.Common.{◌≡◌, ℕ, suc, ◌+◌, ◌<◌, List, [], ◌∷◌, ◌==◌, Bool, true, false, not, cond, refl, ap, ◌∙◌, length, take, drop, arith}
use Rattle.std.specs.List.{onto_first, position_or_len, concat}
use Rattle.source_diff.specs.Pairs.{Line, Pair, text_lines, pairs_of}

-- where the first LF is
abbrev pub feed_at : List ℕ → ℕ
feed_at bs = position_or_len (λ b. b == 10) bs

onto_by : (b at : ℕ) (bs : List ℕ) (lines : List Line) → lines ≡ take (at + 1) bs ∷ text_lines (drop (at + 1) bs)
    → onto_first b lines ≡ take (1 + at + 1) (b ∷ bs) ∷ text_lines (drop (1 + at + 1) (b ∷ bs))
onto_by b at bs lines h =
    let one : suc (at + 1) ≡ 1 + at + 1 = omega arith in
    ap (onto_first b) h ∙ ap (λ k. take k (b ∷ bs) ∷ text_lines (drop k (b ∷ bs))) one

cut_by : (b : ℕ) (bs : List ℕ) (t : Bool) → (0 < length bs → text_lines bs ≡ take (feed_at bs + 1) bs ∷ text_lines (drop (feed_at bs + 1) bs))
    → cond t ((b ∷ []) ∷ text_lines bs) (onto_first b (text_lines bs))
    ≡ take (cond (not t) (1 + feed_at bs) 0 + 1) (b ∷ bs) ∷ text_lines (drop (cond (not t) (1 + feed_at bs) 0 + 1) (b ∷ bs))
cut_by b bs true h = refl
cut_by b [] false h = refl
cut_by b (c ∷ bs) false h = onto_by b (feed_at (c ∷ bs)) (c ∷ bs) (text_lines (c ∷ bs)) (h (omega arith))

-- the first line with its LF, and the others
pub text_cut : (bs : List ℕ) → 0 < length bs → text_lines bs ≡ take (feed_at bs + 1) bs ∷ text_lines (drop (feed_at bs + 1) bs)
text_cut [] some = absurd (omega arith)
text_cut (b ∷ bs) some = cut_by b bs (b == 10) (text_cut bs)

-- the first lines of two texts
abbrev pub first_pair : List ℕ → List ℕ → Pair
first_pair old new = record { old = take (feed_at old + 1) old; new = take (feed_at new + 1) new }

pub pairs_cut : (old new : List ℕ) → 0 < length old + length new
    → pairs_of (text_lines old) (text_lines new)
    ≡ first_pair old new ∷ pairs_of (text_lines (drop (feed_at old + 1) old)) (text_lines (drop (feed_at new + 1) new))
pairs_cut [] [] some = absurd (omega arith)
pairs_cut [] (c ∷ new) some = ap (pairs_of []) (text_cut (c ∷ new) (omega arith))
pairs_cut (b ∷ old) [] some = ap (λ x. pairs_of x []) (text_cut (b ∷ old) (omega arith))
pairs_cut (b ∷ old) (c ∷ new) some =
    ap (λ x. pairs_of x (text_lines (c ∷ new))) (text_cut (b ∷ old) (omega arith))
    ∙ ap (pairs_of (take (feed_at (b ∷ old) + 1) (b ∷ old) ∷ text_lines (drop (feed_at (b ∷ old) + 1) (b ∷ old)))) (text_cut (c ∷ new) (omega arith))

-- the lines, one behind the other, are the text
concat_onto : (b : ℕ) (lines : List Line) → concat (onto_first b lines) ≡ b ∷ concat lines
concat_onto b [] = refl
concat_onto b (x ∷ xs) = refl

whole_by : (b : ℕ) (bs : List ℕ) (t : Bool) → concat (text_lines bs) ≡ bs
    → concat (cond t ((b ∷ []) ∷ text_lines bs) (onto_first b (text_lines bs))) ≡ b ∷ bs
whole_by b bs true h = ap (λ x. b ∷ x) h
whole_by b bs false h = concat_onto b (text_lines bs) ∙ ap (λ x. b ∷ x) h

pub lines_are_whole : (bs : List ℕ) → concat (text_lines bs) ≡ bs
lines_are_whole [] = refl
lines_are_whole (b ∷ bs) = whole_by b bs (b == 10) (lines_are_whole bs)

-- no line is empty
abbrev pub NoneEmpty : List Line → Type 0
NoneEmpty [] = Unit {0}
NoneEmpty ([] ∷ xs) = ⊥
NoneEmpty ((b ∷ bs) ∷ xs) = NoneEmpty xs

onto_some : (b : ℕ) (lines : List Line) → NoneEmpty lines → NoneEmpty (onto_first b lines)
onto_some b [] h = tt
onto_some b ([] ∷ xs) h = absurd h
onto_some b ((c ∷ cs) ∷ xs) h = h

some_by : (b : ℕ) (bs : List ℕ) (t : Bool) → NoneEmpty (text_lines bs) → NoneEmpty (cond t ((b ∷ []) ∷ text_lines bs) (onto_first b (text_lines bs)))
some_by b bs true h = h
some_by b bs false h = onto_some b (text_lines bs) h

pub lines_are_some : (bs : List ℕ) → NoneEmpty (text_lines bs)
lines_are_some [] = tt
lines_are_some (b ∷ bs) = some_by b bs (b == 10) (lines_are_some bs)
