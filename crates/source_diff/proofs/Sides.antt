-- The lines of the two sides of some pairs, and of a hunk.
use Rattle.std.proofs.Common.{◌≡◌, List, [], ◌∷◌, ◌++◌, Bool, true, false, not, cond, refl, ap, sym, ◌∙◌, append_assoc}
use Rattle.std.proofs.lemmas.List.{append-nil}
use Rattle.std.proofs.lemmas.List.Concat.{flat_map-append}
use Rattle.std.specs.List.{flat_map}
use Rattle.std.specs.Prelude.{bytes_eq}
use Rattle.std.specs.Cmp.Lexicographic.{bytes_decides}
use Rattle.source_diff.specs.declared.hunks.Mark.{Mark}
use Rattle.source_diff.specs.declared.hunks.Mark.TheVariants.{Kept, Removed, Added}
use Rattle.source_diff.specs.Pairs.{Line, Pair, is_changed, pairs_of}
use Rattle.source_diff.specs.Hunks.{HunkLine, line_as, marked, in_old, in_new, old_lines, new_lines}
use Rattle.source_diff.proofs.Cuts.{NoneEmpty}

-- a line, if there is one
abbrev pub if_some : Line → List Line
if_some [] = []
if_some (b ∷ bs) = (b ∷ bs) ∷ []

-- the old lines and the new lines of some pairs
abbrev pub olds : List Pair → List Line
olds ps = flat_map (λ p. if_some p.old) ps

abbrev pub news : List Pair → List Line
news ps = flat_map (λ p. if_some p.new) ps

-- ---- a hunk has the lines of its pairs

old_of_as : (mark : Mark) (x : Line) → old_lines (line_as mark x) ≡ flat_map (in_old mark) (if_some x)
old_of_as mark [] = refl
old_of_as mark (b ∷ bs) = refl

new_of_as : (mark : Mark) (x : Line) → new_lines (line_as mark x) ≡ flat_map (in_new mark) (if_some x)
new_of_as mark [] = refl
new_of_as mark (b ∷ bs) = refl

as_old : (x : Line) → flat_map (in_old Kept) (if_some x) ≡ if_some x
as_old [] = refl
as_old (b ∷ bs) = refl

as_gone : (x : Line) → flat_map (in_old Removed) (if_some x) ≡ if_some x
as_gone [] = refl
as_gone (b ∷ bs) = refl

as_none : (x : Line) → flat_map (in_old Added) (if_some x) ≡ []
as_none [] = refl
as_none (b ∷ bs) = refl

new_kept : (x : Line) → flat_map (in_new Kept) (if_some x) ≡ if_some x
new_kept [] = refl
new_kept (b ∷ bs) = refl

new_gone : (x : Line) → flat_map (in_new Removed) (if_some x) ≡ []
new_gone [] = refl
new_gone (b ∷ bs) = refl

new_added : (x : Line) → flat_map (in_new Added) (if_some x) ≡ if_some x
new_added [] = refl
new_added (b ∷ bs) = refl

abbrev old_of : HunkLine → List Line
old_of x = in_old x.mark x.line

abbrev new_of : HunkLine → List Line
new_of x = in_new x.mark x.line

olds_by : (waiting : List HunkLine) (p : Pair) (ps : List Pair) (t : Bool)
    → ((w : List HunkLine) → old_lines w ≡ [] → old_lines (marked w ps) ≡ olds ps) → old_lines waiting ≡ []
    → old_lines (cond t (line_as Removed p.old ++ marked (waiting ++ line_as Added p.new) ps) (waiting ++ (line_as Kept p.old ++ marked [] ps)))
    ≡ if_some p.old ++ olds ps
olds_by w p ps true h e =
    let none : old_lines (w ++ line_as Added p.new) ≡ []
    = flat_map-append old_of w (line_as Added p.new) ∙ ap (λ xs. xs ++ old_lines (line_as Added p.new)) e
    ∙ (old_of_as Added p.new ∙ as_none p.new) in
    flat_map-append old_of (line_as Removed p.old) (marked (w ++ line_as Added p.new) ps)
    ∙ ap (λ xs. xs ++ old_lines (marked (w ++ line_as Added p.new) ps)) (old_of_as Removed p.old ∙ as_gone p.old)
    ∙ ap (λ xs. if_some p.old ++ xs) (h (w ++ line_as Added p.new) none)
olds_by w p ps false h e =
    flat_map-append old_of w (line_as Kept p.old ++ marked [] ps)
    ∙ ap (λ xs. xs ++ old_lines (line_as Kept p.old ++ marked [] ps)) e
    ∙ flat_map-append old_of (line_as Kept p.old) (marked [] ps)
    ∙ ap (λ xs. xs ++ old_lines (marked [] ps)) (old_of_as Kept p.old ∙ as_old p.old)
    ∙ ap (λ xs. if_some p.old ++ xs) (h [] refl)

marked_olds : (waiting : List HunkLine) (ps : List Pair) → old_lines waiting ≡ [] → old_lines (marked waiting ps) ≡ olds ps
marked_olds w [] e = e
marked_olds w (p ∷ ps) e = olds_by w p ps (is_changed p) (λ v k. marked_olds v ps k) e

pub old_lines-marked : (ps : List Pair) → old_lines (marked [] ps) ≡ olds ps
old_lines-marked ps = marked_olds [] ps refl

flip : (t : Bool) → not t ≡ false → t ≡ true
flip true e = refl
flip false e = cc

-- lines that do not differ are the same
pub same_lines : (p : Pair) → is_changed p ≡ false → p.old ≡ p.new
same_lines p e = (bytes_decides p.old p.new).0 (flip (bytes_eq p.old p.new) e)

news_by : (waiting : List HunkLine) (p : Pair) (ps : List Pair) (t : Bool) → is_changed p ≡ t
    → ((w : List HunkLine) → new_lines (marked w ps) ≡ new_lines w ++ news ps)
    → new_lines (cond t (line_as Removed p.old ++ marked (waiting ++ line_as Added p.new) ps) (waiting ++ (line_as Kept p.old ++ marked [] ps)))
    ≡ new_lines waiting ++ (if_some p.new ++ news ps)
news_by w p ps true is h =
    flat_map-append new_of (line_as Removed p.old) (marked (w ++ line_as Added p.new) ps)
    ∙ ap (λ xs. xs ++ new_lines (marked (w ++ line_as Added p.new) ps)) (new_of_as Removed p.old ∙ new_gone p.old)
    ∙ h (w ++ line_as Added p.new)
    ∙ ap (λ xs. xs ++ news ps)
    (flat_map-append new_of w (line_as Added p.new) ∙ ap (λ xs. new_lines w ++ xs) (new_of_as Added p.new ∙ new_added p.new))
    ∙ append_assoc (new_lines w) (if_some p.new) (news ps)
news_by w p ps false is h =
    flat_map-append new_of w (line_as Kept p.old ++ marked [] ps)
    ∙ ap (λ xs. new_lines w ++ xs)
    (flat_map-append new_of (line_as Kept p.old) (marked [] ps)
    ∙ ap (λ xs. xs ++ new_lines (marked [] ps)) (new_of_as Kept p.old ∙ new_kept p.old ∙ ap if_some (same_lines p is))
    ∙ ap (λ xs. if_some p.new ++ xs) (h []))

marked_news : (waiting : List HunkLine) (ps : List Pair) → new_lines (marked waiting ps) ≡ new_lines waiting ++ news ps
marked_news w [] = sym (append-nil (new_lines w))
marked_news w (p ∷ ps) = news_by w p ps (is_changed p) refl (λ v. marked_news v ps)

pub new_lines-marked : (ps : List Pair) → new_lines (marked [] ps) ≡ news ps
new_lines-marked ps = marked_news [] ps

-- ---- the pairs of two texts have their lines

pub olds-pairs_of : (xs ys : List Line) → NoneEmpty xs → olds (pairs_of xs ys) ≡ xs
olds-pairs_of [] [] h = refl
olds-pairs_of [] (y ∷ ys) h = olds-pairs_of [] ys h
olds-pairs_of ([] ∷ xs) ys h = absurd h
olds-pairs_of ((b ∷ bs) ∷ xs) [] h = ap (λ k. (b ∷ bs) ∷ k) (olds-pairs_of xs [] h)
olds-pairs_of ((b ∷ bs) ∷ xs) (y ∷ ys) h = ap (λ k. (b ∷ bs) ∷ k) (olds-pairs_of xs ys h)

pub news-pairs_of : (xs ys : List Line) → NoneEmpty ys → news (pairs_of xs ys) ≡ ys
news-pairs_of [] [] h = refl
news-pairs_of (x ∷ xs) [] h = news-pairs_of xs [] h
news-pairs_of xs ([] ∷ ys) h = absurd h
news-pairs_of [] ((b ∷ bs) ∷ ys) h = ap (λ k. (b ∷ bs) ∷ k) (news-pairs_of [] ys h)
news-pairs_of (x ∷ xs) ((b ∷ bs) ∷ ys) h = ap (λ k. (b ∷ bs) ∷ k) (news-pairs_of xs ys h)

-- each pair has a line, and behind a pair with no old line there is none
abbrev pub HasLine : Pair → Type 0
HasLine p = (p.old ≡ [] → p.new ≡ [] → ⊥)

abbrev pub OldFirst : List Pair → Type 0
OldFirst [] = Unit {0}
OldFirst (p ∷ ps) = HasLine p × (p.old ≡ [] → olds ps ≡ []) × OldFirst ps

pub old_first : (xs ys : List Line) → NoneEmpty xs → NoneEmpty ys → OldFirst (pairs_of xs ys)
old_first [] [] h k = tt
old_first [] ([] ∷ ys) h k = absurd k
old_first [] ((c ∷ cs) ∷ ys) h k = (λ a b. cc, λ e. olds-pairs_of [] ys h, old_first [] ys h k)
old_first ([] ∷ xs) ys h k = absurd h
old_first ((b ∷ bs) ∷ xs) [] h k = (λ a b. cc, λ e. absurd (cc), old_first xs [] h k)
old_first ((b ∷ bs) ∷ xs) ([] ∷ ys) h k = absurd k
old_first ((b ∷ bs) ∷ xs) ((c ∷ cs) ∷ ys) h k = (λ a b. cc, λ e. absurd (cc), old_first xs ys h k)
