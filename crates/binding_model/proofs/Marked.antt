-- Lists of marks that are joined.
use Rattle.std.proofs.Common.{◌≡◌, List, [], ◌∷◌, ◌++◌, map, refl, sym, ap, ◌∙◌, append_assoc, append-nil}
use Rattle.value_sites.specs.declared.mark.Mark.{Mark}
use Rattle.value_sites.specs.Places.{Site, mark}

pub marks_appended : (xs ys : List Site) → map mark (xs ++ ys) ≡ map mark xs ++ map mark ys
marks_appended [] ys = refl
marks_appended (x ∷ xs) ys = ap (λ l. mark x ∷ l) (marks_appended xs ys)

pub lists_joined : (a b c : List Mark) → (a ++ b) ++ c ≡ a ++ (b ++ c)
lists_joined = append_assoc

pub nothing_joined : (a : List Mark) → a ++ [] ≡ a
nothing_joined = append-nil

pub ruleset marks_joined = (marks_appended, lists_joined, nothing_joined)

-- the marks after one more
pub one_more : (m m' : List Mark) (xs ys : List Site) → m' ≡ m ++ map mark xs → m' ++ map mark ys ≡ m ++ map mark (xs ++ ys)
one_more m m' xs ys h = ap (λ l. l ++ map mark ys) h ∙ append_assoc m (map mark xs) (map mark ys) ∙ sym (ap (λ l. m ++ l) (marks_appended xs ys))
