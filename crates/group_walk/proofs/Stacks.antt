-- A list whose last item is the innermost.
use Rattle.std.proofs.Common.{◌≡◌, ◌∙◌, ◌∷◌, ◌++◌, List, [], reverse, ap}
use Rattle.std.proofs.lemmas.List.{reverse-append}

pub pushed : {A : Type 0} (xs : List A) (x : A) → reverse (xs ++ x ∷ []) ≡ x ∷ reverse xs
pushed xs x = reverse-append xs (x ∷ [])

pub popped : {A : Type 0} (xs ys : List A) (x : A) → xs ≡ ys ++ x ∷ [] → reverse xs ≡ x ∷ reverse ys
popped xs ys x e = ap reverse e ∙ pushed ys x

pub ruleset stacks = (pushed, popped)
