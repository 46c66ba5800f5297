-- A list whose last item is the innermost.
use Rattle.std.proofs.Common.{◌≡◌, ◌∙◌, ◌∷◌, ◌++◌, ℕ, List, [], reverse, ap}
use Rattle.std.proofs.lemmas.List.{reverse-append}

pub pushed : (xs : List ℕ) (n : ℕ) → reverse (xs ++ n ∷ []) ≡ n ∷ reverse xs
pushed xs n = reverse-append xs (n ∷ [])

pub popped : (xs ys : List ℕ) (n : ℕ) → xs ≡ ys ++ n ∷ [] → reverse xs ≡ n ∷ reverse ys
popped xs ys n e = ap reverse e ∙ pushed ys n

pub ruleset stacks = (pushed, popped)
