-- The counts of a list of names, behind a change at one name.
use Rattle.std.proofs.Common.{◌≡◌, ℕ, ◌+◌, ◌-◌, Bool, true, false, ◌||◌, cond, count_by, List, [], ◌∷◌, ◌++◌, Some, unwrap_or}
use Rattle.std.proofs.Common.{nat_lt, if◌then◌else◌, bytes_eq, refl, sym, ap, ◌∙◌, arith}
use Rattle.std.proofs.lemmas.Grind.{common_steps}
use Rattle.std.proofs.lemmas.List.Sums.{sum_by_push, sum_by-cons}
use Rattle.std.proofs.lemmas.Slice.Eq.{bytes_eq-Decides}
use Rattle.std.specs.List.{list_any}
use Rattle.name_tables.specs.Names.{at}
use Rattle.unit_heads.specs.declared.counts.Counts.{Counts}
use Rattle.unit_heads.specs.Counts.{AreCounts, count_of}

abbrev Is : List ℕ → List ℕ → Bool
Is name other = bytes_eq other name

-- a change at one name changes the count of that name alone
changed : (c d : Counts) (name : List ℕ) (n : ℕ) → ((x : List ℕ) → at d.numbers x ≡ (if bytes_eq name x then Some n else at c.numbers x))
    → (x : List ℕ) → count_of d x ≡ (if bytes_eq name x then n else count_of c x)
changed c d name n h x = ap (λ o. unwrap_or o 0) (h x) ∙ go (bytes_eq name x)
  where
    go : (t : Bool) → unwrap_or (if t then Some n else at c.numbers x) 0 ≡ (if t then n else count_of c x)
    go true = refl
    go false = refl

pushed : (x name : List ℕ) (list : List (List ℕ)) → count_by (Is x) (list ++ name ∷ []) ≡ count_by (Is x) list + cond (bytes_eq name x) 1 0
pushed x name list = sum_by_push (λ other. cond (bytes_eq other x) 1 0) list name

last : (name : List ℕ) (list : List (List ℕ)) → count_by (Is name) (list ++ name ∷ []) ≡ count_by (Is name) list + 1
last name list = pushed name name list ∙ ap (λ t. count_by (Is name) list + cond t 1 0) ((bytes_eq-Decides name name).1 refl)

-- one more of the name, and the list has it at its end
pub one_more : (c d : Counts) (name : List ℕ) → ((x : List ℕ) → count_of d x ≡ (if bytes_eq name x then count_of c name + 1 else count_of c x))
    → (list : List (List ℕ)) → AreCounts c list → AreCounts d (list ++ name ∷ [])
one_more c d name h list are x = go (bytes_eq name x) refl
  where
    go : (t : Bool) → bytes_eq name x ≡ t → count_of d x ≡ count_by (Is x) (list ++ name ∷ [])
    go true e =
        let same : name ≡ x = (bytes_eq-Decides name x).0 e in
        h x ∙ ap (λ t. if t then count_of c name + 1 else count_of c x) e
        ∙ ap (λ n. n + 1) (are name) ∙ sym (last name list) ∙ ap (λ z. count_by (Is z) (list ++ name ∷ [])) same
    go false e =
        h x ∙ ap (λ t. if t then count_of c name + 1 else count_of c x) e
        ∙ are x ∙ omega arith ∙ sym (pushed x name list ∙ ap (λ t. count_by (Is x) list + cond t 1 0) e)

pub count_more : (c d : Counts) (name : List ℕ) (n : ℕ) → n ≡ count_of c name
    → ((x : List ℕ) → at d.numbers x ≡ (if bytes_eq name x then Some (n + 1) else at c.numbers x))
    → (list : List (List ℕ)) → AreCounts c list → AreCounts d (list ++ name ∷ [])
count_more c d name n is put =
    one_more c d name (λ x. changed c d name (n + 1) put x ∙ ap (λ m. if bytes_eq name x then m + 1 else count_of c x) is)

-- one less of the name, and the list is without its last
pub one_less : (c d : Counts) (name : List ℕ) → ((x : List ℕ) → count_of d x ≡ (if bytes_eq name x then count_of c name - 1 else count_of c x))
    → (list : List (List ℕ)) → AreCounts c (list ++ name ∷ []) → AreCounts d list
one_less c d name h list are x = go (bytes_eq name x) refl
  where
    go : (t : Bool) → bytes_eq name x ≡ t → count_of d x ≡ count_by (Is x) list
    go true e =
        let same : name ≡ x = (bytes_eq-Decides name x).0 e in
        h x ∙ ap (λ t. if t then count_of c name - 1 else count_of c x) e
        ∙ ap (λ n. n - 1) (are name ∙ last name list) ∙ omega arith ∙ ap (λ z. count_by (Is z) list) same
    go false e =
        h x ∙ ap (λ t. if t then count_of c name - 1 else count_of c x) e
        ∙ are x ∙ pushed x name list ∙ ap (λ t. count_by (Is x) list + cond t 1 0) e ∙ omega arith

pub count_less : (c d : Counts) (name : List ℕ) (n : ℕ) → n ≡ count_of c name - 1
    → ((x : List ℕ) → at d.numbers x ≡ (if bytes_eq name x then Some n else at c.numbers x))
    → (list : List (List ℕ)) → AreCounts c (list ++ name ∷ []) → AreCounts d list
count_less c d name n is set =
    one_less c d name (λ x. changed c d name n set x ∙ ap (λ m. if bytes_eq name x then m else count_of c x) is)

-- the last name of a list is counted
pub counted : (c : Counts) (name : List ℕ) (list : List (List ℕ)) → AreCounts c (list ++ name ∷ []) → count_of c name ≡ count_by (Is name) list + 1
counted c name list are = are name ∙ last name list

-- some pass a test if their number is not 0
pub some_pass : {X : Type 0} (p : X → Bool) (xs : List X) → nat_lt 0 (count_by p xs) ≡ list_any p xs
some_pass p [] = refl
some_pass p (x ∷ xs) = ap (nat_lt 0) (sum_by-cons (λ y. cond (p y) 1 0) x xs) ∙ go (p x) (some_pass p xs)
  where
    go : (t : Bool) → nat_lt 0 (count_by p xs) ≡ list_any p xs → nat_lt 0 (cond t 1 0 + count_by p xs) ≡ (t || list_any p xs)
    go true h = grind (arith, common_steps)
    go false h = ap (nat_lt 0) (omega arith) ∙ h
