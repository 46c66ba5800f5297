-- Steps of the definitions of which sources are taken.
use Rattle.std.proofs.Common.{◌≡◌, ℕ, suc, ◌+◌, ◌≤◌, ◌<◌, List, [], ◌∷◌, ◌++◌, Bool, true, false, not, ◌||◌, cond, Option, Some, None, option_map}
use Rattle.std.proofs.Common.{refl, ap, sym, subst, ◌∙◌, length, sum_by, filter, nat_lt, append_assoc, arith}
use Rattle.std.specs.List.{list_any, items_where_true}
use Rattle.std.specs.List.Retain.{ReturnsInTurn}
use Rattle.std.proofs.lemmas.Grind.{common_steps}
use Rattle.rotor_base.specs.Files.{first_with, are_over, bad_line, long_manifest}
use Rattle.std.specs.Str.{bytes_eq}
use Rattle.rotor_base.specs.declared.refusal.LoadError.{LoadError}
use Rattle.rotor_base.specs.declared.source.SourceFile.{SourceFile}
use Rattle.rotor_base.specs.declared.unit.SourceUnit.{SourceUnit}

-- numbers counted on
pub counted_on : (n : ℕ) (found : Option ℕ) → option_map (λ k. n + k) (option_map suc found) ≡ option_map (λ k. (n + 1) + k) found
counted_on n None = refl
counted_on n (Some k) = ap Some (omega arith)

-- one more source, behind some that keep the limits
pub are_over_with : (front : List SourceFile) (x : SourceFile) → are_over front ≡ false
    → are_over (front ++ x ∷ []) ≡ (nat_lt 1048576 (length x.bytes) || nat_lt 8388608 (sum_by (λ file. length file.bytes) front + length x.bytes))
are_over_with front x e = grind (arith, common_steps)

-- this source is the first with which they are over
pub first_with_hit : (front : List SourceFile) (x : SourceFile) (rest : List SourceFile) → are_over (front ++ x ∷ []) ≡ true
    → first_with (λ f. are_over (front ++ f)) (x ∷ rest) ≡ Some x
first_with_hit front x rest e = ap (λ t. cond t (Some x) (first_with (λ f. are_over (front ++ x ∷ f)) rest)) e

-- this source is not the first
pub first_with_miss : (front : List SourceFile) (x : SourceFile) (rest : List SourceFile) → are_over (front ++ x ∷ []) ≡ false
    → first_with (λ f. are_over (front ++ f)) (x ∷ rest) ≡ first_with (λ f. are_over ((front ++ x ∷ []) ++ f)) rest
first_with_miss front x rest e =
    ap (λ t. cond t (Some x) (first_with (λ f. are_over (front ++ x ∷ f)) rest)) e
    ∙ ap (λ test. first_with test rest) (λ i f. are_over (sym (append_assoc front (x ∷ []) f) i))

where_true : {X : Type 0} (b : Bool) (bs : List Bool) (x : X) (xs : List X) → items_where_true (b ∷ bs) (x ∷ xs) ≡ cond b (x ∷ items_where_true bs xs)
    (items_where_true bs xs)
where_true true bs x xs = refl
where_true false bs x xs = refl

kept_at : {X : Type 0} (b t : Bool) → b ≡ t → (x : X) (bs xs : List X) → bs ≡ xs → cond b (x ∷ bs) bs ≡ cond t (x ∷ xs) xs
kept_at b t e x bs xs h = cc

-- what is left of a list after a test that never changes was called at each element
pub kept_by : {X P : Type 0} (R : P → X → Bool → P → Type 0) (test : X → Bool) (p : P)
    → ((x : X) (b : Bool) (q : P) → R p x b q → (b ≡ test x) × (q ≡ p))
    → (bs : List Bool) (xs : List X) (q : P) → ReturnsInTurn R p bs xs q → length bs ≡ length xs → items_where_true bs xs ≡ filter test xs
kept_by R test p says [] [] q h l = refl
kept_by R test p says [] (x ∷ xs) q h l = cc
kept_by R test p says (b ∷ bs) [] q h l = cc
kept_by R test p says (b ∷ bs) (x ∷ xs) q h l =
    let said : (b ≡ test x) × (h.0 ≡ p) = says x b h.0 h.1 in
    let rest : items_where_true bs xs ≡ filter test xs = kept_by R test p says bs xs q (subst (λ j. ReturnsInTurn R j bs xs q) said.1 h.2)
    (omega arith) in
    where_true b bs x xs ∙ kept_at b (test x) said.0 x (items_where_true bs xs) (filter test xs) rest

-- a line that is not empty and names a unit takes it
pub takes_named : (line : List ℕ) (units : List SourceUnit) → 0 < length line → list_any (λ unit. bytes_eq unit.name line) units ≡ true
    → (lines : List (List ℕ)) → bad_line (line ∷ lines) units ≡ option_map suc (bad_line lines (filter (λ unit. not (bytes_eq unit.name line)) units))
takes_named [] units l e lines = absurd (omega arith)
takes_named (b ∷ bs) units l e lines =
    ap (λ t. cond t (option_map suc (bad_line lines (filter (λ unit. not (bytes_eq unit.name (b ∷ bs))) units))) (Some 1)) e

-- one that names none is bad
pub names_none : (line : List ℕ) (units : List SourceUnit) → 0 < length line → list_any (λ unit. bytes_eq unit.name line) units ≡ false
    → (lines : List (List ℕ)) → bad_line (line ∷ lines) units ≡ Some 1
names_none [] units l e lines = absurd (omega arith)
names_none (b ∷ bs) units l e lines =
    ap (λ t. cond t (option_map suc (bad_line lines (filter (λ unit. not (bytes_eq unit.name (b ∷ bs))) units))) (Some 1)) e

long_at : (n : ℕ) (t : Bool) (r : LoadError) → nat_lt 1048576 n ≡ t → cond t (Some r) None ≡ None → n ≤ 1048576
long_at n true r h e = cc
long_at n false r h e = grind arith

-- a manifest that is not too long
pub is_short : (manifest : Option (List ℕ)) → long_manifest manifest ≡ None → (bytes : List ℕ) → manifest ≡ Some bytes → length bytes ≤ 1048576
unfolding long_manifest
is_short None h bytes e = cc
is_short (Some given) h bytes e = let same : given ≡ bytes = cc in
    subst (λ w. length w ≤ 1048576) same (long_at (length given) (nat_lt 1048576 (length given)) _ refl h)
