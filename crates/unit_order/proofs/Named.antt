-- Each line of a manifest that lists the units is empty or names one of them.
use Rattle.std.proofs.Common.{◌≡◌, ℕ, suc, ◌<◌, zero, length, get_or, nat_lt, inl, inr, List, [], ◌∷◌, ◌++◌, Bool, true, false, ◌||◌, not, cond}
use Rattle.std.proofs.Common.{Option, Some, None, option_map, map, filter, refl, ap, sym, ◌∙◌, arith}
use Rattle.std.specs.List.{list_any, position, position_or_len, AllByRecursion}
use Rattle.std.specs.Str.{bytes_eq}
use Rattle.std.specs.Str.Lines.{lines}
use Rattle.std.proofs.lemmas.Bool.{or_left, or_right, or_cases, true≢false, lt-ltb}
use Rattle.std.proofs.lemmas.Slice.Eq.{bytes_eq-Decides}
use Rattle.std.proofs.lemmas.List.{length-map, map-append}
use Rattle.std.proofs.lemmas.List.Quantifiers.{position-Some}
use Rattle.rotor_base.specs.Files.{bad_line, bad_manifest}
use Rattle.rotor_base.specs.declared.unit.SourceUnit.{SourceUnit}
use Rattle.rotor_base.specs.declared.refusal.LoadError.TheVariants.{BadManifest}
use Rattle.ml_trees.specs.Tree.{UnitTree}
use Rattle.ml_trees.specs.declared.module.UnitTree as trees
use Rattle.ml_trees.specs.View.{view_unit}
use Rattle.unit_order.specs.Positions.{views, unit_at, names_at}
use Rattle.unit_order.specs.Order.{IsListed, is_filled}
use Rattle.unit_order.proofs.Stuck.{first_within}
use Rattle.unit_order.proofs.Taken.{position_cons}

-- a line is empty or has the name of one of these
abbrev pub IsNamed : {U : Type 0} → (U → List ℕ) → List U → List ℕ → Type 0
IsNamed name units line = is_filled line ≡ true → list_any (λ unit. bytes_eq (name unit) line) units ≡ true

any_kept : {X : Type 0} (p q : X → Bool) (xs : List X) → list_any p (filter q xs) ≡ true → list_any p xs ≡ true
any_kept p q [] h = h
any_kept p q (x ∷ xs) h = by (q x) (any_kept p q xs) h
  where
    by : (b : Bool) → (list_any p (filter q xs) ≡ true → list_any p xs ≡ true) → list_any p (cond b (x ∷ filter q xs) (filter q xs)) ≡ true
        → (p x || list_any p xs) ≡ true
    by true more h = elim (or_cases (p x) (list_any p (filter q xs)) h)
        [ inl e ↦ or_left (p x) (list_any p xs) e | inr e ↦ or_right (p x) (list_any p xs) (more e) ]
    by false more h = or_right (p x) (list_any p xs) (more h)

any_map : {A B : Type 0} (p : B → Bool) (f : A → B) (xs : List A) → list_any p (map f xs) ≡ list_any (λ x. p (f x)) xs
any_map p f [] = refl
any_map p f (x ∷ xs) = ap (λ b. p (f x) || b) (any_map p f xs)

no_number : (o : Option ℕ) → option_map suc o ≡ None → o ≡ None
no_number None h = refl
no_number (Some n) h = absurd (cc)

good_line : (b : Bool) (o : Option ℕ) → cond b (option_map suc o) (Some 1) ≡ None → (b ≡ true) × (o ≡ None)
good_line true o h = (refl, no_number o h)
good_line false o h = absurd (cc)

named_lines : (all : List SourceUnit) (ls : List (List ℕ)) (units : List SourceUnit)
    → ((p : SourceUnit → Bool) → list_any p units ≡ true → list_any p all ≡ true) → bad_line ls units ≡ None
    → AllByRecursion (IsNamed (λ unit. unit.name) all) ls
named_lines all [] units within h = tt
named_lines all ([] ∷ ls) units within h = (λ e. absurd (true≢false (sym e)), named_lines all ls units within (no_number (bad_line ls units) h))
named_lines all ((b ∷ bs) ∷ ls) units within h =
    let rest = filter (λ (unit : SourceUnit). not (bytes_eq unit.name (b ∷ bs))) units in
    let good = good_line (list_any (λ (unit : SourceUnit). bytes_eq unit.name (b ∷ bs)) units) (bad_line ls rest) h in (
      λ _. within (λ unit. bytes_eq unit.name (b ∷ bs)) good.0,
      named_lines all ls rest
          (λ p k. within p (any_kept p (λ unit. not (bytes_eq unit.name (b ∷ bs))) units k)) good.1,
    )

by_weaker : (P Q : List ℕ → Type 0) → ((line : List ℕ) → P line → Q line) → (ls : List (List ℕ)) → AllByRecursion P ls → AllByRecursion Q ls
by_weaker P Q f [] h = tt
by_weaker P Q f (line ∷ ls) h = (f line h.0, by_weaker P Q f ls h.1)

no_refusal : (o : Option ℕ) → option_map BadManifest o ≡ None → o ≡ None
no_refusal None h = refl
no_refusal (Some n) h = absurd (cc)

-- what lists the units has lines of which each is empty or names one
pub listed_named : (units : List trees.UnitTree) (bytes : List ℕ) → IsListed (views units) (Some bytes)
    → AllByRecursion (IsNamed (λ unit. unit.name) units) (lines bytes)
unfolding bad_manifest
listed_named units bytes h =
    let as_source = λ (u : UnitTree). let source : SourceUnit = record { name = u.name; is_body = true } in source in
    let all = map as_source (views units) in
    by_weaker (IsNamed (λ unit. unit.name) all) (IsNamed (λ unit. unit.name) units)
    (λ line named filled. sym
    (any_map (λ unit. bytes_eq unit.name line) as_source (views units) ∙ any_map (λ u. bytes_eq u.name line) view_unit units) ∙ named filled)
    (lines bytes) (named_lines all (lines bytes) all (λ p k. k) (no_refusal (bad_line (lines bytes) all) h))

-- the first of these that passes
pub position_map : {A B : Type 0} (p : B → Bool) (f : A → B) (xs : List A) → position (λ x. p (f x)) xs ≡ position p (map f xs)
position_map p f [] = refl
position_map p f (x ∷ xs) = position_cons (λ y. p (f y)) x xs ∙ ap (λ o. cond (p (f x)) (Some 0) (option_map suc o)) (position_map p f xs)
    ∙ sym (position_cons p (f x) (map f xs))

pub name_at : (units : List trees.UnitTree) (at : ℕ) → (unit_at (views units) at).name ≡ get_or (map (λ u. u.name) units) at []
name_at [] at = refl
name_at (u ∷ units) zero = refl
name_at (u ∷ units) (suc at) = name_at units at

-- the name of the unit at a position
pub name_of : (units : List trees.UnitTree) (at : ℕ) (d : trees.UnitTree) → at < length units
    → (get_or units at d).name ≡ (unit_at (views units) at).name
name_of [] at d lt = absurd (omega (arith, lt))
name_of (u ∷ units) zero d lt = refl
name_of (u ∷ units) (suc at) d lt = name_of units at d (omega (arith, lt))

-- the unit that a line names, at the end of the order
pub add_named : (units : List trees.UnitTree) (order line : List ℕ) (at : ℕ) → is_filled line ≡ true
    → position (λ unit. bytes_eq unit.name line) units ≡ Some at → (at < length units)
    × (names_at (views units) (order ++ at ∷ []) ≡ names_at (views units) order ++ filter is_filled (line ∷ []))
add_named units order line at filled is =
    let found = position-Some (λ name. bytes_eq name line) (map (λ (u : trees.UnitTree). u.name) units) at []
    (sym (position_map (λ name. bytes_eq name line) (λ (u : trees.UnitTree). u.name) units) ∙ is) in
    let same : (unit_at (views units) at).name ≡ line =
    name_at units at ∙ (bytes_eq-Decides (get_or (map (λ (u : trees.UnitTree). u.name) units) at []) line).0 found.1 in (
      omega (arith, found.0, length-map units (λ (u : trees.UnitTree). u.name)),
      map-append (λ k. (unit_at (views units) k).name) order (at ∷ []) ∙ ap (λ name. names_at (views units) order ++ name ∷ []) same
          ∙ ap (λ b. names_at (views units) order ++ cond b (line ∷ []) []) (sym filled),
    )

-- one of these passes, so it is found
pub is_found : {X : Type 0} (p : X → Bool) (xs : List X) → position p xs ≡ None → list_any p xs ≡ true → ⊥
is_found p xs none some = by (nat_lt (position_or_len p xs) (length xs)) (lt-ltb (position_or_len p xs) (length xs) (first_within p xs some)) none
  where
    by : (b : Bool) → b ≡ true → cond b (Some (position_or_len p xs)) None ≡ None → ⊥
    by true e h = cc
    by false e h = true≢false (sym e)

pub filled : (line : List ℕ) → 0 < length line → is_filled line ≡ true
filled [] some = absurd (omega (arith, some))
filled (b ∷ bs) some = refl
