-- Chains of needs between the units of a list, each at its position.
use Rattle.std.proofs.Common.{◌≡◌, ℕ, suc, zero, ◌<◌, length, List, Bool, true, ◌&&◌, sym, subst, ◌∙◌}
use Rattle.std.proofs.lemmas.Bool.{and_parts, and_from}
use Rattle.std.proofs.lemmas.List.{get_or_default}
use Rattle.std.proofs.lemmas.List.Folds.{Any-from_list_any, list_any-from_Any, list_any_at}
use Rattle.std.specs.List.{list_any}
use Rattle.ml_trees.specs.Tree.{UnitTree}
use Rattle.unit_order.specs.Order.{needs_unit, leads_to}
use Rattle.unit_order.specs.Positions.{unit_at, blank}

any_weaker : {X : Type 0} (p q : X → Bool) → ((x : X) → p x ≡ true → q x ≡ true) → (xs : List X) → list_any p xs ≡ true → list_any q xs ≡ true
any_weaker p q f xs h = let a = Any-from_list_any p xs h in list_any-from_Any q xs (a.0, a.1, a.2, a.3, f a.1 a.4)

-- a need and the chain behind it are a chain
pub need_first : (n : ℕ) (us : List UnitTree) (u : UnitTree) (j : ℕ) (name : List ℕ) → j < length us → needs_unit u (unit_at us j).name ≡ true
    → leads_to n us (unit_at us j) name ≡ true → leads_to (suc n) us u name ≡ true
need_first n us u j name lt need chain = list_any_at (λ v. needs_unit u v.name && leads_to n us v name) us j blank lt (and_from _ _ need chain)

-- a chain and a need behind it are a chain
pub need_last : (n : ℕ) (us : List UnitTree) (u : UnitTree) (j : ℕ) (name : List ℕ) → j < length us → leads_to n us u (unit_at us j).name ≡ true
    → needs_unit (unit_at us j) name ≡ true → leads_to (suc n) us u name ≡ true
need_last zero us u j name lt chain need = need_first zero us u j name lt chain need
need_last (suc n) us u j name lt chain need =
    any_weaker (λ v. needs_unit u v.name && leads_to n us v (unit_at us j).name) (λ v. needs_unit u v.name && leads_to (suc n) us v name)
    (λ v h. let p = and_parts (needs_unit u v.name) (leads_to n us v (unit_at us j).name) h in and_from _ _ p.0 (need_last n us v j name lt p.1 need))
    us chain

-- the second unit of a chain
pub chain_second : (n : ℕ) (us : List UnitTree) (u : UnitTree) (name : List ℕ) → leads_to (suc n) us u name ≡ true → (j : ℕ) × (j < length us)
    × (needs_unit u (unit_at us j).name ≡ true) × (leads_to n us (unit_at us j) name ≡ true)
chain_second n us u name chain =
    let a = Any-from_list_any (λ v. needs_unit u v.name && leads_to n us v name) us chain in
    let p = and_parts (needs_unit u a.1.name) (leads_to n us a.1 name) a.4 in
    let same : a.1 ≡ unit_at us a.0 = sym a.3 ∙ get_or_default us a.0 a.1 blank a.2 in
    (a.0, a.2, subst (λ v. needs_unit u v.name ≡ true) same p.0, subst (λ v. leads_to n us v name ≡ true) same p.1)
