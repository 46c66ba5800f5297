-- Respelled units have the order of the units.
use Rattle.std.proofs.Common.{◌≡◌, ℕ, zero, suc, List, [], ◌∷◌, ◌++◌, Bool, true, false, ◌&&◌, ◌||◌, not, cond, Option, Some, None, map, length}
use Rattle.std.proofs.Common.{nat_eq, refl, ap, ◌∙◌}
use Rattle.std.specs.Str.{bytes_eq}
use Rattle.std.proofs.lemmas.List.{length-map}
use Rattle.ml_trees.specs.Tree.{FileTree, Body, Face, UnitTree}
use Rattle.unit_heads.specs.Heads.{is_among, file_heads, unit_heads}
use Rattle.unit_order.specs.Order.{needs_unit, is_ready, first_ready, go_on, taking, derived_order, takes_all, order_of}
use Rattle.ml_syntax.specs.RespelledSource.{Spellings}
use Rattle.project_reading.specs.Respelled.{spell_part, spell_unit}
use Rattle.project_reading.specs.Units.{unit_named, in_order}
use Rattle.project_reading.proofs.HeadsKept.{file-kept}

part_kept : (w : Spellings) (o : Option FileTree) (found : List (List ℕ)) → file_heads found (spell_part w o) ≡ file_heads found o
part_kept w None found = refl
part_kept w (Some (Body file is)) found = file-kept (Body file is) (w file) found
part_kept w (Some (Face file is)) found = file-kept (Face file is) (w file) found

heads_kept : (w : Spellings) (u : UnitTree) → unit_heads (spell_unit w u) ≡ unit_heads u
heads_kept w u = ap (λ found. file_heads found (spell_part w u.face)) (part_kept w u.body []) ∙ part_kept w u.face (file_heads [] u.body)

needs_kept : (w : Spellings) (u : UnitTree) (name : List ℕ) → needs_unit (spell_unit w u) name ≡ needs_unit u name
needs_kept w u name = ap (λ heads. is_among heads name && not (bytes_eq name u.name)) (heads_kept w u)

ready_kept : (w : Spellings) (us : List UnitTree) (taken : List (List ℕ)) (u : UnitTree)
    → is_ready (map (spell_unit w) us) taken (spell_unit w u) ≡ is_ready us taken u
ready_kept w [] taken u = refl
ready_kept w (v ∷ us) taken u =
    ap (λ b. (not b || is_among taken v.name) && is_ready (map (spell_unit w) us) taken (spell_unit w u)) (needs_kept w u v.name)
    ∙ ap (λ b. (not (needs_unit u v.name) || is_among taken v.name) && b) (ready_kept w us taken u)

first_kept : (w : Spellings) (us : List UnitTree) (taken : List (List ℕ)) (vs : List UnitTree)
    → first_ready (map (spell_unit w) us) taken (map (spell_unit w) vs) ≡ first_ready us taken vs
first_kept w us taken [] = refl
first_kept w us taken (v ∷ vs) =
    ap (λ b. cond (not (is_among taken v.name) && b) (Some v.name) (first_ready (map (spell_unit w) us) taken (map (spell_unit w) vs)))
    (ready_kept w us taken v)
    ∙ ap (cond (not (is_among taken v.name) && is_ready us taken v) (Some v.name)) (first_kept w us taken vs)

taking_kept : (n : ℕ) (w : Spellings) (us : List UnitTree) (taken : List (List ℕ)) → taking n (map (spell_unit w) us) taken ≡ taking n us taken
unfolding taking
taking_kept zero w us taken = refl
taking_kept (suc n) w us taken = ap (λ o. go_on taken o (taking n (map (spell_unit w) us))) (first_kept w us taken us)
    ∙ by (first_ready us taken us) (taking_kept n w us)
  where
    by : (o : Option (List ℕ)) → ((t : List (List ℕ)) → taking n (map (spell_unit w) us) t ≡ taking n us t)
        → go_on taken o (taking n (map (spell_unit w) us)) ≡ go_on taken o (taking n us)
    by None rest = refl
    by (Some name) rest = rest (taken ++ name ∷ [])

derived_kept : (w : Spellings) (us : List UnitTree) → derived_order (map (spell_unit w) us) ≡ derived_order us
derived_kept w us = ap (λ n. taking n (map (spell_unit w) us) []) (length-map us (spell_unit w)) ∙ taking_kept (length us) w us []

pub takes_all_kept : (w : Spellings) (us : List UnitTree) → takes_all (map (spell_unit w) us) ≡ takes_all us
takes_all_kept w us = ap (λ order. nat_eq (length order) (length (map (spell_unit w) us))) (derived_kept w us)
    ∙ ap (nat_eq (length (derived_order us))) (length-map us (spell_unit w))

pub order_kept : (w : Spellings) (us : List UnitTree) (manifest : Option (List ℕ)) → order_of (map (spell_unit w) us) manifest ≡ order_of us manifest
order_kept w us None = derived_kept w us
order_kept w us (Some bytes) = refl

named_kept : (w : Spellings) (us : List UnitTree) (name : List ℕ) → unit_named (map (spell_unit w) us) name ≡ spell_unit w (unit_named us name)
named_kept w [] name = refl
named_kept w (u ∷ us) name = ap (cond (bytes_eq u.name name) (spell_unit w u)) (named_kept w us name) ∙ either (bytes_eq u.name name)
  where
    either : (b : Bool) → cond b (spell_unit w u) (spell_unit w (unit_named us name)) ≡ spell_unit w (cond b u (unit_named us name))
    either true = refl
    either false = refl

pub in_order_kept : (w : Spellings) (us : List UnitTree) (names : List (List ℕ))
    → in_order (map (spell_unit w) us) names ≡ map (spell_unit w) (in_order us names)
in_order_kept w us [] = refl
in_order_kept w us (name ∷ names) = ap (λ u. u ∷ in_order (map (spell_unit w) us) names) (named_kept w us name)
    ∙ ap (λ vs. spell_unit w (unit_named us name) ∷ vs) (in_order_kept w us names)
