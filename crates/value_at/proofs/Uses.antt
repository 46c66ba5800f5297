-- The goal at a place is that of the one reference there.
use Rattle.std.proofs.Common.{◌≡◌, ℕ, zero, suc, ◌+◌, ◌<◌, List, [], ◌∷◌, length, get_or, drop, Bool, true, false, Option, Some, None, Contains, inl}
use Rattle.std.proofs.Common.{inr, refl, ap, sym, ◌∙◌, subst, arith}
use Rattle.std.proofs.lemmas.List.{drop_more}
use Rattle.rotor_base.specs.declared.place.Place.{Place}
use Rattle.rotor_base.specs.declared.place.Goal.{Goal}
use Rattle.rotor_base.specs.declared.place.Ref.{Ref}
use Rattle.rotor_base.specs.Place.{same_place}
use Rattle.value_sites.specs.Each.{Each}
use Rattle.value_sites.specs.Sound.{IsSound}
use Rattle.ml_trees.specs.Tree.{UnitTree}
use Rattle.shape_core.specs.Shape.{or_else, some_if}
use Rattle.binding_model.specs.Steps.{a_ref, refs_of}
use Rattle.binding_model.specs.Walk.{steps}
use Rattle.binding_model.specs.Facts.{facts}
use Rattle.binding_model.specs.Renaming.{IsBinder}
use Rattle.binding_model.specs.Renaming.{goal_at}
use Rattle.binding_model.proofs.Goals.{goals_found}
use Rattle.binding_model.proofs.Naming.{each_ordered}
use Rattle.rename_parts.proofs.Having.{Has, contained_has}
use Rattle.binding_model.proofs.LastEntries.{same_is}
use Rattle.value_at.specs.Value.{IsValueAt, declares, uses, nothing, goal_value, used_value}
use Rattle.value_at.specs.Laws.{ValuesAreOne}

-- ---- a scan

pub goal_here : (rs : List Ref) (i : ℕ) (d : Ref) (p : Place) (o : Option Goal) → i < length rs → same_place (get_or rs i d).at p ≡ true
    → goal_at (drop i rs) p ≡ o → Some (get_or rs i d).goal ≡ o
goal_here rs i d p o lt same so =
    sym (ap (λ l. goal_at l p) (drop_more rs i d lt) ∙ ap (λ b. or_else (some_if b (get_or rs i d).goal) (goal_at (drop (i + 1) rs) p)) same) ∙ so

pub goal_later : (rs : List Ref) (i : ℕ) (d : Ref) (p : Place) (o : Option Goal) → i < length rs → same_place (get_or rs i d).at p ≡ false
    → goal_at (drop i rs) p ≡ o → goal_at (drop (i + 1) rs) p ≡ o
goal_later rs i d p o lt other so =
    sym (ap (λ l. goal_at l p) (drop_more rs i d lt) ∙ ap (λ b. or_else (some_if b (get_or rs i d).goal) (goal_at (drop (i + 1) rs) p)) other) ∙ so

-- ---- the references at a place

at_index : {A : Type 0} (P : A → Type 0) (xs : List A) (k : ℕ) (d : A) → Each P xs → k < length xs → P (get_or xs k d)
at_index P [] k d h lt = absurd (omega arith)
at_index P (x ∷ xs) zero d h lt = h.0
at_index P (x ∷ xs) (suc k) d h lt = at_index P xs k d h.1 (omega arith)

-- a reference at a place gives its goal
pub goal_of_ref : (us : List UnitTree) (p : Place) (g : Goal) → IsSound us → Contains (facts us).refs (a_ref p g) → goal_at (facts us).refs p ≡ Some g
goal_of_ref us p g sound (k, lt, is) =
    let R : List Ref = (facts us).refs in
    let own : Each (λ r. goal_at R r.at ≡ Some r.goal) R
    = each_ordered (λ r. goal_at R r.at ≡ Some r.goal) (λ r. r.at) (refs_of (steps us)) (goals_found us sound) in
    let P : Ref → Type 0 = λ r. goal_at R r.at ≡ Some r.goal in
    subst P is (at_index P R k (a_ref p g) own lt)

goal_by : (r : Ref) (rs : List Ref) (p : Place) (g : Goal) (b : Bool) → same_place r.at p ≡ b → (goal_at rs p ≡ Some g → Has (λ q. q ≡ a_ref p g) rs)
    → or_else (some_if b r.goal) (goal_at rs p) ≡ Some g → Has (λ q. q ≡ a_ref p g) (r ∷ rs)
goal_by r rs p g true s later h =
    let at : r.at ≡ p = same_is r.at p s in
    let goal : r.goal ≡ g = cc in
    inl (λ i. record { at = at i; goal = goal i })
goal_by r rs p g false s later h = inr (later h)

has_goal : (rs : List Ref) (p : Place) (g : Goal) → goal_at rs p ≡ Some g → Has (λ r. r ≡ a_ref p g) rs
has_goal [] p g e = let none : None ≡ Some g = e in absurd cc
has_goal (r ∷ rs) p g e = goal_by r rs p g (same_place r.at p) refl (has_goal rs p g) e

-- a goal at a place is that of a reference
ref_of_goal : (rs : List Ref) (p : Place) (g : Goal) → goal_at rs p ≡ Some g → Contains rs (a_ref p g)
ref_of_goal rs p g e =
    let found = contained_has (λ r. r ≡ a_ref p g) rs (has_goal rs p g e) in
    let P : Ref → Type 0 = λ r. Contains rs r in
    subst P found.2 found.1

-- ---- the value

pub no_binder : (us : List UnitTree) (p : Place) (o : Option Goal) → IsSound us → (IsBinder us p → ⊥) → goal_at (facts us).refs p ≡ o
    → IsValueAt us p (used_value o)
no_binder us p None sound not_bound e =
    nothing not_bound (λ g has. let none : None ≡ Some g = sym e ∙ goal_of_ref us p g sound has in absurd cc) refl
no_binder us p (Some g) sound not_bound e = uses g not_bound (ref_of_goal (facts us).refs p g e) refl

pub values_are_one : ValuesAreOne
values_are_one us p one other sound (declares b e) (declares c f) = e ∙ sym f
values_are_one us p one other sound (declares b e) (uses g n r f) = absurd (n b)
values_are_one us p one other sound (declares b e) (nothing n none f) = absurd (n b)
values_are_one us p one other sound (uses g n r e) (declares b f) = absurd (n b)
values_are_one us p one other sound (uses g n r e) (uses h m q f) =
    let same : g ≡ h = (let two : Some g ≡ Some h = sym (goal_of_ref us p g sound r) ∙ goal_of_ref us p h sound q in cc) in
    e ∙ ap goal_value same ∙ sym f
values_are_one us p one other sound (uses g n r e) (nothing m none f) = absurd (none g r)
values_are_one us p one other sound (nothing n none e) (declares b f) = absurd (n b)
values_are_one us p one other sound (nothing n none e) (uses g m r f) = absurd (none g r)
values_are_one us p one other sound (nothing n none e) (nothing m neither f) = e ∙ sym f
