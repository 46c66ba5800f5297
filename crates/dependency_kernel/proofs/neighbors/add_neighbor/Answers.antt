use Rattle.std.proofs.Common.{◌≡◌, ◌⊎◌, ap, refl, sym, ◌∙◌, subst, inl, inr, List, [], ◌∷◌, ◌++◌, Option, Some, Contains, cond, None}
use Rattle.std.proofs.lemmas.List.Elements.{Contains-append_left, Contains-push_cases}
use Rattle.std.specs.BTreeMap.{BTreeMap, is_at, get}
use Rattle.std.specs.Global.{Vec}
use Rattle.rotor_base.specs.declared.place.Place.{Place}
use Rattle.rotor_base.specs.Place.{place_cmp}
use Rattle.dependency_kernel.specs.Neighbors.{HasNeighbor}
use Rattle.dependency_kernel.proofs.Table.{Puts, put_keeps, put_only, cond_twice, IsTaken, taken_has, taken_only}
use Rattle.dependency_kernel.proofs.neighbors.add_neighbor.Goals as goal
use Rattle.dependency_kernel.proofs.neighbors.add_neighbor.Goals.{in-Some, in-None}

-- the step, over plain values
module _ (old m1 m : BTreeMap Place (Vec Place)) (from to : Place) (taken : Option (Vec Place)) (list : List Place) (longer : Vec Place)
    (value : taken ≡ get place_cmp old from) (is : IsTaken taken list) (push : longer.items ≡ list ++ to ∷ []) (gone : Puts old m1 from None)
    (new : Puts m1 m from (Some longer)) where
  put : Puts old m from (Some longer)
  put q = new q ∙ (ap (λ (o : Option (Vec Place)). cond (is_at (place_cmp from) q) (Some longer) o) (gone q)
      ∙ cond_twice (is_at (place_cmp from) q) (Some longer) None (get place_cmp old q))

  kept : (a b : Place) → HasNeighbor old a b → HasNeighbor m a b
  kept = put_keeps old m from (Some longer) put
      (λ b h. let P : List Place → Type 0 = λ xs. Contains xs b in
      subst P (sym push) (Contains-append_left list (to ∷ []) b (taken_has old from taken list value is b h)))

  only : (a b : Place) → HasNeighbor m a b → HasNeighbor old a b ⊎ ((a ≡ from) × (b ≡ to))
  only a b h =
      elim (put_only old m from (Some longer) put a b h) [
        | inl before ↦ inl before
        | inr new ↦
            let P : List Place → Type 0 = λ xs. Contains xs b in
            elim (Contains-push_cases list to b (subst P push new.1)) [
              | inl was ↦ let Q : Place → Type 0 = λ x. HasNeighbor old x b in inl (subst Q new.0 (taken_only old from taken list value is b was))
              | inr e ↦ inr (sym new.0, sym e)
            ]
      ]

pub returns-clause-kept : goal.returns-clause-kept
returns-clause-kept c =
    kept c.args.neighbors.now c.remove.new.self c.insert.new.self c.args.from c.args.to c.remove.result c.match-remove.list.items c.push.new.self
    c.remove.ensures.value
    (elim c.match-remove.branch [
      | in-Some w ↦ inl (c.match-remove.list, w.in-Some.is ∙ ap Some (sym w.list-is), refl)
      | in-None w ↦ inr
          (w.in-None.is, ap (λ (v : Vec Place). v.items) w.list-is ∙ w.new-list.ensures.items)
    ])
    c.in_ok-push.ensures.items
    c.remove.ensures.updates.0 c.in_ok-insert.ensures.updates.0

pub returns-clause-only : goal.returns-clause-only
returns-clause-only c =
    only c.args.neighbors.now c.remove.new.self c.insert.new.self c.args.from c.args.to c.remove.result c.match-remove.list.items c.push.new.self
    c.remove.ensures.value
    (elim c.match-remove.branch [
      | in-Some w ↦ inl (c.match-remove.list, w.in-Some.is ∙ ap Some (sym w.list-is), refl)
      | in-None w ↦ inr
          (w.in-None.is, ap (λ (v : Vec Place). v.items) w.list-is ∙ w.new-list.ensures.items)
    ])
    c.in_ok-push.ensures.items
    c.remove.ensures.updates.0 c.in_ok-insert.ensures.updates.0
