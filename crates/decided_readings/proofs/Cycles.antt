-- Whether a unit lies on a cycle is decided, by a search from it.
use Rattle.std.proofs.Common.{◌≡◌, ◌⊎◌, inl, inr, ℕ, zero, suc, ◌+◌, ◌<◌, ◌≤◌, List, [], ◌∷◌, ◌++◌, Bool, true, false, cond, length, get_or, set}
use Rattle.std.proofs.Common.{take, map, refl, sym, ap, subst, ◌∙◌, arith}
use Rattle.std.proofs.lemmas.Bool.{cases_Bool, cases_order, true≢false}
use Rattle.std.proofs.lemmas.List.{take_all}
use Rattle.std.proofs.lemmas.List.Elements.{All-nil}
use Rattle.ml_trees.specs.Tree.{UnitTree}
use Rattle.unit_order.specs.Needs.{AreNeeds, need_table, positions_from}
use Rattle.unit_order.specs.Order.{LiesOnCycle}
use Rattle.unit_order.specs.Positions.{unit_at}
use Rattle.unit_order.proofs.Spread.{AreMarked, Spread, marks_step, next_inside, spread_end, spread_next, spread_start, spread_step, still_at}
use Rattle.unit_order.proofs.Table.{table_needs}

-- the unit at this position lies on a cycle, or it does not
abbrev pub IsKnown : List UnitTree → ℕ → Type 0
IsKnown us at = LiesOnCycle us (unit_at us at) ⊎ (LiesOnCycle us (unit_at us at) → ⊥)

module _ (us : List UnitTree) (start : ℕ) (inside : start < length us) where
  abbrev lists : List (List ℕ)
  lists = map (positions_from 0) (need_table us)

  needs : AreNeeds us lists
  needs = table_needs us

  -- the search while the needs of one unit of the queue are gone through
  record IsUnder (done at k : ℕ) : Type 0 where
    marked : List Bool
    queue : List ℕ
    spread : Spread us lists start marked queue done
    within : done < length queue
    is : at ≡ get_or queue done 0
    marks : AreMarked marked (take k (get_or lists at []))

  -- the search when so many units of the queue are done
  record IsDone (done : ℕ) : Type 0 where
    marked : List Bool
    queue : List ℕ
    spread : Spread us lists start marked queue done

  at_inside : (done at k : ℕ) → IsUnder done at k → at < length us
  at_inside done at k u = subst (λ p. p < length us) (sym u.is) (u.spread.inside done 0 u.within)

  next_need : (done at k : ℕ) → IsUnder done at k → k < length (get_or lists at []) → IsUnder done at (k + 1)
  next_need done at k u less =
      let xs = get_or lists at [] in
      let next = next_inside us lists at k xs needs (at_inside done at k u) refl less in
      let stays = still_at u.queue (get_or u.marked (get_or xs k 0) false) (get_or xs k 0) done u.within in
      record {
        marked = set u.marked (get_or xs k 0) true;
        queue = cond (get_or u.marked (get_or xs k 0) false) u.queue (u.queue ++ get_or xs k 0 ∷ []);
        spread = spread_step us lists start u.marked u.queue done at k xs needs u.spread u.within u.is refl less;
        within = stays.0;
        is = u.is ∙ sym (stays.1);
        marks = marks_step u.marked xs k less (omega (arith, next, u.spread.size)) u.marks;
      }

  all_needs : (left done at k : ℕ) → k + left ≡ length (get_or lists at []) → IsUnder done at k → IsDone (done + 1)
  all_needs zero done at k size u =
      let all = subst (AreMarked u.marked) (take_all k (get_or lists at []) (omega (arith, size))
      ∙ ap (λ p. get_or lists p []) u.is) u.marks in
      record { marked = u.marked; queue = u.queue; spread = spread_next us lists start u.marked u.queue done u.spread u.within all }
  all_needs (suc left) done at k size u = all_needs left done at (k + 1) (omega (arith, size)) (next_need done at k u (omega (arith, size)))

  one_done : (done : ℕ) (d : IsDone done) → done < length d.queue → IsDone (done + 1)
  one_done done d less =
      let at = get_or d.queue done 0 in
      all_needs (length (get_or lists at [])) done at 0 (omega arith) (record {
        marked = d.marked;
        queue = d.queue;
        spread = d.spread;
        within = less;
        is = refl;
        marks = All-nil (λ p. get_or d.marked p false ≡ true);
      })

  known_by : (done : ℕ) (d : IsDone done) → length d.queue ≤ done → IsKnown us start
  known_by done d all =
      elim (cases_Bool (get_or d.marked start false)) [
        | inl e ↦ inl (d.spread.told start e)
        | inr e ↦ inr (λ chain. true≢false (sym (spread_end us lists start d.marked d.queue done needs inside d.spread all chain) ∙ e))
      ]

  less_or_all : (m n : ℕ) → (m < n) ⊎ (n ≤ m)
  less_or_all m n =
      elim (cases_order m n) [
        | inl e ↦ inr (omega (arith, e))
        | inr (inl less) ↦ inl less
        | inr (inr more) ↦ inr (omega (arith, more))
      ]

  search : (left done : ℕ) → done + left ≡ length us + 1 → IsDone done → IsKnown us start
  search zero done size d = known_by done d (omega (arith, size, d.spread.room))
  search (suc left) done size d = by (less_or_all done (length d.queue)) (search left (done + 1)) where
    by : ((done < length d.queue) ⊎ (length d.queue ≤ done)) → (done + 1 + left ≡ length us + 1 → IsDone (done + 1) → IsKnown us start)
        → IsKnown us start
    by (inl less) more = more (omega (arith, size)) (one_done done d less)
    by (inr all) more = known_by done d all

  pub cycle_known : IsKnown us start
  cycle_known = search (length us + 1) 0 (omega arith) (record { marked = _; queue = _; spread = spread_start us lists start inside })
