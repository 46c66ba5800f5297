use Rattle.std.proofs.Common.{◌≡◌, ℕ, ◌+◌, List, ◌++◌, Option, Vec, Global, suc, false, map, ap, ◌∙◌, arith}
use borrow.Author.Count.{below_none, below_more}
use Rattle.need_chains.specs.Chains.{chain, leads}
use Rattle.name_tables.specs.Names.{at}
use Rattle.need_chains.specs.Distances.{distances, farther}
use Rattle.need_chains.specs.Rows.{row_at}
use Rattle.need_chains.specs.declared.unit_heads.UnitHeads.{UnitHeads}
use Rattle.need_chains.proofs.Nearest.{back_at, distances_more}
use Rattle.need_chains.proofs.search.circle.Goals as goal

pub loop-between-init : goal.loop-between-init
unfolding leads
loop-between-init c = record {
  distances = c.in_ok-distances.ensures;
  none = below_none (λ n. leads (suc n) c.args.sources.now c.args.unit.now c.args.unit.now ≡ false);
}

pub loop-between-preserved : goal.loop-between-preserved
loop-between-preserved c =
    let sources = c.args.sources.now in
    let unit = c.args.unit.now in
    let n = c.loop-between.between in
    let up : suc n ≡ n + 1 = omega arith in
    let out = λ (row : Vec ℕ Global). row.items in
    let before = c.deref-in-loop-between-3.ensures.value ∙ c.loop-between.invariant.distances in
    let row = λ (l : List ℕ). row_at (map out c.in_ok-rows.rows.items) (at c.in_ok-places.places l) in
    let rows = ap (map out) c.deref-in-loop-between-2.ensures.value ∙ c.in_ok-table.ensures
    ∙ ap (λ (rs : List (Vec ℕ Global)). map (λ (s : UnitHeads). row_at (map out rs) (at c.in_ok-places.places s.unit)) sources)
    c.deref.ensures.value in
    let needed = c.row_of-needed.ensures
    ∙ ap (λ (rs : List (Vec ℕ Global)). row_at (map out rs) (at c.in_ok-places.places unit)) c.deref-2.ensures.value in
    record {
      distances =
          c.in_ok-distances-2.ensures
          ∙ ap (λ (ds : List (Option ℕ)). farther n ds (map out c.deref-in-loop-between-2.result.now) ds) before
          ∙ ap (λ (table : List (List ℕ)). farther n (distances (suc n) sources unit) table (distances (suc n) sources unit)) rows
          ∙ distances_more n sources row unit c.in_ok-rows.ensures ∙ ap (λ (i : ℕ). distances (suc i) sources unit) up;
      none =
          below_more (λ i. leads (suc i) sources unit unit ≡ false) n c.loop-between.invariant.none
          (back_at n sources row unit c.row_of-needed.result.now c.deref-in-loop-between.result.now c.any_at.result
          c.in_ok-rows.ensures needed (c.deref-in-loop-between.ensures.value ∙ c.loop-between.invariant.distances)
          c.any_at.ensures c.loop-between.invariant.none ∙ c.if-any_at.false);
    }

pub returns-then-any_at-clause-found : goal.returns-then-any_at-clause-found
returns-then-any_at-clause-found c =
    let sources = c.args.sources.now in
    let unit = c.args.unit.now in
    let n = c.loop-between.between in
    let up : n + 1 ≡ suc n = omega arith in
    let out = λ (row : Vec ℕ Global). row.items in
    let row = λ (l : List ℕ). row_at (map out c.in_ok-rows.rows.items) (at c.in_ok-places.places l) in
    let needed = c.row_of-needed.ensures
    ∙ ap (λ (rs : List (Vec ℕ Global)). row_at (map out rs) (at c.in_ok-places.places unit)) c.deref-2.ensures.value in
    record {
      between = n;
      few = c.loop-between-test.true;
      leads_back =
          back_at n sources row unit c.row_of-needed.result.now c.deref-in-loop-between.result.now c.any_at.result
          c.in_ok-rows.ensures needed (c.deref-in-loop-between.ensures.value ∙ c.loop-between.invariant.distances)
          c.any_at.ensures c.loop-between.invariant.none ∙ c.if-any_at.true;
      shortest = c.loop-between.invariant.none;
      units =
          c.from_vec.ensures
          ∙ c.in_ok-push_chain.ensures unit (suc n) (omega arith) (c.deref-then-any_at.ensures.value ∙ c.loop-between.invariant.distances)
          (λ d lt. c.loop-between.invariant.none d (omega (arith, lt)))
          ∙ ap (λ (x : List (List ℕ)). x ++ chain (n + 1) sources unit unit) c.new-names.ensures.items
          ∙ ap (λ (i : ℕ). chain i sources unit unit) up;
    }
