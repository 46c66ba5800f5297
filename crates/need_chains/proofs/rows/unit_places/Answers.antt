use Rattle.std.proofs.Common.{◌≡◌, ◌||◌, get_or, map, take, [], bytes_eq, ap, sym, ◌∙◌}
use Rattle.std.proofs.lemmas.List.{get_or-map}
use Rattle.std.proofs.lemmas.List.Folds.{list_any_more}
use Rattle.need_chains.specs.Rows.{is_unit}
use Rattle.need_chains.specs.declared.unit_heads.UnitHeads.{UnitHeads}
use Rattle.need_chains.proofs.Rowing.{have_put, name_put}
use Rattle.need_chains.proofs.rows.unit_places.Goals as goal

pub loop-at-preserved : goal.loop-at-preserved
loop-at-preserved c =
    let sources = c.args.sources.now in
    let k = c.loop-at.at in
    let s = c.index-sources-at.result in
    let name = c.as_bytes.result.now in
    let is : get_or (map (λ (x : UnitHeads). x.unit) sources) k [] ≡ name
    = get_or-map (λ (x : UnitHeads). x.unit) sources k s [] c.loop-at-test.true ∙ sym c.as_bytes.ensures in
    record {
      name = name_put c.loop-at.places c.put.new.self sources name k c.loop-at-test.true is c.in_ok-put.ensures.put c.loop-at.invariant.name;
      have = λ x.
          have_put c.loop-at.places c.put.new.self (take k sources) name x k (c.in_ok-put.ensures.put x) (c.loop-at.invariant.have x)
          ∙ ap (λ l. is_unit (take k sources) x || bytes_eq l x) c.as_bytes.ensures
          ∙ sym (list_any_more (λ (y : UnitHeads). bytes_eq y.unit x) sources k s c.loop-at-test.true);
    }
