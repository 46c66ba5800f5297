use Rattle.std.proofs.Common.{◌≡◌, ◌<◌, [], false, ◌||◌, ◌&&◌, not, get_or, length, map, take, ap, sym, ◌∙◌, arith, bytes_eq}
use Rattle.std.specs.List.{list_any}
use Rattle.std.proofs.lemmas.List.{ext_get_or, get_or-map, length-map, take_all, with_items_is}
use Rattle.std.proofs.lemmas.List.Folds.{list_any_more}
use Rattle.ml_trees.specs.declared.module.UnitTree.{UnitTree}
use Rattle.ml_trees.specs.View.{view_unit}
use Rattle.unit_heads.specs.Heads.{is_among, unit_heads}
use Rattle.unit_order.specs.Needs.{is_other_head}
use Rattle.unit_order.specs.Order.{needs_unit}
use Rattle.unit_order.proofs.Positioned.{marked_all}
use Rattle.unit_order.proofs.need_lists.need_row.Goals as goal

pub loop-head-preserved : goal.loop-head-preserved
loop-head-preserved c =
    let row = c.loop-head.row in
    let later = c.mark_head.new.row in
    let size : length later ≡ length row.items = c.mark_head.ensures.size ∙ ap length c.deref_mut.ensures.value in
    let units = c.args.units.now in
    let names = map (λ (u : UnitTree). u.name) units in
    let many : length names ≡ length units = length-map units (λ u. u.name) in
    let wide : length c.deref_mut.result.now ≡ length names = ap length c.deref_mut.ensures.value ∙ c.loop-head.invariant.size ∙ sym many in
    let own = c.args.unit.now.name in
    let head = c.as_bytes-in-loop-head.result.now in
    let heads = c.deref-head-items.result.now in
    let i = c.loop-head.head-index in
    rw (with_items_is row later (size ∙ sym row.ok.0)) (record {
      size = size ∙ c.loop-head.invariant.size;
      marked = λ p lt.
          let name = get_or names p [] in
          c.mark_head.ensures.marked names c.requires wide p (omega (arith, lt, many))
          ∙ ap (λ l. get_or l p false || is_other_head c.as_bytes.result.now name head) c.deref_mut.ensures.value
          ∙ ap (λ b. b || is_other_head c.as_bytes.result.now name head) (c.loop-head.invariant.marked p lt)
          ∙ ap (λ o. list_any (is_other_head own name) (take i heads) || is_other_head o name head) c.as_bytes.ensures
          ∙ ap (λ h. list_any (is_other_head own name) (take i heads) || is_other_head own name h)
          (c.as_bytes-in-loop-head.ensures ∙ c.head-item.is)
          ∙ sym (list_any_more (is_other_head own name) heads i c.head-item.result c.loop-head-test.true);
    })

pub returns : goal.returns
returns c =
    let u = view_unit c.args.unit.now in
    let own = c.args.unit.now.name in
    let units = c.args.units.now in
    let row = c.loop-head.row.items in
    let heads = c.deref-head-items.result.now in
    let names = map (λ (v : UnitTree). v.name) units in
    ext_get_or false row (map (λ (v : UnitTree). needs_unit u v.name) units)
    (c.loop-head.invariant.size ∙ sym (length-map units (λ (v : UnitTree). needs_unit u v.name))) (λ p lt.
    let within : p < length units = omega (arith, lt, c.loop-head.invariant.size) in
    let name = get_or names p [] in
    c.loop-head.invariant.marked p within
    ∙ ap (list_any (is_other_head own name))
    (take_all c.loop-head.head-index heads c.loop-head-test.false ∙ c.deref-head-items.ensures.value ∙ c.in_ok-heads.ensures)
    ∙ marked_all own name (unit_heads u)
    ∙ ap (λ z. is_among (unit_heads u) z && not (bytes_eq z own)) (get_or-map (λ (v : UnitTree). v.name) units p c.args.unit.now [] within)
    ∙ sym (get_or-map (λ (v : UnitTree). needs_unit u v.name) units p c.args.unit.now false within))
