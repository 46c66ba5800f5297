use Rattle.std.proofs.Common.{arith, ap, sym, ◌∙◌, ◌+◌}
use Rattle.std.specs.Prelude.{option_copied}
use Rattle.shape_core.specs.declared.shared.SharedEntry.TheVariants as e
use Rattle.shape_core.specs.Shape.{entries_in, entries_from}
use Rattle.shape_core.specs.Links as links
use Rattle.sig_match.specs.Walk.{met, trace_of}
use Rattle.sig_match.specs.Parts.{pin_part, pin_first}
use Rattle.sig_match.proofs.Walks.{left, walk_then, walk_done, walk_same, goes_same, loop_stops, loop_turns, loop_ends}
use Rattle.sig_match.proofs.Firsts.{from_in, end_in, pin_rest, pin_over, then_is, shown_mod, shown_mty, hidden_mod, hidden_mty}
use Rattle.sig_match.proofs.FirstWalks.{mod_stops, mty_stops}
use Rattle.sig_match.proofs.PinWalks.{pin_stops_first, pin_stops_list, pin_stops_param, pin_walks}
use Rattle.sig_match.proofs.Depths.{mod_below, mty_below}
use Rattle.sig_match.proofs.pinning.+pinning.Goals as goal

pub pin_entries-pin_entry-requires : goal.pin_entries-pin_entry-requires
pin_entries-pin_entry-requires t c = (
  omega (arith, c.decreases),
  (from_in c.entries-list.result.now (entries_in c.args.shape.now) c.loop-at.at c.index-list-at.result c.entries-list.ensures c.loop-at-test.true
      c.index-list-at.is),
)

pub pin_entries-returns-in_err-pin_entry : goal.pin_entries-returns-in_err-pin_entry
pin_entries-returns-in_err-pin_entry t c =
    let es = entries_in c.args.shape.now in
    let at = c.loop-at.at in
    left c.from_residual.result _ c.args.room _ _ _ c.from_residual.ensures.0 c.from_residual.ensures.1
    (loop_stops _ c.args.room (trace_of c.args.found.now) (trace_of c.loop-at.found) _ _ _ _ _ c.loop-at.invariant
    (pin_rest (entries_from at es) (entries_from (at + 1) es) c.index-list-at.result
    (from_in c.entries-list.result.now es at c.index-list-at.result c.entries-list.ensures c.loop-at-test.true c.index-list-at.is))
    c.in_err-pin_entry.ensures)

pub pin_entries-loop-at-preserved : goal.pin_entries-loop-at-preserved
pin_entries-loop-at-preserved t c =
    let es = entries_in c.args.shape.now in
    let at = c.loop-at.at in
    loop_turns c.args.room (trace_of c.args.found.now) (trace_of c.loop-at.found) (trace_of c.pin_entry.new.found) _ _ _ _ c.loop-at.invariant
    (pin_rest (entries_from at es) (entries_from (at + 1) es) c.index-list-at.result
    (from_in c.entries-list.result.now es at c.index-list-at.result c.entries-list.ensures c.loop-at-test.true c.index-list-at.is))
    c.in_ok-pin_entry.ensures

pub pin_entries-returns : goal.pin_entries-returns
pin_entries-returns t c =
    let es = entries_in c.args.shape.now in
    loop_ends c.args.room (trace_of c.args.found.now) (trace_of c.loop-at.found) _ _ c.loop-at.invariant
    (pin_over (entries_from c.loop-at.at es) (end_in c.entries-list.result.now es c.loop-at.at c.entries-list.ensures c.loop-at-test.false))

pub pin_entry-returns-in_err-spend-in-Mod : goal.pin_entry-returns-in_err-spend-in-Mod
pin_entry-returns-in_err-spend-in-Mod t c =
    left c.from_residual.result _ c.args.room _ _ _ c.from_residual.ensures.0 c.from_residual.ensures.1
    (mod_stops _ c.args.room (trace_of c.args.found.now) (trace_of c.spend.new.found) (entries_from c.args.at (entries_in c.args.shape.now))
    (entries_from (c.args.at + 1) (entries_in c.args.shape.now)) c.in-Mod.field-0 c.in-Mod.part
    (then_is _ _ c.args.entry.now (e.Mod c.in-Mod.field-0 c.in-Mod.part) c.requires c.in-Mod.is) c.in_err-spend-in-Mod.ensures)

pub pin_entry-pin_shape-requires : goal.pin_entry-pin_shape-requires
pin_entry-pin_shape-requires t c =
    let k = mod_below c.args.shape.now c.args.at _ _ _ (then_is _ _ _ _ c.requires c.in-Mod.is) in
    (omega (arith, k, c.decreases), tt)

pub pin_entry-returns-in_err-spend-in-Mty : goal.pin_entry-returns-in_err-spend-in-Mty
pin_entry-returns-in_err-spend-in-Mty t c =
    left c.from_residual-in_err-spend-in-Mty.result _ c.args.room _ _ _ c.from_residual-in_err-spend-in-Mty.ensures.0
    c.from_residual-in_err-spend-in-Mty.ensures.1
    (mty_stops _ c.args.room (trace_of c.args.found.now) (trace_of c.spend-in-Mty.new.found) (entries_from c.args.at (entries_in c.args.shape.now))
    (entries_from (c.args.at + 1) (entries_in c.args.shape.now)) c.in-Mty.field-0 c.in-Mty.part
    (then_is _ _ c.args.entry.now (e.Mty c.in-Mty.field-0 c.in-Mty.part) c.requires c.in-Mty.is) c.in_err-spend-in-Mty.ensures)

pub pin_entry-pin_shape-requires-then-is_shown-2 : goal.pin_entry-pin_shape-requires-then-is_shown-2
pin_entry-pin_shape-requires-then-is_shown-2 t c =
    let k = mty_below c.args.shape.now c.args.at _ _ _ (then_is _ _ _ _ c.requires c.in-Mty.is) in
    (omega (arith, k, c.decreases), tt)

pub pin_entry-returns-then-is_shown : goal.pin_entry-returns-then-is_shown
pin_entry-returns-then-is_shown t c =
    let h = then_is _ _ _ _ c.requires c.in-Mod.is in
    walk_same c.pin_shape.result c.args.room _ _ _ _
    (shown_mod _ _ _ _ (links.pin met c.in-Mod.part) _ h c.is_shown.ensures c.if-is_shown.true ∙ ap pin_first (sym h))
    (walk_then c.pin_shape.result c.args.room (trace_of c.args.found.now) (trace_of c.spend.new.found) _ _ _ c.in_ok-spend-in-Mod.ensures
    c.pin_shape.ensures)

pub pin_entry-returns-else-is_shown : goal.pin_entry-returns-else-is_shown
pin_entry-returns-else-is_shown t c =
    let h = then_is _ _ _ _ c.requires c.in-Mod.is in
    goes_same c.args.room (trace_of c.args.found.now)
    _ _ _ (hidden_mod _ _ _ _ (links.pin met c.in-Mod.part) _ h c.is_shown.ensures c.if-is_shown.false ∙ ap pin_first (sym h))
    c.in_ok-spend-in-Mod.ensures

pub pin_entry-returns-then-is_shown-2 : goal.pin_entry-returns-then-is_shown-2
pin_entry-returns-then-is_shown-2 t c =
    let h = then_is _ _ _ _ c.requires c.in-Mty.is in
    walk_same c.pin_shape-then-is_shown-2.result c.args.room _ _ _ _
    (shown_mty _ _ _ _ (links.pin met c.in-Mty.part) _ h c.is_shown-in-Mty.ensures c.if-is_shown-2.true ∙ ap pin_first (sym h))
    (walk_then c.pin_shape-then-is_shown-2.result c.args.room (trace_of c.args.found.now)
    (trace_of c.spend-in-Mty.new.found) _ _ _ c.in_ok-spend-in-Mty.ensures c.pin_shape-then-is_shown-2.ensures)

pub pin_entry-returns-else-is_shown-2 : goal.pin_entry-returns-else-is_shown-2
pin_entry-returns-else-is_shown-2 t c =
    let h = then_is _ _ _ _ c.requires c.in-Mty.is in
    goes_same c.args.room (trace_of c.args.found.now)
    _ _ _ (hidden_mty _ _ _ _ (links.pin met c.in-Mty.part) _ h c.is_shown-in-Mty.ensures c.if-is_shown-2.false ∙ ap pin_first (sym h))
    c.in_ok-spend-in-Mty.ensures

pub pin_option-returns-in-None : goal.pin_option-returns-in-None
pin_option-returns-in-None t c =
    walk_done c.args.room (trace_of c.args.found.now) _ (ap (λ o. pin_part (option_copied o)) c.in-None.is)

pub pin_shape-returns-in_err-spend : goal.pin_shape-returns-in_err-spend
pin_shape-returns-in_err-spend t c =
    left c.from_residual.result _ c.args.room _ _ _ c.from_residual.ensures.0 c.from_residual.ensures.1
    (pin_stops_first _ c.args.room _ _ c.args.shape.now c.in_err-spend.ensures)

pub pin_shape-returns-in_err-pin_entries : goal.pin_shape-returns-in_err-pin_entries
pin_shape-returns-in_err-pin_entries t c =
    left c.from_residual-in_err-pin_entries.result _ c.args.room _ _ _ c.from_residual-in_err-pin_entries.ensures.0
    c.from_residual-in_err-pin_entries.ensures.1
    (pin_stops_list _ c.args.room (trace_of c.args.found.now) (trace_of c.spend.new.found) _ c.args.shape.now c.in_ok-spend.ensures
    c.in_err-pin_entries.ensures)

pub pin_shape-returns-in_err-pin_option : goal.pin_shape-returns-in_err-pin_option
pin_shape-returns-in_err-pin_option t c =
    left c.from_residual-in_err-pin_option.result _ c.args.room _ _ _ c.from_residual-in_err-pin_option.ensures.0
    c.from_residual-in_err-pin_option.ensures.1
    (pin_stops_param _ c.args.room (trace_of c.args.found.now) (trace_of c.spend.new.found) (trace_of c.pin_entries.new.found) _ c.args.shape.now
    _ c.param.ensures c.in_ok-spend.ensures c.in_ok-pin_entries.ensures c.in_err-pin_option.ensures)

pub pin_shape-returns : goal.pin_shape-returns
pin_shape-returns t c =
    pin_walks c.pin_option-2.result c.args.room (trace_of c.args.found.now) (trace_of c.spend.new.found) (trace_of c.pin_entries.new.found)
    (trace_of c.pin_option.new.found) _ c.args.shape.now _ _
    c.param.ensures c.result.ensures c.in_ok-spend.ensures c.in_ok-pin_entries.ensures c.in_ok-pin_option.ensures c.pin_option-2.ensures
