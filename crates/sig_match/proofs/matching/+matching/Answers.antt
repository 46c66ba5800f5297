use Rattle.std.proofs.Common.{arith, ap, sym, ◌∙◌, ◌+◌}
use Rattle.std.specs.Prelude.{option_copied}
use Rattle.shape_core.specs.declared.shared.SharedEntry.TheVariants as e
use Rattle.shape_core.specs.Shape.{entries_in, entries_from, find_mod, find_mty}
use Rattle.shape_core.specs.Links as links
use Rattle.sig_match.specs.Walk.{met, trace_of}
use Rattle.sig_match.proofs.Walks.{left, walk_then, walk_done, walk_stops, loop_stops, loop_turns, loop_ends}
use Rattle.sig_match.proofs.Firsts.{from_in, end_in, match_rest, match_over, then_is}
use Rattle.sig_match.proofs.FirstWalks.{target_mod_stops, target_mty_stops, target_dark_stops, target_mod_walks, target_mty_walks, target_mod_hidden}
use Rattle.sig_match.proofs.FirstWalks.{target_mty_hidden, target_dark_walks, no_source, no_target}
use Rattle.sig_match.proofs.MatchWalks.{pins_stop, pins_walk, match_stops_first, match_stops_list, match_stops_params, match_walks}
use Rattle.sig_match.proofs.Depths.{mod_below, mty_below, found_mod, found_mty}
use Rattle.sig_match.proofs.matching.+matching.Goals as goal

pub match_both-returns-in_err-spend : goal.match_both-returns-in_err-spend
match_both-returns-in_err-spend t c =
    left c.from_residual.result _ c.args.room _ _ _ c.from_residual.ensures.0 c.from_residual.ensures.1
    (match_stops_first _ c.args.room _ _ c.args.src.now c.args.tgt.now c.in_err-spend.ensures)

pub match_both-returns-in_err-pin_shape : goal.match_both-returns-in_err-pin_shape
match_both-returns-in_err-pin_shape t c =
    left c.from_residual-in_err-pin_shape.result _ c.args.room _ _ _ c.from_residual-in_err-pin_shape.ensures.0
    c.from_residual-in_err-pin_shape.ensures.1
    (pins_stop _ c.args.room (trace_of c.args.found.now) (trace_of c.spend.new.found) _ c.args.src.now c.args.tgt.now
    (sym c.have_one_kind.ensures ∙ c.if-not-have_one_kind.true) c.in_ok-spend.ensures c.in_err-pin_shape.ensures)

pub match_both-returns-then-not-have_one_kind : goal.match_both-returns-then-not-have_one_kind
match_both-returns-then-not-have_one_kind t c =
    pins_walk c.pin_shape-then-not-have_one_kind.result c.args.room (trace_of c.args.found.now) (trace_of c.spend.new.found)
    (trace_of c.pin_shape.new.found) _ c.args.src.now c.args.tgt.now
    (sym c.have_one_kind.ensures ∙ c.if-not-have_one_kind.true) c.in_ok-spend.ensures c.in_ok-pin_shape.ensures
    c.pin_shape-then-not-have_one_kind.ensures

pub match_both-returns-in_err-match_entries : goal.match_both-returns-in_err-match_entries
match_both-returns-in_err-match_entries t c =
    left c.from_residual-in_err-match_entries.result _ c.args.room _ _ _ c.from_residual-in_err-match_entries.ensures.0
    c.from_residual-in_err-match_entries.ensures.1
    (match_stops_list _ c.args.room (trace_of c.args.found.now) (trace_of c.spend.new.found) _ c.args.src.now c.args.tgt.now
    (sym c.have_one_kind.ensures ∙ c.if-not-have_one_kind.false) c.in_ok-spend.ensures c.in_err-match_entries.ensures)

pub match_both-returns-in_err-match_options : goal.match_both-returns-in_err-match_options
match_both-returns-in_err-match_options t c =
    left c.from_residual-in_err-match_options.result _ c.args.room _ _ _ c.from_residual-in_err-match_options.ensures.0
    c.from_residual-in_err-match_options.ensures.1
    (match_stops_params _ c.args.room (trace_of c.args.found.now) (trace_of c.spend.new.found) (trace_of c.match_entries.new.found) _ c.args.src.now
    c.args.tgt.now (option_copied c.param.result) (option_copied c.param-2.result)
    (sym c.have_one_kind.ensures ∙ c.if-not-have_one_kind.false) c.param.ensures c.param-2.ensures c.in_ok-spend.ensures c.in_ok-match_entries.ensures
    c.in_err-match_options.ensures)

pub match_both-returns : goal.match_both-returns
match_both-returns t c =
    match_walks c.match_options-2.result c.args.room (trace_of c.args.found.now) (trace_of c.spend.new.found) (trace_of c.match_entries.new.found)
    (trace_of c.match_options.new.found) _ c.args.src.now c.args.tgt.now
    (option_copied c.param.result) (option_copied c.param-2.result) (option_copied c.result.result) (option_copied c.result-2.result)
    (sym c.have_one_kind.ensures ∙ c.if-not-have_one_kind.false) c.param.ensures c.param-2.ensures c.result.ensures c.result-2.ensures
    c.in_ok-spend.ensures c.in_ok-match_entries.ensures c.in_ok-match_options.ensures c.match_options-2.ensures

pub match_entries-match_entry-requires : goal.match_entries-match_entry-requires
match_entries-match_entry-requires t c = (
  omega (arith, c.decreases),
  (
    c.requires,
    from_in c.entries-list.result.now (entries_in c.args.tgt.now) c.loop-at.at c.index-list-at.result c.entries-list.ensures
        c.loop-at-test.true c.index-list-at.is,
  ),
)

pub match_entries-returns-in_err-match_entry : goal.match_entries-returns-in_err-match_entry
match_entries-returns-in_err-match_entry t c =
    let src = entries_in c.args.src.now in
    let es = entries_in c.args.tgt.now in
    let at = c.loop-at.at in
    left c.from_residual.result _ c.args.room _ _ _ c.from_residual.ensures.0 c.from_residual.ensures.1
    (loop_stops _ c.args.room (trace_of c.args.found.now) (trace_of c.loop-at.found) _ _ _ _ _ c.loop-at.invariant
    (match_rest src (entries_from at es) (entries_from (at + 1) es) c.index-list-at.result
    (from_in c.entries-list.result.now es at c.index-list-at.result c.entries-list.ensures c.loop-at-test.true c.index-list-at.is))
    c.in_err-match_entry.ensures)

pub match_entries-loop-at-preserved : goal.match_entries-loop-at-preserved
match_entries-loop-at-preserved t c =
    let src = entries_in c.args.src.now in
    let es = entries_in c.args.tgt.now in
    let at = c.loop-at.at in
    loop_turns c.args.room (trace_of c.args.found.now) (trace_of c.loop-at.found) (trace_of c.match_entry.new.found) _ _ _ _ c.loop-at.invariant
    (match_rest src (entries_from at es) (entries_from (at + 1) es) c.index-list-at.result
    (from_in c.entries-list.result.now es at c.index-list-at.result c.entries-list.ensures c.loop-at-test.true c.index-list-at.is))
    c.in_ok-match_entry.ensures

pub match_entries-returns : goal.match_entries-returns
match_entries-returns t c =
    let src = entries_in c.args.src.now in
    let es = entries_in c.args.tgt.now in
    loop_ends c.args.room (trace_of c.args.found.now) (trace_of c.loop-at.found) _ _ c.loop-at.invariant
    (match_over src (entries_from c.loop-at.at es) (end_in c.entries-list.result.now es c.loop-at.at c.entries-list.ensures c.loop-at-test.false))

pub match_entry-returns-in_err-spend-in-Mod : goal.match_entry-returns-in_err-spend-in-Mod
match_entry-returns-in_err-spend-in-Mod t c =
    left c.from_residual.result _ c.args.room _ _ _ c.from_residual.ensures.0 c.from_residual.ensures.1
    (target_mod_stops _ c.args.room (trace_of c.args.found.now) (trace_of c.spend.new.found) (entries_in c.args.src.now)
    (entries_from c.args.at (entries_in c.args.tgt.now)) (entries_from (c.args.at + 1) (entries_in c.args.tgt.now)) c.in-Mod.x c.in-Mod.target
    (then_is _ _ c.args.entry.now (e.Mod c.in-Mod.x c.in-Mod.target) c.requires.entry c.in-Mod.is) c.in_err-spend-in-Mod.ensures)

pub match_entry-returns-in_err-spend-in-Mty : goal.match_entry-returns-in_err-spend-in-Mty
match_entry-returns-in_err-spend-in-Mty t c =
    left c.from_residual-in_err-spend-in-Mty.result _ c.args.room _ _ _ c.from_residual-in_err-spend-in-Mty.ensures.0
    c.from_residual-in_err-spend-in-Mty.ensures.1
    (target_mty_stops _ c.args.room (trace_of c.args.found.now) (trace_of c.spend-in-Mty.new.found) (entries_in c.args.src.now)
    (entries_from c.args.at (entries_in c.args.tgt.now)) (entries_from (c.args.at + 1) (entries_in c.args.tgt.now)) c.in-Mty.x c.in-Mty.target
    (then_is _ _ c.args.entry.now (e.Mty c.in-Mty.x c.in-Mty.target) c.requires.entry c.in-Mty.is) c.in_err-spend-in-Mty.ensures)

pub match_entry-returns-in_err-spend-in-Dark : goal.match_entry-returns-in_err-spend-in-Dark
match_entry-returns-in_err-spend-in-Dark t c =
    left c.from_residual-in_err-spend-in-Dark.result _ c.args.room _ _ _ c.from_residual-in_err-spend-in-Dark.ensures.0
    c.from_residual-in_err-spend-in-Dark.ensures.1
    (target_dark_stops _ c.args.room (trace_of c.args.found.now) (trace_of c.spend-in-Dark.new.found) (entries_in c.args.src.now)
    (entries_from c.args.at (entries_in c.args.tgt.now)) (entries_from (c.args.at + 1) (entries_in c.args.tgt.now)) c.in-Dark.field-0
    (then_is _ _ c.args.entry.now (e.Dark c.in-Dark.field-0) c.requires.entry c.in-Dark.is) c.in_err-spend-in-Dark.ensures)

pub match_entry-match_both-requires : goal.match_entry-match_both-requires
match_entry-match_both-requires t c =
    let k = mod_below c.args.tgt.now c.args.at c.in-Mod.x c.in-Mod.target
    _ (then_is _ _ c.args.entry.now (e.Mod c.in-Mod.x c.in-Mod.target) c.requires.entry c.in-Mod.is) in
    let m = found_mod c.args.src.now c.part_or-source.result.now _ _ c.mod_of.ensures c.part_or-source.ensures in
    (omega (arith, k, m, c.decreases), c.requires.empty)

pub match_entry-match_ways-requires : goal.match_entry-match_ways-requires
match_entry-match_ways-requires t c =
    let k = mty_below c.args.tgt.now c.args.at c.in-Mty.x c.in-Mty.target
    _ (then_is _ _ c.args.entry.now (e.Mty c.in-Mty.x c.in-Mty.target) c.requires.entry c.in-Mty.is) in
    let m = found_mty c.args.src.now c.part_or-source-then-is_shown-2.result.now _ _ c.mty_of.ensures c.part_or-source-then-is_shown-2.ensures in
    (omega (arith, k, m, c.decreases), c.requires.empty)

pub match_entry-returns-then-is_shown : goal.match_entry-returns-then-is_shown
match_entry-returns-then-is_shown t c =
    target_mod_walks c.match_both.result c.args.room (trace_of c.args.found.now) (trace_of c.spend.new.found) (trace_of c.match_both.new.found)
    (entries_in c.args.src.now) (entries_from c.args.at (entries_in c.args.tgt.now)) (entries_from (c.args.at + 1) (entries_in c.args.tgt.now))
    c.in-Mod.x c.part_or-source.result.now c.in-Mod.target c.is_shown.result
    (then_is _ _ c.args.entry.now (e.Mod c.in-Mod.x c.in-Mod.target) c.requires.entry c.in-Mod.is) c.is_shown.ensures c.if-is_shown.true
    (c.part_or-source.ensures ∙ ap links.or_empty (c.mod_of.ensures ∙ ap (find_mod (entries_in c.args.src.now)) c.as_bytes.ensures))
    c.in_ok-spend-in-Mod.ensures c.match_both.ensures

pub match_entry-returns-else-is_shown : goal.match_entry-returns-else-is_shown
match_entry-returns-else-is_shown t c =
    target_mod_hidden c.args.room (trace_of c.args.found.now) (trace_of c.spend.new.found) (entries_in c.args.src.now)
    (entries_from c.args.at (entries_in c.args.tgt.now)) (entries_from (c.args.at + 1) (entries_in c.args.tgt.now)) c.in-Mod.x c.in-Mod.target
    c.is_shown.result
    (then_is _ _ c.args.entry.now (e.Mod c.in-Mod.x c.in-Mod.target) c.requires.entry c.in-Mod.is) c.is_shown.ensures c.if-is_shown.false
    c.in_ok-spend-in-Mod.ensures

pub match_entry-returns-then-is_shown-2 : goal.match_entry-returns-then-is_shown-2
match_entry-returns-then-is_shown-2 t c =
    target_mty_walks c.match_ways.result c.args.room (trace_of c.args.found.now) (trace_of c.spend-in-Mty.new.found) (trace_of c.match_ways.new.found)
    (entries_in c.args.src.now) (entries_from c.args.at (entries_in c.args.tgt.now)) (entries_from (c.args.at + 1) (entries_in c.args.tgt.now))
    c.in-Mty.x c.part_or-source-then-is_shown-2.result.now c.in-Mty.target c.is_shown-in-Mty.result
    (then_is _ _ c.args.entry.now (e.Mty c.in-Mty.x c.in-Mty.target) c.requires.entry c.in-Mty.is) c.is_shown-in-Mty.ensures c.if-is_shown-2.true
    (c.part_or-source-then-is_shown-2.ensures
    ∙ ap links.or_empty (c.mty_of.ensures ∙ ap (find_mty (entries_in c.args.src.now)) c.as_bytes-then-is_shown-2.ensures))
    c.in_ok-spend-in-Mty.ensures c.match_ways.ensures

pub match_entry-returns-else-is_shown-2 : goal.match_entry-returns-else-is_shown-2
match_entry-returns-else-is_shown-2 t c =
    target_mty_hidden c.args.room (trace_of c.args.found.now) (trace_of c.spend-in-Mty.new.found) (entries_in c.args.src.now)
    (entries_from c.args.at (entries_in c.args.tgt.now)) (entries_from (c.args.at + 1) (entries_in c.args.tgt.now)) c.in-Mty.x c.in-Mty.target
    c.is_shown-in-Mty.result
    (then_is _ _ c.args.entry.now (e.Mty c.in-Mty.x c.in-Mty.target) c.requires.entry c.in-Mty.is) c.is_shown-in-Mty.ensures c.if-is_shown-2.false
    c.in_ok-spend-in-Mty.ensures

pub match_entry-returns-in_ok-spend-in-Dark : goal.match_entry-returns-in_ok-spend-in-Dark
match_entry-returns-in_ok-spend-in-Dark t c =
    target_dark_walks c.pin_values.result c.args.room (trace_of c.args.found.now) (trace_of c.spend-in-Dark.new.found)
    (trace_of c.pin_values.new.found) (entries_in c.args.src.now) (entries_from c.args.at (entries_in c.args.tgt.now))
    (entries_from (c.args.at + 1) (entries_in c.args.tgt.now)) c.in-Dark.field-0
    (then_is _ _ c.args.entry.now (e.Dark c.in-Dark.field-0) c.requires.entry c.in-Dark.is) c.in_ok-spend-in-Dark.ensures c.pin_values.ensures

pub match_options-returns-in-None-tgt : goal.match_options-returns-in-None-tgt
match_options-returns-in-None-tgt t c =
    walk_done c.args.room (trace_of c.args.found.now)
    _ (no_target (option_copied c.args.src) (option_copied c.args.tgt) (ap option_copied c.in-None-tgt.is))

pub match_options-returns-in-None : goal.match_options-returns-in-None
match_options-returns-in-None t c =
    walk_done c.args.room (trace_of c.args.found.now)
    _ (no_source (option_copied c.args.src) (option_copied c.args.tgt) (ap option_copied c.in-None.is))

pub match_ways-returns-in_err-match_both : goal.match_ways-returns-in_err-match_both
match_ways-returns-in_err-match_both t c =
    left c.from_residual.result _ c.args.room _ _ _ c.from_residual.ensures.0 c.from_residual.ensures.1
    (walk_stops _ c.args.room (trace_of c.args.found.now) (trace_of c.match_both.new.found) (trace_of c.match_both.new.found)
    (links.matched met c.args.src.now c.args.tgt.now) (links.matched met c.args.tgt.now c.args.src.now) c.in_err-match_both.ensures)

pub match_ways-returns : goal.match_ways-returns
match_ways-returns t c =
    walk_then c.match_both-2.result c.args.room (trace_of c.args.found.now) (trace_of c.match_both.new.found) (trace_of c.match_both-2.new.found)
    (links.matched met c.args.src.now c.args.tgt.now) (links.matched met c.args.tgt.now c.args.src.now)
    c.in_ok-match_both.ensures c.match_both-2.ensures
