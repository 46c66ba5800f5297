use Rattle.std.proofs.Common.{sym, ◌∙◌}
use Rattle.shape_core.proofs.Telling.{len_of, at_entry, by_name, tells_val, tells_mod, tells_mty, tells_dark}
use Rattle.shape_core.proofs.index.Tables.note.Goals as goal

pub returns-in_ok-spot-in-Val-clause-noted : goal.returns-in_ok-spot-in-Val-clause-noted
returns-in_ok-spot-in-Val-clause-noted c list k t =
    let put = by_name c.args.self.now.vals c.put.new.self _ c.in-Val.x _ c.as_bytes.ensures c.in_ok-spot-in-Val.ensures.put in
    at_entry _ list _ c.args.entry.now (sym c.in-Val.is)
    (tells_val c.args.self.now.vals c.put.new.self _ _ _ list c.in-Val.x c.in-Val.goal _ _ k (c.len.ensures ∙ len_of c.args.self.now.darks) put t)

pub returns-in_ok-position-in-Mod-clause-noted : goal.returns-in_ok-position-in-Mod-clause-noted
returns-in_ok-position-in-Mod-clause-noted c list k t =
    let put = by_name c.args.self.now.mods c.put-in-Mod.new.self _ c.in-Mod.x _ c.as_bytes-in-Mod.ensures c.in_ok-position-in-Mod.ensures.put in
    at_entry _ list _ c.args.entry.now (sym c.in-Mod.is)
    (tells_mod _ c.args.self.now.mods c.put-in-Mod.new.self _ _ list c.in-Mod.x c.in-Mod.field-1 _ k put t)

pub returns-in_ok-position-in-Mty-clause-noted : goal.returns-in_ok-position-in-Mty-clause-noted
returns-in_ok-position-in-Mty-clause-noted c list k t =
    let put = by_name c.args.self.now.mtys c.put-in-Mty.new.self _ c.in-Mty.x _ c.as_bytes-in-Mty.ensures c.in_ok-position-in-Mty.ensures.put in
    at_entry _ list _ c.args.entry.now (sym c.in-Mty.is)
    (tells_mty _ _ c.args.self.now.mtys c.put-in-Mty.new.self _ list c.in-Mty.x c.in-Mty.field-1 _ k put t)

pub returns-in_ok-push-in-Dark-clause-noted : goal.returns-in_ok-push-in-Dark-clause-noted
returns-in_ok-push-in-Dark-clause-noted c list k t =
    at_entry _ list _ c.args.entry.now (sym c.in-Dark.is)
    (tells_dark _ _ _ c.args.self.now.darks c.push.new.self list c.in-Dark.at c.in_ok-push-in-Dark.ensures.items t)
