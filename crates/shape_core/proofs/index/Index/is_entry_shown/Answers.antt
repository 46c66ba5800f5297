use Rattle.std.proofs.Common.{◌∙◌, ap, sym, Some}
use Rattle.name_tables.specs.Names.{at}
use Rattle.shape_core.specs.Index.{position_is, position_of}
use Rattle.shape_core.proofs.Shown.{val_at, shown_val, shown_mod, shown_mty, shown_is}
use Rattle.shape_core.proofs.index.Index.is_entry_shown.Goals as goal

pub returns-in-Val : goal.returns-in-Val
returns-in-Val c list h k =
    let here = k ∙ ap Some c.in-Val.is in
    c.is_spot.ensures
    ∙ ap (position_is c.args.at)
    (ap position_of (c.get.ensures ∙ ap (at c.args.self.now.tables.vals) c.as_bytes.ensures ∙ h.tables.vals c.in-Val.x) ∙ val_at list c.in-Val.x)
    ∙ shown_val list c.args.at c.in-Val.x _ here
    ∙ sym (shown_is c.args.at list _ here)

pub returns-in-Mod : goal.returns-in-Mod
returns-in-Mod c list h k =
    let here = k ∙ ap Some c.in-Mod.is in
    c.is_at.ensures
    ∙ ap (position_is c.args.at) (c.get-in-Mod.ensures ∙ ap (at c.args.self.now.tables.mods) c.as_bytes-in-Mod.ensures ∙ h.tables.mods c.in-Mod.x)
    ∙ shown_mod list c.args.at c.in-Mod.x _ here
    ∙ sym (shown_is c.args.at list _ here)

pub returns-in-Mty : goal.returns-in-Mty
returns-in-Mty c list h k =
    let here = k ∙ ap Some c.in-Mty.is in
    c.is_at-in-Mty.ensures
    ∙ ap (position_is c.args.at) (c.get-in-Mty.ensures ∙ ap (at c.args.self.now.tables.mtys) c.as_bytes-in-Mty.ensures ∙ h.tables.mtys c.in-Mty.x)
    ∙ shown_mty list c.args.at c.in-Mty.x _ here
    ∙ sym (shown_is c.args.at list _ here)

pub returns-in-Dark : goal.returns-in-Dark
returns-in-Dark c list h k = sym (shown_is c.args.at list _ (k ∙ ap Some c.in-Dark.is))
