use Rattle.std.proofs.Common.{◌≡◌, sym, slice_get, Some, None, arith}
use Rattle.std.proofs.lemmas.Grind.{common_steps}
use Rattle.std.proofs.lemmas.Option.{slice_get_read, slice_get_past}
use Rattle.shape_core.proofs.Shown.{none_shown}
use Rattle.shape_core.proofs.index.Index.is_shown.Goals as goal

pub returns-in-Some : goal.returns-in-Some
returns-in-Some c =
    let there : slice_get c.args.list.now c.args.at ≡ Some c.in-Some.entry.now = grind (arith, common_steps, slice_get_read) in
    c.is_entry_shown.ensures c.args.list.now c.requires there

pub returns-in-None : goal.returns-in-None
returns-in-None c =
    let past : slice_get c.args.list.now c.args.at ≡ None = grind (arith, common_steps, slice_get_past) in
    sym (none_shown c.args.at c.args.list.now past)
