use Rattle.std.proofs.Common.{arith, length, ◌≤◌}
use Rattle.std.proofs.lemmas.Bool.Decides.{leb_tells}
use Rattle.shape_core.specs.Shape.{entries_in}
use Rattle.shape_core.proofs.Opening.{all_entries}
use Rattle.shape_core.proofs.opened.OpenedEntries.are_all.Goals as goal

pub returns : goal.returns
returns c t =
    let o = c.args.self.now in
    let list = c.entries.result.now in
    let within : length list ≤ o.len = grind (arith, t, leb_tells (length list) o.len) in
    all_entries o.len list (entries_in o.shape) c.entries.ensures within
