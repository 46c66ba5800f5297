use Rattle.std.proofs.Common.{◌∙◌, sym}
use Rattle.shape_core.specs.Parts.{opened_list}
use Rattle.shape_core.proofs.Both.{seen_if_later}
use Rattle.shape_core.proofs.part.Part.seen.Goals as goal

pub returns-then-is_some : goal.returns-then-is_some
returns-then-is_some c =
    let p = c.args.self.now in
    seen_if_later p.own (opened_list p.opened) c.args.name.now c.seen-seen.result (sym c.is_some.ensures ∙ c.if-is_some.true) c.seen-seen.ensures
