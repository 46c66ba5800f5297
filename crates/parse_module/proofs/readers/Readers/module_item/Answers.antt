use Rattle.std.proofs.Common.{◌≡◌, ◌+◌, arith}
use Rattle.token_reading.specs.Tokens.{from}
use Rattle.parse_module.proofs.Rows.{item_type}
use Rattle.parse_module.proofs.readers.Readers.module_item.Goals as goal

pub returns-then-has_fixed : goal.returns-then-has_fixed
returns-then-has_fixed g c =
    let d = c.args.self.now.parts.depth in
    let behind : c.args.at + 1 + 1 ≡ c.args.at + 2 = omega arith in
    rw (c.has_fixed.ensures.there c.if-has_fixed.true, item_type d (c.args.at + 1) (from c.args.tokens.now (c.args.at + 1 + 1)), behind)
    c.module_type_item.ensures
