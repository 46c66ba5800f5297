use Rattle.std.proofs.Common.{◌≡◌, ◌+◌, arith}
use Rattle.token_reading.specs.Tokens.{from}
use Rattle.parse_module.proofs.Rows.{of_type}
use Rattle.parse_module.proofs.readers.Readers.module_type_of.Goals as goal

pub returns : goal.returns
returns g c =
    let behind : c.args.at + 1 + 1 ≡ c.args.at + 2 = omega arith in
    rw (
      c.has_fixed.ensures.there c.if-not-has_fixed.false,
      of_type c.args.self.now.parts.depth (c.args.at + 1)
          (from c.args.tokens.now (c.args.at + 1 + 1)),
      behind,
    )
    c.type_of.ensures
