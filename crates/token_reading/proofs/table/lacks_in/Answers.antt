use Rattle.std.proofs.Common.{◌≡◌, ap, sym, ◌∙◌, arith, length}
use Rattle.token_reading.specs.Matching.{lacks_in}
use Rattle.token_reading.specs.Table.{entries_from}
use Rattle.token_reading.proofs.Entries.{as_many, lacks_entry}
use Rattle.token_reading.proofs.Places.{from_end}
use Rattle.token_reading.proofs.table.lacks_in.Goals as goal

pub index-requires : goal.index-requires
index-requires c =
    let said : c.tokens.inside.entries.items ≡ entries_from 1 c.args.tokens.now = c.tokens.invariant ∙ ap (entries_from 1) c.tokens.view_is in
    omega (arith, c.tokens.inside.entries.ok.0, ap length said, as_many 1 c.args.tokens.now, c.if-at-len.true, c.len.ensures)

pub returns-then-at-len : goal.returns-then-at-len
returns-then-at-len c =
    lacks_entry c.args.tokens.now c.tokens.inside.entries.items c.args.at c.index.result.now (omega (arith, c.if-at-len.true, c.len.ensures))
    (c.tokens.invariant ∙ ap (entries_from 1) c.tokens.view_is) c.index.ensures

pub returns : goal.returns
returns c = sym (ap lacks_in (from_end c.args.tokens.now c.args.at (omega (arith, c.if-at-len.false, c.len.ensures))))
