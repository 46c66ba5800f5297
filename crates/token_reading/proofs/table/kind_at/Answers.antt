use Rattle.std.proofs.Common.{◌≡◌, ap, ◌∙◌, arith, length}
use Rattle.token_reading.specs.Table.{entries_from}
use Rattle.token_reading.proofs.Entries.{as_many, sees_entry, there_entry}
use Rattle.token_reading.proofs.Places.{from_end}
use Rattle.token_reading.proofs.table.kind_at.Goals as goal

pub index-requires : goal.index-requires
index-requires c =
    let said : c.tokens.inside.entries.items ≡ entries_from 1 c.args.tokens.now = c.tokens.invariant ∙ ap (entries_from 1) c.tokens.view_is in
    omega (arith, c.tokens.inside.entries.ok.0, ap length said, as_many 1 c.args.tokens.now, c.if-at-len.true, c.len.ensures)

pub returns-then-at-len-clause-sees : goal.returns-then-at-len-clause-sees
returns-then-at-len-clause-sees c =
    sees_entry c.args.tokens.now c.tokens.inside.entries.items c.args.at c.index.result.now (omega (arith, c.if-at-len.true, c.len.ensures))
    (c.tokens.invariant ∙ ap (entries_from 1) c.tokens.view_is) c.index.ensures

pub returns-then-at-len-clause-there : goal.returns-then-at-len-clause-there
returns-then-at-len-clause-there c =
    there_entry c.args.tokens.now c.tokens.inside.entries.items c.args.at c.index.result.now (omega (arith, c.if-at-len.true, c.len.ensures))
    (c.tokens.invariant ∙ ap (entries_from 1) c.tokens.view_is) c.index.ensures

pub returns-clause-sees : goal.returns-clause-sees
returns-clause-sees c = from_end c.args.tokens.now c.args.at (omega (arith, c.if-at-len.false, c.len.ensures))
