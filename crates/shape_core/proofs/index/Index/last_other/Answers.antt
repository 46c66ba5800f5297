use Rattle.std.proofs.Common.{◌∙◌, ap, length, subst, sym}
use Rattle.shape_core.proofs.Others.{Backwards, earlier, goes_back, no_other, other_found}
use Rattle.shape_core.proofs.Telling.{len_of}
use Rattle.shape_core.proofs.index.Index.last_other.Goals as goal

pub loop-last-smaller : goal.loop-last-smaller
loop-last-smaller c =
    earlier c.args.name.now c.args.set.now c.args.list.now c.loop-last.left c.in-Some.spot
    (subst (Backwards c.args.name.now c.args.set.now c.args.list.now c.loop-last.left) c.in-Some.is c.loop-last.invariant)

pub loop-last-preserved : goal.loop-last-preserved
loop-last-preserved c =
    goes_back c.args.name.now c.args.set.now c.args.list.now c.loop-last.left c.in-Some.spot c.args.self.now.befores.items
    c.spot_before-last.result
    (subst (Backwards c.args.name.now c.args.set.now c.args.list.now c.loop-last.left) c.in-Some.is c.loop-last.invariant) c.requires.befores
    (λ places has. sym c.if-not-is_among.false ∙ c.is_among.ensures places has) c.spot_before-last.ensures

pub returns-then-not-is_among : goal.returns-then-not-is_among
returns-then-not-is_among c =
    other_found c.args.name.now c.args.set.now c.args.list.now c.loop-last.left c.in-Some.spot c.place_of.result c.len.result
    c.saturating_sub-after.result
    (subst (Backwards c.args.name.now c.args.set.now c.args.list.now c.loop-last.left) c.in-Some.is c.loop-last.invariant)
    (λ places has. sym c.if-not-is_among.true ∙ c.is_among.ensures places has) c.place_of.ensures
    (c.len.ensures ∙ len_of c.args.self.now.tables.darks ∙ ap length c.requires.tables.darks) c.saturating_sub-after.ensures

pub returns : goal.returns
returns c =
    no_other c.args.name.now c.args.set.now c.args.list.now c.loop-last.left c.loop-last.last c.loop-last.invariant c.in_default.not-Some
