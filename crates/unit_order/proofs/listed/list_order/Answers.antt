use Rattle.std.proofs.Common.{◌<◌, ◌++◌, All, filter, length, ap, sym, subst}
use Rattle.std.specs.Str.Lines.{lines}
use Rattle.std.proofs.lemmas.List.Elements.{All-nil}
use Rattle.unit_order.specs.Order.{is_filled}
use Rattle.unit_order.specs.Positions.{views, names_at}
use Rattle.unit_order.proofs.Named.{listed_named}
use Rattle.unit_order.proofs.listed.list_order.Goals as goal

pub loop-line-init : goal.loop-line-init
loop-line-init c = record {
  named = listed_named c.args.units.now c.args.manifest.now c.requires.listed;
  order = ap (λ order. names_at (views c.args.units.now) order ++ filter is_filled (lines c.args.manifest.now)) c.new-order.ensures.items;
  inside = subst (All (λ at. at < length c.args.units.now)) (sym c.new-order.ensures.items) (All-nil (λ at. at < length c.args.units.now));
}
