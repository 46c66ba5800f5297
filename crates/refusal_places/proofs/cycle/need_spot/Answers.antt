use Rattle.std.proofs.Common.{List, map, ap, sym, ◌∙◌}
use Rattle.std.proofs.lemmas.List.{drop_all}
use Rattle.refusal_words.specs.Cut.{view_cut}
use Rattle.refusal_words.specs.declared.cut.CutSource.{CutSource}
use Rattle.refusal_places.specs.Circle.{user_of}
use Rattle.refusal_places.specs.Heads.{cut_heads}
use Rattle.refusal_places.proofs.Needing.{spot_none, user_none}
use Rattle.refusal_places.proofs.cycle.need_spot.Goals as goal

pub returns : goal.returns
returns c =
    let cuts = map view_cut c.args.cuts.now in
    let unit = c.args.unit.now in
    let name = c.args.name.now in
    let left = c.loop-cut.left.now in
    spot_none (user_of (map cut_heads cuts) cuts unit name) name c.no_spot-2.result
    (sym c.loop-cut.invariant
    ∙ ap (λ (l : List CutSource). user_of left (map view_cut l) unit name) (drop_all c.loop-cut.cut-index c.args.cuts.now c.loop-cut-test.false)
    ∙ user_none left unit name)
    c.no_spot-2.ensures
