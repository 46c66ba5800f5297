use Rattle.std.proofs.Common.{map, subst}
use Rattle.report.specs.Pieces.{Word}
use Rattle.refusal_words.specs.Cut.{view_cut}
use Rattle.refusal_places.specs.Circle.{AreNeedNotes, IsNeedSpot}
use Rattle.refusal_places.proofs.Needing.{chain_said}
use Rattle.refusal_places.proofs.cycle.chain_message.Goals as goal

pub returns : goal.returns
returns c =
    let cuts = map view_cut c.args.cuts.now in
    let unit = c.args.unit.now in
    let names = c.args.rest.now in
    chain_said cuts unit c.args.first.now names c.args.sources.now c.in_ok-at.at c.in_ok-notes.notes c.circle_message.result c.requires.heads
    c.requires.circle
    (subst (λ (n : Word). IsNeedSpot cuts unit n c.in_ok-at.at) c.as_bytes.ensures c.in_ok-at.ensures)
    (subst (λ (n : Word). AreNeedNotes cuts n names c.in_ok-notes.notes) c.as_bytes-2.ensures c.in_ok-notes.ensures)
    c.circle_message.ensures
