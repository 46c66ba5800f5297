use Rattle.std.proofs.Common.{List, [], map, refl, subst, sym, ◌∙◌}
use Rattle.std.proofs.lemmas.List.{append-nil, drop_all}
use Rattle.report.specs.Pieces.{Word}
use Rattle.refusal_words.specs.Cut.{view_cut}
use Rattle.refusal_places.specs.Circle.{AreNeedNotes}
use Rattle.refusal_places.proofs.cycle.need_notes.Goals as goal

pub returns : goal.returns
returns c =
    let cuts = map view_cut c.args.cuts.now in
    let none = sym (drop_all c.loop-name.name-index c.args.names.now c.loop-name-test.false) in
    subst (AreNeedNotes cuts c.args.unit.now c.args.names.now) (append-nil c.loop-name.notes.items ∙ sym c.from_vec.ensures)
    (c.loop-name.invariant [] (subst (λ (l : List Word). AreNeedNotes cuts c.loop-name.user.now l []) none refl))
