use Rattle.std.proofs.Common.{◌≡◌, sym, ap, ◌∙◌, subst}
use Rattle.std.specs.List.{find}
use Rattle.text_places.specs.declared.walk.Stop.{Stop}
use Rattle.text_places.specs.Marks.{marks, names}
use Rattle.text_places.specs.Stops.{IsWithin, marks_at}
use Rattle.text_places.proofs.Walks.{within_behind, marks_at_next, find_on}
use Rattle.text_places.proofs.walk.offset_of.Goals as goal

pub loop-front-preserved : goal.loop-front-preserved
loop-front-preserved c =
    let front = c.in-Some.front in
    let stop = c.loop-front.stop in
    let told = c.in-Some.ensures in
    let P : Stop → Type 0 = λ s.
    IsWithin c.args.bytes.now s
    × (find (names c.args.position) (marks c.args.counting c.args.bytes.now)
    ≡ find (names c.args.position) (marks_at c.args.counting c.args.bytes.now s)) in
    subst P (sym c.stop_behind-stop.ensures) (
      within_behind c.args.counting c.args.bytes.now stop front c.loop-front.invariant.0 told.some told.within told.narrow,
      c.loop-front.invariant.1
          ∙ ap (find (names c.args.position)) (marks_at_next c.args.counting c.args.bytes.now stop front told.front told.some told.within)
          ∙ find_on c.args.position _ _ (sym c.names_here.ensures ∙ c.if-names_here.false),
    )
