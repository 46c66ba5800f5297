use Rattle.std.proofs.Common.{◌≡◌, ℕ, ◌+◌, ◌≤◌, sym, ◌∙◌, subst, arith}
use Rattle.text_places.specs.declared.walk.Stop.{Stop}
use Rattle.text_places.specs.Marks.{last_upto}
use Rattle.text_places.specs.Stops.{IsWithin, marks_at}
use Rattle.text_places.proofs.Walks.{within_behind, last_next, last_here}
use Rattle.text_places.proofs.walk.go_forward.Goals as goal

pub loop-front-preserved : goal.loop-front-preserved
loop-front-preserved c =
    let front = c.in-Some.front in
    let stop = c.loop-front.stop in
    let told = c.in-Some.ensures in
    let near : stop.at + front.len ≤ c.args.offset = omega arith in
    let P : Stop → Type 0 = λ s.
    IsWithin c.args.bytes.now s × (s.at ≤ c.args.offset)
    × ((later : ℕ) → c.args.offset ≤ later
    → last_upto later c.args.start.here (marks_at c.args.counting c.args.bytes.now c.args.start)
    ≡ last_upto later s.here (marks_at c.args.counting c.args.bytes.now s)) in
    subst P (sym c.stop_behind-stop.ensures) (
      within_behind c.args.counting c.args.bytes.now stop front c.loop-front.invariant.0 told.some told.within told.narrow,
      near,
      λ later le. c.loop-front.invariant.2 later le
          ∙ last_next c.args.counting c.args.bytes.now stop front later told.front told.some told.within (omega arith),
    )

pub returns-then-offset-stop-clause-last : goal.returns-then-offset-stop-clause-last
returns-then-offset-stop-clause-last c =
    let told = c.in-Some.ensures in
    c.loop-front.invariant.2 c.args.offset (omega arith)
    ∙ last_here c.args.counting c.args.bytes.now c.loop-front.stop c.in-Some.front c.args.offset told.front told.some told.within
    c.loop-front.invariant.1 (omega arith)
