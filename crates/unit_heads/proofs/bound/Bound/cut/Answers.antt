use Rattle.std.proofs.Common.{◌≤◌, ◌++◌, ◌∷◌, [], ap, length, sym, subst, take, ◌∙◌, arith}
use Rattle.std.proofs.lemmas.List.{take-append-le}
use Rattle.unit_heads.specs.Counts.{AreCounts}
use Rattle.unit_heads.proofs.bound.Bound.cut.Goals as goal

pub loop-self-preserved-in-Some : goal.loop-self-preserved-in-Some
loop-self-preserved-in-Some c =
    let len = c.args.len in
    let front = c.pop.new.self.items in
    let split = c.in-Some.ensures.items in
    let enough : len ≤ length front = omega (arith, c.in-Some.ensures.cases, c.loop-self-test.true, c.len.ensures) in
    let kept = sym (take-append-le len front (c.in-Some.name ∷ []) enough) ∙ ap (take len) (sym split) ∙ c.loop-self.invariant.0 in
    let counts = subst (AreCounts c.loop-self.self-inside.counts) (split ∙ ap (λ x. front ++ x ∷ []) (sym c.as_bytes.ensures))
    c.loop-self.invariant.1 in
    (kept, c.take_out.ensures front counts)
