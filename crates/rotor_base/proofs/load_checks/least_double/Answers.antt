use Rattle.std.proofs.Common.{◌≡◌, ◌∷◌, ◌+◌, ◌-◌, drop, arith, sym, ◌∙◌}
use Rattle.std.proofs.lemmas.List.{drop_more}
use Rattle.rotor_base.proofs.Twins.{Stepped, body_step, face_step, least_twin, least_alone}
use Rattle.rotor_base.proofs.load_checks.least_double.Goals as goal
use Rattle.rotor_base.proofs.load_checks.least_double.Goals.{then-unit+in_ok-is_new, else-unit+in_ok-is_new-2}

pub loop-at-preserved-then-not-is_new : goal.loop-at-preserved-then-not-is_new
loop-at-preserved-then-not-is_new c =
    let us = c.args.units.now in
    let at = c.loop-at.at in
    let inv = c.loop-at.invariant in
    let u = c.index-units-at.result in
    let key = c.as_bytes-name.result in
    let named = c.as_bytes-name.ensures in
    let next : at - 1 + 1 ≡ at = omega (arith, c.loop-at-test.true) in
    let more : drop (at - 1) us ≡ u ∷ drop at us = drop_more us (at - 1) u (omega (arith, c.loop-at-test.true, c.loop-at.auto.at))
    ∙ (λ i. sym c.index-units-at.is i ∷ drop (next i) us) in
    let stepped : Stepped c.if-unit.bodies c.if-unit.faces u (drop at us) c.if-unit.is_new = elim c.if-unit.branch [
      | then-unit+in_ok-is_new w ↦ let done = w.in_ok-is_new.ensures in rw (w.bodies-is, w.faces-is, w.is_new-is)
          (body_step c.loop-at.bodies w.insert.new.self c.loop-at.faces key u (drop at us) w.in_ok-is_new.is_new w.if-unit.true named
          done.updates.0 done.added inv.bodies inv.faces)
      | else-unit+in_ok-is_new-2 w ↦ let done = w.in_ok-is_new-2.ensures in rw (w.bodies-is, w.faces-is, w.is_new-is)
          (face_step c.loop-at.faces w.insert-else-unit.new.self c.loop-at.bodies key u (drop at us) w.in_ok-is_new-2.is_new w.if-unit.false named
          done.updates.0 done.added inv.faces inv.bodies)
    ] in
    record {
      bodies = rw (more) (stepped.0);
      faces = rw (more) (stepped.1);
      least = rw (more) (least_twin u (drop at us) c.if-unit.is_new stepped.2 c.if-not-is_new.true _ _ key.now named c.lesser_of.ensures inv.least);
    }

pub loop-at-preserved : goal.loop-at-preserved
loop-at-preserved c =
    let us = c.args.units.now in
    let at = c.loop-at.at in
    let inv = c.loop-at.invariant in
    let u = c.index-units-at.result in
    let key = c.as_bytes-name.result in
    let named = c.as_bytes-name.ensures in
    let next : at - 1 + 1 ≡ at = omega (arith, c.loop-at-test.true) in
    let more : drop (at - 1) us ≡ u ∷ drop at us = drop_more us (at - 1) u (omega (arith, c.loop-at-test.true, c.loop-at.auto.at))
    ∙ (λ i. sym c.index-units-at.is i ∷ drop (next i) us) in
    let stepped : Stepped c.if-unit.bodies c.if-unit.faces u (drop at us) c.if-unit.is_new = elim c.if-unit.branch [
      | then-unit+in_ok-is_new w ↦ let done = w.in_ok-is_new.ensures in rw (w.bodies-is, w.faces-is, w.is_new-is)
          (body_step c.loop-at.bodies w.insert.new.self c.loop-at.faces key u (drop at us) w.in_ok-is_new.is_new w.if-unit.true named
          done.updates.0 done.added inv.bodies inv.faces)
      | else-unit+in_ok-is_new-2 w ↦ let done = w.in_ok-is_new-2.ensures in rw (w.bodies-is, w.faces-is, w.is_new-is)
          (face_step c.loop-at.faces w.insert-else-unit.new.self c.loop-at.bodies key u (drop at us) w.in_ok-is_new-2.is_new w.if-unit.false named
          done.updates.0 done.added inv.faces inv.bodies)
    ] in
    record {
      bodies = rw (more) (stepped.0);
      faces = rw (more) (stepped.1);
      least = rw (more) (least_alone u (drop at us) c.if-unit.is_new stepped.2 c.if-not-is_new.false _ inv.least);
    }
