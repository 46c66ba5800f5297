use Rattle.std.proofs.Common.{get_or}
use Rattle.std.proofs.lemmas.List.{drop_more}
use Rattle.rotor_base.specs.declared.place.Place.{Place}
use Rattle.capture_check.proofs.Looking.{members_more}
use Rattle.capture_check.proofs.looked.members_of.Goals as goal

pub loop-place-preserved : goal.loop-place-preserved
loop-place-preserved c =
    let default : Place = record { file = 0; token = 0 } in
    members_more c.args.decls.now c.loop-place.place-index (get_or c.args.decls.now c.loop-place.place-index default) c.loop-place.members
    c.insert.new.self
    (drop_more c.args.decls.now c.loop-place.place-index default c.loop-place-test.true) c.in_ok-insert.ensures.updates.0 c.loop-place.invariant
