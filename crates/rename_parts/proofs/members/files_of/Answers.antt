use Rattle.rename_parts.proofs.Filing.{gathers_more}
use Rattle.rename_parts.proofs.members.files_of.Goals as goal

pub loop-place-preserved : goal.loop-place-preserved
loop-place-preserved c = gathers_more c.args.places.now c.loop-place.place-index _ c.loop-place.set c.insert.new.self c.loop-place-test.true
    c.in_ok-insert.ensures.updates.0 c.loop-place.invariant
