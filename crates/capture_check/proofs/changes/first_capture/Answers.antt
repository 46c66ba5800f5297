use Rattle.std.proofs.Common.{◌+◌, sym, subst, Option}
use Rattle.std.specs.Prelude.{slice_get}
use Rattle.rotor_base.specs.declared.place.Ref.{Ref}
use Rattle.capture_check.specs.declared.fault.Change.{Change}
use Rattle.capture_check.specs.Fault.{of_ref}
use Rattle.capture_check.specs.Firsts.{Tells}
use Rattle.capture_check.proofs.Least.{IsBest, best_begin, best_more, best_all, keeps_ref}
use Rattle.capture_check.proofs.changes.first_capture.Goals as goal

pub loop-i-init : goal.loop-i-init
loop-i-init c = best_begin of_ref keeps_ref c.args.old.now c.args.new.now

pub loop-i-preserved : goal.loop-i-preserved
loop-i-preserved c =
    let P : Option Change → Type 0 = IsBest of_ref c.args.old.now c.args.new.now (c.loop-i.i + 1) in
    let O : Option Ref → Type 0 = λ o. Tells of_ref o c.thing_at-in-loop-i.result c.capture.result in
    let N : Option Ref → Type 0 = λ o. Tells of_ref (slice_get c.args.old.now c.loop-i.i) o c.capture.result in
    let told = subst N c.thing_at-in-loop-i.ensures (subst O c.thing_at.ensures c.capture.ensures) in
    subst P (sym c.earlier_change-least.ensures)
    (best_more of_ref keeps_ref c.args.old.now c.args.new.now c.loop-i.i c.loop-i.least c.capture.result told c.loop-i.invariant)

pub returns : goal.returns
returns c = best_all of_ref keeps_ref c.args.old.now c.args.new.now c.loop-i.i c.loop-i.least c.loop-i-test.false c.loop-i.invariant
