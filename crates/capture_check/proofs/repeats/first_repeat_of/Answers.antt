use Rattle.std.proofs.Common.{◌≡◌, ◌+◌, ◌∷◌, [], sym, subst, List, get_or, Option}
use Rattle.rotor_base.specs.declared.place.Place.{Place}
use Rattle.capture_check.specs.declared.fault.Repeat.{Repeat}
use Rattle.capture_check.specs.Firsts.{IsFirstRepeat}
use Rattle.capture_check.specs.Named.{named}
use Rattle.capture_check.proofs.Twice.{IsBestPair}
use Rattle.capture_check.proofs.Groups.{Below, groups_more, groups_end}
use Rattle.capture_check.proofs.repeats.first_repeat_of.Goals as goal

pub loop-group-preserved : goal.loop-group-preserved
loop-group-preserved c =
    let g : List Place = c.group-item.result in
    let is : g ≡ get_or c.args.groups.now c.loop-group.group-index g = c.group-item.is in
    let F : List Place → Type 0 = λ x. IsFirstRepeat (named c.args.names.now) (x ∷ []) c.in_ok-found.found in
    let G : Option Repeat → Type 0 = IsBestPair (Below (named c.args.names.now) c.args.groups.now (c.loop-group.group-index + 1)) in
    subst G (sym c.earlier_repeat-least.ensures)
    (groups_more (named c.args.names.now) c.args.groups.now c.loop-group.group-index c.loop-group.least c.in_ok-found.found g c.loop-group-test.true
    is
    (subst F c.as_slice.ensures c.in_ok-found.ensures)
    c.loop-group.invariant)

pub returns : goal.returns
returns c = groups_end (named c.args.names.now) c.args.groups.now c.loop-group.group-index c.loop-group.least c.loop-group.auto.group-index-end
    c.loop-group-test.false c.loop-group.invariant
