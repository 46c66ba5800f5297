use Rattle.std.proofs.Common.{◌≡◌, ℕ, ◌+◌, sym, subst, List, get_or, Option, Some, bytes_eq, if◌then◌else◌}
use Rattle.std.proofs.lemmas.List.{get_or_default}
use Rattle.rotor_base.specs.declared.place.Place.{Place}
use Rattle.name_tables.specs.Names.{at}
use Rattle.capture_check.specs.declared.fault.Repeat.{Repeat}
use Rattle.capture_check.specs.Firsts.{repeat_of, lesser}
use Rattle.capture_check.specs.Named.{named}
use Rattle.capture_check.proofs.Groups.{Scans, scan_more, scan_end}
use Rattle.capture_check.proofs.repeats.repeat_in.Goals as goal

-- the place of the loop, as its contracts read it
abbrev place_at : List Place → ℕ → Place
place_at group n = get_or group n (record { file = 0; token = 0 })

pub loop-place-preserved : goal.loop-place-preserved
loop-place-preserved c =
    let p : Place = place_at c.args.group.now c.loop-place.place-index in
    let is : p ≡ get_or c.args.group.now c.loop-place.place-index p =
    get_or_default c.args.group.now c.loop-place.place-index _ _ c.loop-place-test.true in
    let F : List ℕ → Type 0 = λ x. c.in_ok-found.found ≡ repeat_of (at c.loop-place.seen x) p in
    let S : List ℕ → Type 0 = λ x. (y : List ℕ)
    → at c.add_place.new.seen y ≡ (if bytes_eq x y then Some (lesser (at c.loop-place.seen x) p) else at c.loop-place.seen y) in
    let G : Option Repeat → Type 0 = Scans (named c.args.names.now) c.args.group.now (c.loop-place.place-index + 1) (at c.add_place.new.seen) in
    subst G (sym c.earlier_repeat-least.ensures)
    (scan_more (named c.args.names.now) c.args.group.now c.loop-place.place-index (at c.loop-place.seen) (at c.add_place.new.seen) c.loop-place.least
    c.in_ok-found.found p c.loop-place-test.true is
    (subst F c.name_at.ensures c.in_ok-found.ensures.found)
    (subst S c.name_at.ensures c.in_ok-found.ensures.seen)
    c.loop-place.invariant)

pub returns : goal.returns
returns c = scan_end (named c.args.names.now) c.args.group.now c.loop-place.place-index c.loop-place.least c.loop-place.auto.place-index-end
    c.loop-place-test.false c.loop-place.invariant.1
