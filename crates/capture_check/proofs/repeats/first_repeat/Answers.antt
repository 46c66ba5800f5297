use Rattle.std.proofs.Common.{ℕ, List, [], ap, cond}
use Rattle.std.specs.BTreeMap.{is_at}
use Rattle.std.specs.BTreeSet.{contains}
use Rattle.std.specs.List.{list_any}
use Rattle.rotor_base.specs.declared.place.Place.{Place}
use Rattle.rotor_base.specs.Place.{place_cmp}
use Rattle.value_places.specs.Placed.{name_in}
use Rattle.capture_check.proofs.Faults.{first_ok}
use Rattle.capture_check.proofs.repeats.first_repeat.Goals as goal

-- no binder has a new name
pub returns : goal.returns
returns c =
    let own : Place → List ℕ = name_in c.args.placed.now in
    let names : Place → List ℕ = λ d. cond (contains place_cmp c.new-none.result d) [] (own d) in
    first_ok names own c.args.groups.now
    (λ g d i j. ap (λ (ps : List Place). cond (list_any (is_at (place_cmp d)) ps) [] (own d)) c.new-none.ensures.empty)
    c.first_repeat_of.result c.first_repeat_of.ensures
