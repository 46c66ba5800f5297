use Rattle.std.proofs.Common.{rules, ◌≡◌, sym, subst, List, AllPairs}
use Rattle.rotor_base.specs.declared.place.Place.{Place}
use Rattle.rotor_base.specs.Place.{IsBefore}
use Rattle.rotor_base.proofs.Places.{all_before}
use Rattle.dependency_kernel.proofs.reached.list_in_order.Goals as goal

pub returns-clause-ordered : goal.returns-clause-ordered
returns-clause-ordered c =
    let same : c.in_ok-collect.field-0.items ≡ c.args.decls.now.keys = search rules in
    let P : List Place → Type 0 = AllPairs IsBefore in
    subst P (sym same) (all_before c.args.decls.now.keys c.iter.ensures.ordered)
