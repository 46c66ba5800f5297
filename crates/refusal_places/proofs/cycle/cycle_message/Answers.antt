use Rattle.std.proofs.Common.{◌≡◌, ◌<◌, List, [], ◌∷◌, length, refl, subst, sym, ◌∙◌, arith}
use Rattle.need_chains.specs.Chains.{IsCircle}
use Rattle.need_chains.proofs.Leading.{circle_has_units}
use Rattle.refusal_places.proofs.cycle.cycle_message.Goals as goal

none_below : {A : Type 0} (xs : List A) → length xs < 1 → xs ≡ []
none_below [] h = refl
none_below (x ∷ xs) h = absurd (omega arith)

pub unreachable-requires : goal.unreachable-requires
unreachable-requires c =
    let found = c.in_ok-names.ensures.found in
    let here = rw c.in-Some.is at found in
    let none = none_below c.as_slice.result.now c.in-empty.len_below in
    circle_has_units c.deref.result.now c.args.unit.now (subst (IsCircle c.deref.result.now c.args.unit.now) (sym c.as_slice.ensures ∙ none) here)
