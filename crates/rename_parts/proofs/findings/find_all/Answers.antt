use Rattle.std.proofs.Common.{◌⊎◌, List, subst}
use Rattle.rotor_base.specs.declared.place.Ref.{Ref}
use Rattle.rotor_base.specs.declared.place.Link.{Link}
use Rattle.rename_parts.specs.Blurs.{BlursRef, BlursLink}
use Rattle.rename_parts.specs.Leasts.{IsLeastOrNone}
use Rattle.rename_parts.proofs.findings.find_all.Goals as goal

pub returns-clause-blurred : goal.returns-clause-blurred
returns-clause-blurred c =
    let m = c.args.members.now in
    let R : List Ref → Type 0 = λ rs. IsLeastOrNone (λ p. BlursRef m rs p ⊎ BlursLink m c.as_slice-2.result.now p) c.find_least_blurred.result in
    let L : List Link → Type 0 = λ ls. IsLeastOrNone (λ p. BlursRef m c.args.facts.now.refs p ⊎ BlursLink m ls p) c.find_least_blurred.result in
    subst L c.as_slice-2.ensures (subst R c.as_slice.ensures c.find_least_blurred.ensures)
