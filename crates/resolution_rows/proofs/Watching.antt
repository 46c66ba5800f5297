-- The watch of a renaming that has none of the first refusals.
use Rattle.std.proofs.Common.{◌≡◌, ap, sym, subst, List}
use Rattle.rotor_base.specs.declared.place.Place.{Place}
use Rattle.rotor_base.specs.declared.looks.Watch.{Watch}
use Rattle.dependency_kernel.specs.Foot.{IsFoot}
use Rattle.value_sites.specs.Sound.{IsSound}
use Rattle.ml_trees.specs.Tree.{UnitTree}
use Rattle.binding_model.specs.Facts.{facts}
use Rattle.binding_model.specs.Renaming.{IsBinder}
use Rattle.binding_model.specs.Local.{IsWatched}
use Rattle.binding_model.specs.Renaming.{name_of}
use Rattle.rename_model.specs.Renaming.{watch_of}
use Rattle.rename_parts.specs.Findings.{IsFree}
use Rattle.rename_parts.proofs.Bridge.{watched}

same : (us : List UnitTree) (d : Place) (w : Watch) → w.old ≡ name_of us d → w ≡ watch_of us d w.foot w.new
same us d w e = ap (λ o. record { old = o; new = w.new; foot = w.foot }) e

pub is_watched : (us : List UnitTree) (d : Place) (w : Watch) → IsSound us → IsFoot (facts us).links d w.foot → IsBinder us d → w.old ≡ name_of us d
    → IsFree us d w.foot w.new → IsWatched us w
is_watched us d w sound is binds old free = subst (IsWatched us) (sym (same us d w old)) (watched us d w.foot w.new sound is free binds).0
