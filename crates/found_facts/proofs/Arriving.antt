-- A resolver that went on over some steps met no heavy site and has what the steps give. One that stopped names the
-- first heavy site.
use Rattle.std.proofs.Common.{◌≡◌, Option, Some, None, refl, sym, ap, subst, ◌∙◌}
use Rattle.rotor_base.specs.declared.place.Place.{Place}
use Rattle.binding_model.specs.declared.found.Sums.{Sums}
use Rattle.binding_model.specs.declared.found.Found.{Found}
use Rattle.binding_model.specs.Steps.{Steps}
use Rattle.binding_model.specs.Sums.{heavy_from}
use Rattle.binding_model.specs.Taken.{Taken, Going, HeavyAt, taken, Tracks, Arrived, Outcome}
use Rattle.binding_model.proofs.Takings.{takes}

one_place : (p q : Place) → HeavyAt p ≡ HeavyAt q → p ≡ q
one_place p q h = ap place h
  where
    place : Taken → Place
    place (Going n) = p
    place (HeavyAt at) = at

one_found : (n m : Found) → Going n ≡ Going m → n ≡ m
one_found n m h = ap found h
  where
    found : Taken → Found
    found (Going x) = x
    found (HeavyAt at) = n

pub stopped_heavy : (ss : Steps) (n : Found) (k : Sums) (at : Place) → Tracks k n.sums → taken (Going n) ss ≡ HeavyAt at → heavy_from k ss ≡ Some at
stopped_heavy ss n k at t h = by (heavy_from k ss) (takes ss n k t)
  where
    by : (o : Option Place) → Outcome n k ss o (taken (Going n) ss) → o ≡ Some at
    by (Some p) e = ap Some (one_place p at (sym e ∙ h))
    by None (m, e, f) = absurd (let i : Going m ≡ HeavyAt at = sym e ∙ h in cc)

pub went_light : (ss : Steps) (n m : Found) (k : Sums) → Tracks k n.sums → taken (Going n) ss ≡ Going m → heavy_from k ss ≡ None
went_light ss n m k t h = by (heavy_from k ss) (takes ss n k t)
  where
    by : (o : Option Place) → Outcome n k ss o (taken (Going n) ss) → o ≡ None
    by (Some p) e = absurd (let i : HeavyAt p ≡ Going m = sym e ∙ h in cc)
    by None f = refl

pub went_there : (ss : Steps) (n m : Found) (k : Sums) → Tracks k n.sums → taken (Going n) ss ≡ Going m → Arrived n k ss m
went_there ss n m k t h = by (heavy_from k ss) (takes ss n k t)
  where
    by : (o : Option Place) → Outcome n k ss o (taken (Going n) ss) → Arrived n k ss m
    by (Some p) e = absurd (let i : HeavyAt p ≡ Going m = sym e ∙ h in cc)
    by None (j, e, f) = subst (Arrived n k ss) (one_found j m (sym e ∙ h)) f
