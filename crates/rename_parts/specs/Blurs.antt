-- Where outside modules hide a member of a footprint, as a scan finds it (own).
use Rattle.std.specs.Prelude.{◌≡◌, ◌⊎◌, List, Contains, Option, Some, None, if◌then◌else◌}
use Rattle.std.specs.BTreeSet.{BTreeSet, contains}
use Rattle.rotor_base.specs.declared.place.Place.{Place}
use Rattle.rotor_base.specs.declared.place.Goal.{Goal}
use Rattle.rotor_base.specs.declared.place.Goal.TheVariants.{Decl, Blur}
use Rattle.rotor_base.specs.declared.place.Ref.{Ref}
use Rattle.rotor_base.specs.declared.place.Link.{Link}
use Rattle.binding_model.specs.Facts.{earlier}
use Rattle.rotor_base.specs.Place.{place_cmp}

-- a place, if it is in a set
abbrev pub in_set : BTreeSet Place → Place → Option Place
in_set set p = if contains place_cmp set p then Some p else None

-- the member behind Dark entries
abbrev pub behind_in : BTreeSet Place → Goal → Option Place
behind_in set (Blur by n (Some d)) = in_set set d
behind_in set _ = None

-- the item of a link whose source is Blur, if it is a member
abbrev pub item_in : BTreeSet Place → Goal → Goal → Option Place
item_in set (Decl p) (Blur by n behind) = in_set set p
item_in set _ _ = None

abbrev pub blurred_item : BTreeSet Place → Link → Option Place
blurred_item set l = item_in set l.item l.source

-- the place of a reference with a member behind
abbrev pub place_if : Option Place → Place → Option Place
place_if (Some d) at = Some at
place_if None at = None

abbrev pub blurred_ref : BTreeSet Place → Ref → Option Place
blurred_ref set r = place_if (behind_in set r.goal) r.at

-- one of the references, and one of the links, blurs at a place
abbrev pub BlursRef : BTreeSet Place → List Ref → Place → Type 0
BlursRef set refs p = (r : Ref) × Contains refs r × (blurred_ref set r ≡ Some p)

abbrev pub BlursLink : BTreeSet Place → List Link → Place → Type 0
BlursLink set links p = (l : Link) × Contains links l × ((blurred_item set l ≡ Some p) ⊎ (behind_in set l.source ≡ Some p))

-- the earlier of two places, of which each may be missing
abbrev pub earlier_of : Option Place → Option Place → Option Place
earlier_of best None = best
earlier_of best (Some p) = earlier best p
