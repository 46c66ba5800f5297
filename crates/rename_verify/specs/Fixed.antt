-- The binders that uses, links and Dark entries fix, as a scan of the facts finds them (own).
use Rattle.std.specs.Prelude.{◌≡◌, List, [], ◌∷◌, ◌++◌, Bool, true, Option, Some, None, Contains, flat_map, if◌then◌else◌}
use Rattle.std.specs.BTreeSet.{BTreeSet, contains}
use Rattle.rotor_base.specs.declared.place.Facts.{Facts}
use Rattle.rotor_base.specs.declared.place.Goal.{Goal}
use Rattle.rotor_base.specs.declared.place.Goal.TheVariants.{Decl, Outside, Blur}
use Rattle.rotor_base.specs.declared.place.Link.{Link}
use Rattle.rotor_base.specs.declared.place.Place.{Place}
use Rattle.rotor_base.specs.declared.place.Ref.{Ref}
use Rattle.rotor_base.specs.Place.{place_cmp}
use Rattle.value_sites.specs.Places.{Site}
use Rattle.ml_trees.specs.Tree.{UnitTree}
use Rattle.binding_model.specs.Renaming.{places, at_place, IsFixedSite, IsFree}
use Rattle.rename_model.specs.Ladder.{IsLeast}
use Rattle.rename_verify.specs.Changed.{Changed}

-- what is behind Dark entries
abbrev pub behind : Goal → List Place
behind (Blur by n (Some d)) = d ∷ []
behind _ = []

-- what a use fixes: its declaration, if the use is an operator or a pun, and what is behind Dark entries
abbrev pub fixed_by_use : Bool → Goal → List Place
fixed_by_use is_fixed (Decl d) = if is_fixed then d ∷ [] else []
fixed_by_use is_fixed goal = behind goal

-- the same of a reference, by the set of the uses that are operators or puns
abbrev pub fixed_by_ref : BTreeSet Place → Ref → List Place
fixed_by_ref uses r = fixed_by_use (contains place_cmp uses r.at) r.goal

-- what is joined with the outside, and an item whose source is Blur
abbrev pub joined : Goal → Goal → List Place
joined (Decl d) Outside = d ∷ []
joined (Decl d) (Blur by n e) = d ∷ []
joined Outside (Decl d) = d ∷ []
joined _ _ = []

-- what a link fixes
abbrev pub fixed_by_link : Link → List Place
fixed_by_link l = joined l.item l.source ++ behind l.source

-- what facts fix
abbrev pub fixed_by : BTreeSet Place → Facts → List Place
fixed_by uses fs = flat_map (fixed_by_ref uses) fs.refs ++ flat_map fixed_by_link fs.links

-- the set has those uses that are operators or puns among places, and no other
abbrev pub HasFixedUses : List (Place × Site) → List Ref → BTreeSet Place → Type 0
HasFixedUses ps refs uses =
    (r : Ref) → Contains refs r
    → (contains place_cmp uses r.at ≡ true → IsFixedSite (at_place ps r.at))
    × (IsFixedSite (at_place ps r.at) → contains place_cmp uses r.at ≡ true)

-- one of the changed binders is at this place, and may not take another name
pub record IsHeld (us : List UnitTree) (list : List Changed) (d : Place) : Type 0 where
  pub change : Changed
  pub among : Contains list change
  pub place : change.0 ≡ d
  pub fixed : IsFree us d → ⊥

-- the least of them; or each may
abbrev pub IsLeastHeld : List UnitTree → List Changed → Option Place → Type 0
IsLeastHeld us list None = (c : Changed) → Contains list c → IsFree us c.0
IsLeastHeld us list (Some at) = IsLeast (IsHeld us list) at
