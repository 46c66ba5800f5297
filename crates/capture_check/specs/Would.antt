-- Would, by the tables that `local_fault` makes of a footprint and of looks (own).
use Rattle.std.specs.Prelude.{ℕ, suc, Bool, false, List, [], ◌∷◌, Option, Some, None, ◌≡◌, ◌||◌, if◌then◌else◌}
use Rattle.std.specs.BTreeMap.{BTreeMap, get}
use Rattle.std.specs.BTreeSet.{BTreeSet, contains}
use Rattle.std.specs.Ordering.{nat_cmp}
use Rattle.rotor_base.specs.declared.place.Place.{Place}
use Rattle.rotor_base.specs.declared.place.Goal.{Goal}
use Rattle.rotor_base.specs.declared.place.Goal.TheVariants.{Decl}
use Rattle.rotor_base.specs.declared.place.Link.{Link}
use Rattle.rotor_base.specs.declared.place.Ref.{Ref}
use Rattle.rotor_base.specs.declared.looks.RefLook.{RefLook}
use Rattle.rotor_base.specs.declared.looks.LinkLook.{LinkLook}
use Rattle.rotor_base.specs.Place.{place_cmp}
use Rattle.binding_model.specs.Steps.{a_ref}
use Rattle.binding_model.specs.Looks.{behind_darks, later, would_find, would_source}
use Rattle.binding_model.specs.Local.{ref_look_at, link_look_at}

-- Would of a look, whose goal or item is a member of the footprint or not
abbrev pub goal_if : Bool → RefLook → Goal
goal_if member r = if r.is_new || member then would_find r.by r.goal (later r.foot r.new) else r.goal

abbrev pub source_if : Bool → LinkLook → Goal
source_if member l =
    if l.is_new || member
    then would_source (l.later_foot || l.later_new) l.pinned (would_find l.by (behind_darks l.by l.darks None) (later l.foot l.new))
    else would_source l.later_old l.pinned (would_find l.by (behind_darks l.by l.darks None) l.old)

-- a goal is the declaration of a member
abbrev pub is_in : BTreeSet Place → Goal → Bool
is_in members (Decl d) = contains place_cmp members d
is_in members _ = false

-- a reference's new goal, and a link's new source: by the look, and the old one if there is none
abbrev pub goal_by : BTreeSet Place → Option RefLook → Goal → Goal
goal_by members None g = g
goal_by members (Some l) g = goal_if (is_in members l.goal) l

abbrev pub source_by : BTreeSet Place → Option LinkLook → Goal → Goal
source_by members None g = g
source_by members (Some l) g = source_if (is_in members (Decl l.item)) l

-- the new references, and the new links, numbered from a number
abbrev pub ref_by : BTreeSet Place → BTreeMap Place RefLook → Ref → Ref
ref_by members looks r = a_ref r.at (goal_by members (get place_cmp looks r.at) r.goal)

abbrev pub links_by : BTreeSet Place → BTreeMap ℕ LinkLook → ℕ → List Link → List Link
links_by members looks n [] = []
links_by members looks n (l ∷ ls) = record { item = l.item; source = source_by members (get nat_cmp looks n) l.source } ∷ links_by members looks
    (suc n) ls

-- the tables have the first look of each place, and of each number
abbrev pub HasRefLooks : List RefLook → BTreeMap Place RefLook → Type 0
HasRefLooks ls looks = (p : Place) → get place_cmp looks p ≡ ref_look_at ls p

abbrev pub HasLinkLooks : List LinkLook → BTreeMap ℕ LinkLook → Type 0
HasLinkLooks ls looks = (n : ℕ) → get nat_cmp looks n ≡ link_look_at ls n
