-- The messages of places that are blurred (own).
use Rattle.std.specs.Prelude.{List, [], ◌∷◌, Bool, ◌&&◌, ◌||◌, Option, Some, None, is_some, option_map, false, if◌then◌else◌}
use Rattle.rotor_base.specs.Place.{same_place}
use Rattle.rotor_base.specs.declared.place.Facts.{Facts}
use Rattle.rotor_base.specs.declared.place.Goal.{Goal}
use Rattle.rotor_base.specs.declared.place.Goal.TheVariants as goal
use Rattle.rotor_base.specs.declared.place.Link.{Link}
use Rattle.rotor_base.specs.declared.place.Place.{Place}
use Rattle.rotor_base.specs.declared.place.Ref.{Ref}
use Rattle.messages.specs.declared.parts.Message.{Message}
use Rattle.refusal_words.specs.Cut.{Cut}
use Rattle.refusal_words.specs.Renaming.{blurred_link, blurred_use}

-- the last outside module of a blurred goal
abbrev pub blur_of : Goal → Option Place
blur_of (goal.Blur by n behind) = Some by
blur_of (goal.Decl d) = None
blur_of goal.Outside = None
blur_of goal.Missing = None
blur_of goal.Hidden = None

-- a reference is at a place, and blurred
abbrev pub blurs_use : Place → Ref → Bool
blurs_use at r = same_place r.at at && is_some (blur_of r.goal)

abbrev pub is_behind : Place → Option Place → Bool
is_behind at None = false
is_behind at (Some d) = same_place d at

abbrev pub is_declared_at : Place → Goal → Bool
is_declared_at at (goal.Decl d) = same_place d at
is_declared_at at (goal.Blur by n behind) = false
is_declared_at at goal.Outside = false
is_declared_at at goal.Missing = false
is_declared_at at goal.Hidden = false

-- the source of a link is blurred, and a place is its item, or behind its source
abbrev pub blurs_source : Place → Goal → Goal → Bool
blurs_source at item (goal.Blur by n behind) = is_behind at behind || is_declared_at at item
blurs_source at item (goal.Decl d) = false
blurs_source at item goal.Outside = false
blurs_source at item goal.Missing = false
blurs_source at item goal.Hidden = false

abbrev pub blurs_link : Place → Link → Bool
blurs_link at l = blurs_source at l.item l.source

-- the outside module that blurs the first reference at a place, or else the source of the first link there
abbrev pub blurring_use : List Ref → Place → Option Place
blurring_use [] at = None
blurring_use (r ∷ refs) at = if blurs_use at r then blur_of r.goal else blurring_use refs at

abbrev pub blurring_link : List Link → Place → Option Place
blurring_link [] at = None
blurring_link (l ∷ links) at = if blurs_link at l then blur_of l.source else blurring_link links at

abbrev pub blurred_or_link : List Cut → List Link → Place → Option Place → Option Message
blurred_or_link cuts links at (Some by) = Some (blurred_use cuts at by)
blurred_or_link cuts links at None = option_map (blurred_link cuts at) (blurring_link links at)

-- the message of a place that is blurred: of a use, or else of a match
abbrev pub blurred_message : List Cut → Facts → Place → Option Message
blurred_message cuts known at = blurred_or_link cuts known.links at (blurring_use known.refs at)
