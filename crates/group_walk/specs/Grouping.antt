-- The groups that the events of a tree make, one after another (own).
use Rattle.std.specs.Prelude.{ℕ, List, [], ◌∷◌, ◌++◌, Bool, Option, Some, None, true, false, length, reverse, set, if◌then◌else◌}
use Rattle.rotor_base.specs.declared.place.Place.{Place}
use Rattle.ml_trees.specs.declared.fixed.Fixed.{Fixed}
use Rattle.ml_trees.specs.declared.fixed.Fixed.TheVariants as key
use Rattle.value_sites.specs.Places.{Site, punned, name_sites, label_site}
use Rattle.binding_model.specs.Facts.{decls}
use Rattle.binding_model.specs.Scopes.{bound}
use Rattle.group_walk.specs.declared.groups.Begun.{Begun}
use Rattle.group_walk.specs.declared.groups.Groups.{Groups}
use Rattle.ml_trees.specs.Events.{Event, value, field, label, bindings_begin, group_begins, group_ends, part_begins, part_ends, alternatives_end}

-- a group that has begun
abbrev pub begun : List Place → List (List Place) → Option ℕ → Begun
begun places parts position = record { places = places; parts = parts; position = position }

-- the file, the groups that are listed, and those that have begun, the innermost first
pub record Grouping : Type 0 where
  pub file : ℕ
  pub found : List (List Place)
  pub around : List Begun

abbrev pub grouping : ℕ → List (List Place) → List Begun → Grouping
grouping file found around = record { file = file; found = found; around = around }

-- these values are declared: they join the innermost group
abbrev pub joined : List Place → List Begun → List Begun
joined new [] = []
joined new (b ∷ bs) = begun (b.places ++ new) b.parts b.position ∷ bs

abbrev pub declares : Grouping → List Site → Grouping
declares s xs = grouping s.file s.found (joined (decls (bound s.file xs)) s.around)

-- a group is listed, at its position if it has one
abbrev pub listed : Option ℕ → List Place → List (List Place) → List (List Place)
listed None places found = found ++ places ∷ []
listed (Some n) places found = set found n places

-- behind the end of the innermost group
abbrev pub behind_group : ℕ → List (List Place) → List Begun → Grouping
behind_group file found [] = grouping file found []
behind_group file found (b ∷ bs) = grouping file (listed b.position b.places found) bs

-- behind the end of a part of an or-pattern, whose group waits for the end of the or-pattern
abbrev pub behind_part : ℕ → List (List Place) → List Begun → Grouping
behind_part file found (b ∷ c ∷ bs) = grouping file found (begun c.places (c.parts ++ b.places ∷ []) c.position ∷ bs)
behind_part file found bs = grouping file found bs

-- behind the end of an or-pattern
abbrev pub behind_parts : ℕ → List (List Place) → List Begun → Grouping
behind_parts file found [] = grouping file found []
behind_parts file found (b ∷ bs) = grouping file (found ++ b.parts) (begun b.places [] b.position ∷ bs)

-- the word before a further part of an or-pattern
abbrev pub is_bar : Fixed → Bool
is_bar key.Bar = true
is_bar _ = false

abbrev pub hears : Grouping → Event → Grouping
hears s (value true x) = declares s (name_sites [] true x)
hears s (field true x) = declares s (punned true x.at x.text ∷ [])
hears s (label true x) = declares s (label_site true x ∷ [])
hears s bindings_begin = grouping s.file (s.found ++ [] ∷ []) (begun [] [] (Some (length s.found)) ∷ s.around)
hears s group_begins = grouping s.file s.found (begun [] [] None ∷ s.around)
hears s group_ends = behind_group s.file s.found s.around
hears s (part_begins sign) = if is_bar sign then grouping s.file s.found (begun [] [] None ∷ s.around) else s
hears s (part_ends sign) = if is_bar sign then behind_part s.file s.found s.around else s
hears s alternatives_end = behind_parts s.file s.found s.around
hears s _ = s

-- what the visitor holds
abbrev pub grouping_of : Groups → Grouping
grouping_of g = grouping g.file g.found.items (reverse g.around.items)
