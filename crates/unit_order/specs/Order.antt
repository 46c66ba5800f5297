-- The order in which units are linked (the OCaml manual, "Batch compilation" and "Dependency generator").
use Rattle.std.specs.Prelude.{◌≡◌, ℕ, zero, suc, List, [], ◌∷◌, ◌++◌, Bool, true, ◌&&◌, ◌||◌, not, if◌then◌else◌, Option, Some, None, All, map}
use Rattle.std.specs.Prelude.{filter, length, nat_eq}
use Rattle.std.specs.List.{list_any, list_all}
use Rattle.std.specs.Str.{bytes_eq}
use Rattle.std.specs.Str.Lines.{lines}
use Rattle.rotor_base.specs.Files.{bad_manifest}
use Rattle.ml_trees.specs.Tree.{UnitTree}
use Rattle.unit_heads.specs.Heads.{is_among, unit_heads}

-- a unit needs the unit of this name: it is another one, and a head in a tree of the first that is not bound there
abbrev pub needs_unit : UnitTree → List ℕ → Bool
needs_unit u name = is_among (unit_heads u) name && not (bytes_eq name u.name)

-- all units that it needs are taken
abbrev pub is_ready : List UnitTree → List (List ℕ) → UnitTree → Bool
is_ready units taken u = list_all (λ v. not (needs_unit u v.name) || is_among taken v.name) units

-- the name of the first of these units that is not taken and whose needed units are all taken
abbrev pub first_ready : List UnitTree → List (List ℕ) → List UnitTree → Option (List ℕ)
first_ready units taken [] = None
first_ready units taken (u ∷ us) = if not (is_among taken u.name) && is_ready units taken u then Some u.name else first_ready units taken us

-- if there is a next unit, goes on behind its name
abbrev pub go_on : List (List ℕ) → Option (List ℕ) → (List (List ℕ) → List (List ℕ)) → List (List ℕ)
go_on taken None more = taken
go_on taken (Some name) more = more (taken ++ name ∷ [])

-- again and again the first unit whose needed units are all taken, at most so often
unfoldable pub taking : ℕ → List UnitTree → List (List ℕ) → List (List ℕ)
taking zero units taken = taken
taking (suc n) units taken = go_on taken (first_ready units taken units) (taking n units)

-- the units that are taken without a manifest, in order
abbrev pub derived_order : List UnitTree → List (List ℕ)
derived_order units = taking (length units) units []

-- the taking takes every unit
abbrev pub takes_all : List UnitTree → Bool
takes_all units = nat_eq (length (derived_order units)) (length units)

abbrev pub is_filled : List ℕ → Bool
is_filled [] = not true
is_filled (b ∷ bs) = true

-- the order of a manifest: its lines that are not empty
abbrev pub manifest_order : List ℕ → List (List ℕ)
manifest_order bytes = filter is_filled (lines bytes)

-- Order: the names of the units in the order of linking
abbrev pub order_of : List UnitTree → Option (List ℕ) → List (List ℕ)
order_of units None = derived_order units
order_of units (Some bytes) = manifest_order bytes

-- if there is a manifest, it lists each of the units once
abbrev pub IsListed : List UnitTree → Option (List ℕ) → Type 0
IsListed units manifest = bad_manifest (map (λ u. record { name = u.name; is_body = true }) units) manifest ≡ None

-- a chain of needs leads from a unit to the unit of this name, with so many units between
abbrev pub leads_to : ℕ → List UnitTree → UnitTree → List ℕ → Bool
leads_to zero units u name = needs_unit u name
leads_to (suc n) units u name = list_any (λ v. needs_unit u v.name && leads_to n units v name) units

-- a unit lies on a cycle: it leads to itself
abbrev pub LiesOnCycle : List UnitTree → UnitTree → Type 0
LiesOnCycle units u = (n : ℕ) × (leads_to n units u u.name ≡ true)

-- Stuck: the name of the first unit that lies on a cycle
pub record IsStuck (units : List UnitTree) (name : List ℕ) : Type 0 where
  pub before : List UnitTree
  pub at : UnitTree
  pub behind : List UnitTree
  pub split : units ≡ before ++ at ∷ behind
  pub named : name ≡ at.name
  pub cycle : LiesOnCycle units at
  pub first : All (λ v. LiesOnCycle units v → ⊥) before
