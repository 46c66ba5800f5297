-- Chains of needs between units (own).
use Rattle.std.specs.Prelude.{◌≡◌, ◌<◌, ℕ, zero, suc, List, [], ◌∷◌, Bool, true, false, ◌&&◌, Option, Some, None, if◌then◌else◌, length, map}
use Rattle.std.specs.Cmp.Lexicographic.{slice_cmp}
use Rattle.std.specs.List.{list_any}
use Rattle.std.specs.Ordering.{is_lt, nat_cmp}
use Rattle.std.specs.Str.{bytes_eq}
use Rattle.need_chains.specs.Needs.{needs}
use Rattle.need_chains.specs.declared.unit_heads.UnitHeads.{UnitHeads}

-- so many needs lead from a unit to another
unfoldable pub leads : ℕ → List UnitHeads → List ℕ → List ℕ → Bool
leads zero sources to unit = bytes_eq unit to
leads (suc n) sources to unit = list_any (λ s. needs sources unit s.unit && leads n sources to s.unit) sources

-- of each source: its unit is the next one of a chain of this many needs behind it
abbrev pub next_marks : ℕ → List UnitHeads → List ℕ → List ℕ → List Bool
next_marks n sources to unit = map (λ s. needs sources unit s.unit && leads n sources to s.unit) sources

-- the first of two names in byte order
abbrev pub earlier_name : Option (List ℕ) → List ℕ → List ℕ
earlier_name None name = name
earlier_name (Some best) name = if is_lt (slice_cmp nat_cmp name best) then name else best

abbrev pub mark_name : Option (List ℕ) → List ℕ → Bool → Option (List ℕ)
mark_name best name false = best
mark_name best name true = Some (earlier_name best name)

-- the first in byte order of a name and the units of the sources that are marked
abbrev pub first_marked : Option (List ℕ) → List UnitHeads → List Bool → Option (List ℕ)
first_marked best [] marks = best
first_marked best (s ∷ sources) [] = best
first_marked best (s ∷ sources) (mark ∷ marks) = first_marked (mark_name best s.unit mark) sources marks

abbrev pub name_then : Option (List ℕ) → (List ℕ → List (List ℕ)) → List (List ℕ)
name_then None more = []
name_then (Some name) more = name ∷ more name

-- the units of a chain of so many needs, behind the one at which it begins; each is the first one in byte order
unfoldable pub chain : ℕ → List UnitHeads → List ℕ → List ℕ → List (List ℕ)
chain zero sources to unit = []
chain (suc n) sources to unit = name_then (first_marked None sources (next_marks n sources to unit)) (chain n sources to)

-- a shortest chain of needs leads from a unit back to it, with so many units between; these are its units behind the
-- first
pub record IsCircle (sources : List UnitHeads) (unit : List ℕ) (names : List (List ℕ)) : Type 0 where
  pub between : ℕ
  pub few : between < length sources
  pub leads_back : leads (suc between) sources unit unit ≡ true
  pub shortest : (n : ℕ) → n < between → leads (suc n) sources unit unit ≡ false
  pub units : names ≡ chain (suc between) sources unit unit

-- no chain with fewer units between than there are sources leads from a unit back to it
abbrev pub HasNoCircle : List UnitHeads → List ℕ → Type 0
HasNoCircle sources unit = (n : ℕ) → n < length sources → leads (suc n) sources unit unit ≡ false
