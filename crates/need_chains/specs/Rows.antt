-- The sources that units need, as rows of positions (own).
use Rattle.std.specs.Prelude.{◌≡◌, ◌<◌, ℕ, List, [], Bool, true, ◌&&◌, ◌||◌, not, Option, Some, None, get_or, is_some, length, map}
use Rattle.std.specs.List.{list_any}
use Rattle.std.specs.Str.{bytes_eq}
use Rattle.std.specs.Global.{Vec}
use Rattle.name_tables.specs.declared.names.Names.{Names}
use Rattle.name_tables.specs.Names.{at}
use Rattle.need_chains.specs.Distances.{any_at, is_number}
use Rattle.need_chains.specs.Needs.{needs}
use Rattle.need_chains.specs.declared.unit_heads.UnitHeads.{UnitHeads}

-- a source is one of a unit of this name
abbrev pub is_unit : List UnitHeads → List ℕ → Bool
is_unit sources name = list_any (λ s. bytes_eq s.unit name) sources

-- a place is the position of a source with the name
abbrev pub NamePlaces : Names ℕ → List UnitHeads → Type 0
NamePlaces places sources = (name : List ℕ) (p : ℕ) → at places name ≡ Some p
    → (p < length sources) × (get_or (map (λ s. s.unit) sources) p [] ≡ name)

-- the units of these sources have places, and no other name has one
abbrev pub HavePlaces : Names ℕ → List UnitHeads → Type 0
HavePlaces places sources = (name : List ℕ) → is_some (at places name) ≡ is_unit sources name

pub record ArePlaces (places : Names ℕ) (sources : List UnitHeads) : Type 0 where
  pub name : NamePlaces places sources
  pub have : HavePlaces places sources

-- the row of a place
abbrev pub row_at : List (List ℕ) → Option ℕ → List ℕ
row_at rows None = []
row_at rows (Some p) = get_or rows p []

-- a head names another unit, which has this number
abbrev pub is_hit : List UnitHeads → List ℕ → ℕ → (List ℕ → Option ℕ) → List ℕ → Bool
is_hit sources unit n number head = is_unit sources head && (not (bytes_eq head unit) && is_number n (number head))

-- a row has a unit with this number, of numbers by name
abbrev pub hits : List UnitHeads → ℕ → (List ℕ → Option ℕ) → List ℕ → Bool
hits sources n number row = any_at n (map (λ s. number s.unit) sources) row

-- the rows have a unit with a number where a unit needs one, whatever the numbers are
abbrev pub AreRows : List UnitHeads → (List ℕ → List ℕ) → Type 0
AreRows sources row = (unit : List ℕ) (n : ℕ) (number : List ℕ → Option ℕ)
    → hits sources n number (row unit) ≡ list_any (λ s. needs sources unit s.unit && is_number n (number s.unit)) sources

-- the new row has a unit with a number if the old one has, or a head names another unit with it
abbrev pub AddsHead : Names ℕ → List ℕ → List ℕ → List ℕ → List ℕ → Type 0
AddsHead places unit head old new = (sources : List UnitHeads) → ArePlaces places sources → (n : ℕ) (number : List ℕ → Option ℕ)
    → hits sources n number new ≡ (hits sources n number old || is_hit sources unit n number head)

-- the same of several heads
abbrev pub AddsHeads : Names ℕ → List ℕ → List (List ℕ) → List ℕ → List ℕ → Type 0
AddsHeads places unit heads old new = (sources : List UnitHeads) → ArePlaces places sources → (n : ℕ) (number : List ℕ → Option ℕ)
    → hits sources n number new ≡ (hits sources n number old || list_any (is_hit sources unit n number) heads)

-- the same of the row of a source's unit, for the heads of the source; in the other rows nothing changes
abbrev pub AddsSource : Names ℕ → UnitHeads → List (Vec ℕ) → List (Vec ℕ) → Type 0
AddsSource places source old new = (sources : List UnitHeads) → ArePlaces places sources → length old ≡ length sources
    → is_unit sources source.unit ≡ true → (unit : List ℕ) (n : ℕ) (number : List ℕ → Option ℕ)
    → hits sources n number (row_at (map (λ row. row.items) new) (at places unit))
    ≡ (hits sources n number (row_at (map (λ row. row.items) old) (at places unit))
    || (bytes_eq source.unit unit && list_any (is_hit sources unit n number) source.heads))
