-- How often each name is in a list of names (own).
use Rattle.std.specs.Prelude.{◌≡◌, ℕ, List, count_by, unwrap_or}
use Rattle.std.specs.Str.{bytes_eq}
use Rattle.name_tables.specs.Names.{at}
use Rattle.unit_heads.specs.declared.counts.Counts.{Counts}

-- how often a name is counted
abbrev pub count_of : Counts → List ℕ → ℕ
count_of counts name = unwrap_or (at counts.numbers name) 0

-- each name is counted as often as it is in the list
abbrev pub AreCounts : Counts → List (List ℕ) → Type 0
AreCounts counts list = (name : List ℕ) → count_of counts name ≡ count_by (λ other. bytes_eq other name) list
