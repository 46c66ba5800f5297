-- What the table of a list of names holds (own).
use Rattle.std.specs.Prelude.{◌≡◌, Bool, ℕ, List, is_some}
use Rattle.name_tables.specs.Names.{at}
use Rattle.name_tables.specs.declared.names.Names.{Names}
use Rattle.module_openings.specs.Names.{is_among}

-- it has a value for the names of the list and no other
abbrev pub HasNames : Names Bool → List (List ℕ) → Type 0
HasNames table list = (name : List ℕ) → is_some (at table name) ≡ is_among list name
