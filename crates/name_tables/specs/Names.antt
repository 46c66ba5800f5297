-- What a name table holds for a name (own).
use Rattle.std.specs.Prelude.{ℕ, List, Option}
use Rattle.std.specs.BTreeMap.{get_by}
use Rattle.std.specs.Cmp.Lexicographic.{slice_cmp}
use Rattle.std.specs.Ordering.{nat_cmp}
use Rattle.name_tables.specs.declared.names.Names.{Names}

abbrev pub at : {V : Type 0} → Names V → List ℕ → Option V
at n x = get_by (λ k. slice_cmp nat_cmp x k.items) n.map
