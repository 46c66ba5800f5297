-- Why units have no order (the OCaml manual, "Dependency generator").
use Rattle.std.specs.Prelude.{◌≡◌, ℕ, List, Option, None, false, ⊤}
use Rattle.ml_trees.specs.Tree.{UnitTree}
use Rattle.unit_order.specs.Order.{takes_all, IsStuck}
use Rattle.unit_order.specs.declared.link_order.OrderError.{OrderError}
use Rattle.unit_order.specs.declared.link_order.OrderError.TheVariants.{Cycle, Memory}

-- these units are rightly refused so: there is no manifest and the taking gets stuck, or there was no memory
abbrev pub IsOrderError : List UnitTree → Option (List ℕ) → OrderError → Type 0
IsOrderError units manifest (Cycle unit) = (manifest ≡ None) × (takes_all units ≡ false) × IsStuck units unit
IsOrderError units manifest Memory = ⊤
