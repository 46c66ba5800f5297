-- The set has the names so far.
use Rattle.std.proofs.Common.{◌≡◌, ℕ, List, map, string_bytes}
use Rattle.std.specs.List.{list_any}
use Rattle.std.specs.BTreeSet.{contains_text}
use Rattle.std.specs.Str.{bytes_eq}
use Rattle.project_load.proofs.listed.set_of.Given as goal

abbrev pub invariant-loop-name : goal.invariant-loop-name
invariant-loop-name l = (name : List ℕ) → contains_text l.folder name ≡ list_any (bytes_eq name) (map string_bytes l.yielded)
