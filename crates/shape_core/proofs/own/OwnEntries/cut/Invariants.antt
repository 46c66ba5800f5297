use Rattle.std.proofs.Common.{◌≡◌, ◌≤◌, ◌++◌, List}
use Rattle.std.specs.Prelude.{vec_len}
use Rattle.shape_core.specs.declared.shared.SharedEntry.{SharedEntry}
use Rattle.shape_core.specs.Index.{IsIndexOf}
use Rattle.shape_core.specs.Members.{HasMembers}
use Rattle.shape_core.proofs.own.OwnEntries.cut.Given as goal

abbrev pub invariant-loop-self : goal.invariant-loop-self
invariant-loop-self l =
    ((rest : List SharedEntry) × (l.fn.self ≡ l.self-inside.entries.items ++ rest))
    × IsIndexOf l.self-inside.index l.self-inside.entries.items
    × HasMembers l.self-inside.members l.self-inside.entries.items
    × (l.len ≤ vec_len l.self-inside.entries)

abbrev pub decreases-loop-self : goal.decreases-loop-self
decreases-loop-self l = vec_len l.self-inside.entries
