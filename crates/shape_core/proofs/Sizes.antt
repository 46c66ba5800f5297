-- The sizes of entries, by which the drops of shapes end.
use Rattle.std.specs.Prelude.{◌≤◌, ◌+◌, ◌*◌, List, [], ◌∷◌}
use Rattle.std.proofs.Common.{arith}
use denote.Param.Weighed.{most}
use Rattle.shape_core.specs.declared.shared.SharedEntry.{SharedEntry}
use Rattle.shape_core.specs.declared.shared.Shared.TheDeep.{deep-SharedEntry, size-SharedEntry}

-- the largest size in a list is at most four times the greatest depth in it, plus 1
pub most_size : (es : List SharedEntry) → most (λ e. size-SharedEntry e) es ≤ 4 * most (λ e. deep-SharedEntry e) es + 1
most_size [] = omega arith
most_size (e ∷ es) = omega (arith, most_size es)
