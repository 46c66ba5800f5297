-- No part of a shared shape is deeper than the shape (own).
use Rattle.std.specs.Prelude.{◌≤◌, List, [], ◌∷◌, max}
use Rattle.std.proofs.Common.{arith}
use denote.Param.Weighed.{most}
use Rattle.shape_core.specs.declared.shared.Node.{Node}
use Rattle.shape_core.specs.declared.shared.Form.{Form}
use Rattle.shape_core.specs.declared.shared.Form.TheVariants as f
use Rattle.shape_core.specs.declared.shared.SharedEntry.{SharedEntry}
use Rattle.shape_core.specs.declared.shared.SharedEntry.TheVariants as e
use Rattle.shape_core.specs.declared.shared.Shared.TheDeep.{deep-Node, deep-Form, deep-SharedEntry}
use Rattle.shape_core.specs.Node.{entries_of, shape_of}
use Rattle.shape_core.specs.Shape.{depth, depths}

-- no shape of a list is deeper than the list
most_depth : (es : List SharedEntry) → most (λ e. deep-SharedEntry e) es ≤ depths (entries_of es)
most_depth [] = omega arith
most_depth (e.Val x g ∷ es) = omega (arith, most_depth es)
most_depth (e.Mod x s ∷ es) = omega (arith, most_depth es)
most_depth (e.Mty x s ∷ es) = omega (arith, most_depth es)
most_depth (e.Dark at ∷ es) = omega (arith, most_depth es)

list_falls : (es : List SharedEntry) → max (max (most (λ e. deep-SharedEntry e) es) 0) 0 ≤ depths (entries_of es)
list_falls es = omega (arith, most_depth es)

form_falls : (m : Form) → max (deep-Form m) 0 ≤ depth (shape_of m)
form_falls (f.Struct es c) = list_falls es.items
form_falls (f.Functor p r) = omega arith
form_falls (f.Unitary r) = omega arith
form_falls f.Opaque = omega arith

pub depth_falls : (n : Node) → max (deep-Node n) 0 ≤ depth (shape_of n.form)
depth_falls n = omega (arith, form_falls n.form)
