-- What a structure keeps of its entries, and what holds of every shared shape (own).
use Rattle.std.specs.Prelude.{◌≡◌, ◌≤◌, List}
use Rattle.rotor_base.specs.Limits.{max_levels}
use Rattle.shape_core.specs.declared.shared.SharedEntry.{SharedEntry}
use Rattle.shape_core.specs.declared.shared.Form.{Form}
use Rattle.shape_core.specs.declared.shared.Form.TheVariants as f
use Rattle.shape_core.specs.declared.shared.Node.{Node}
use Rattle.shape_core.specs.declared.contents.Contents.{Contents}
use Rattle.shape_core.specs.Declarations.{HasDeclarations}
use Rattle.shape_core.specs.Index.{IsIndexOf}
use Rattle.shape_core.specs.Node.{shape_of}
use Rattle.shape_core.specs.Shape.{capped, depth, weight}

pub record HasContents (c : Contents) (list : List SharedEntry) : Type 0 where
  pub index : IsIndexOf c.index list
  pub declarations : HasDeclarations c.declarations list

abbrev pub IsIndexed : Form → Type 0
IsIndexed (f.Struct es c) = HasContents c.value es.items
IsIndexed (f.Functor p r) = Unit {0}
IsIndexed (f.Unitary r) = Unit {0}
IsIndexed f.Opaque = Unit {0}

-- what holds of every shared shape
pub record IsSound (n : Node) : Type 0 where
  pub weight : n.weight ≡ capped (weight (shape_of n.form))
  pub levels : n.levels ≡ depth (shape_of n.form)
  pub bound : n.levels ≤ max_levels
  pub indexed : IsIndexed n.form
