-- What a list of shared entries and a shared shape show (own).
use Rattle.std.specs.Prelude.{List, [], ◌∷◌}
use Rattle.shape_core.specs.declared.shared.Form.{Form}
use Rattle.shape_core.specs.declared.shared.Form.TheVariants as f
use Rattle.shape_core.specs.declared.shared.SharedEntry.{SharedEntry}
use Rattle.shape_core.specs.declared.shared.SharedEntry.TheVariants as e
use Rattle.shape_core.specs.declared.kinds.Kind.{Kind}
use Rattle.shape_core.specs.declared.kinds.Kind.TheVariants as k
use Rattle.shape_core.specs.Shape.{Shape, Entries, Struct, Functor, Unitary, Opaque, none, a_val, a_mod, a_mty, a_dark}

-- an entry before others
abbrev pub and_then : SharedEntry → Entries → Entries
and_then (e.Val x g) rest = a_val x g rest
and_then (e.Mod x s) rest = a_mod x s rest
and_then (e.Mty x s) rest = a_mty x s rest
and_then (e.Dark at) rest = a_dark at rest

-- the entries that a slice or a `Vec` of them shows
abbrev pub entries_of : List SharedEntry → Entries
entries_of [] = none
entries_of (e ∷ es) = and_then e (entries_of es)

abbrev pub shape_of : Form → Shape
shape_of (f.Struct es c) = Struct (entries_of es.items)
shape_of (f.Functor p r) = Functor p r
shape_of (f.Unitary r) = Unitary r
shape_of f.Opaque = Opaque

abbrev pub kind_of : Shape → Kind
kind_of (Struct es) = k.Struct
kind_of (Functor p r) = k.Functor
kind_of (Unitary r) = k.Unitary
kind_of Opaque = k.Opaque
