-- The shared entries that a list of entries shows (own).
use Rattle.std.specs.Prelude.{List, [], ◌∷◌}
use Rattle.shape_core.specs.declared.shared.SharedEntry.{SharedEntry}
use Rattle.shape_core.specs.declared.shared.SharedEntry.TheVariants as e
use Rattle.shape_core.specs.Shape.{Entries, none, a_val, a_mod, a_mty, a_dark}

abbrev pub items_of : Entries → List SharedEntry
items_of none = []
items_of (a_val x g es) = e.Val x g ∷ items_of es
items_of (a_mod X s es) = e.Mod X s ∷ items_of es
items_of (a_mty S s es) = e.Mty S s ∷ items_of es
items_of (a_dark at es) = e.Dark at ∷ items_of es
