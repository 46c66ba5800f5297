-- The same shape with other names at some declarations (own).
use Rattle.std.specs.Prelude.{Option, Some, None}
use Rattle.rotor_base.specs.declared.place.Place.{Place}
use Rattle.rotor_base.specs.declared.place.Goal.{Goal}
use Rattle.rotor_base.specs.declared.place.Goal.TheVariants.{Decl, Outside, Missing, Hidden, Blur}
use Rattle.shape_core.specs.Shape.{Name, Shape, Struct, Functor, Unitary, Opaque, Entries, none, a_val, a_mod, a_mty, a_dark}

-- the word that a place has, from the word that it had
abbrev pub Words : Type 0
Words = Place → Name → Name

-- the word of an entry, by its declaration
abbrev pub spell_at : Words → Goal → Name → Name
spell_at w (Decl d) x = w d x
spell_at w Outside x = x
spell_at w Missing x = x
spell_at w Hidden x = x
spell_at w (Blur by n behind) x = x

abbrev mutual
  -- the respelled shape, and the respelled entries
  pub spell_shape : Words → Shape → Shape
  spell_shape w (Struct es) = Struct (spell_entries w es)
  spell_shape w (Functor p r) = Functor (spell_shape w p) (spell_shape w r)
  spell_shape w (Unitary r) = Unitary (spell_shape w r)
  spell_shape w Opaque = Opaque

  pub spell_entries : Words → Entries → Entries
  spell_entries w none = none
  spell_entries w (a_val x g es) = a_val (spell_at w g x) g (spell_entries w es)
  spell_entries w (a_mod X s es) = a_mod X (spell_shape w s) (spell_entries w es)
  spell_entries w (a_mty S s es) = a_mty S (spell_shape w s) (spell_entries w es)
  spell_entries w (a_dark at es) = a_dark at (spell_entries w es)

-- a function on what may be there
abbrev pub over : {V W : Type 0} → (V → W) → Option V → Option W
over f None = None
over f (Some v) = Some (f v)
