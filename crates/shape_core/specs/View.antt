-- The shapes of the plain form, without their addresses in memory (own).
use Rattle.std.specs.Prelude.{◌≡◌, List, [], ◌∷◌, length, Option, Some, None}
use Rattle.std.specs.Borrow.{Bor}
use Rattle.shape_core.specs.declared.shape.Shape.{Shape}
use Rattle.shape_core.specs.declared.shape.Entry.{Entry}
use Rattle.shape_core.specs.declared.shape.Entry.TheBlock as s
use Rattle.shape_core.specs.declared.shape.Seen.{Seen}
use Rattle.shape_core.specs.Shape as pure

unfoldable mutual
  pub view_shape : Shape → pure.Shape
  view_shape (s.Struct' _ es) = pure.Struct (view_row es)
  view_shape (s.Functor' _ p _ r) = pure.Functor (view_shape p) (view_shape r)
  view_shape (s.Unitary' _ r) = pure.Unitary (view_shape r)
  view_shape s.Opaque = pure.Opaque

  pub view_row : {n : _} → s.Row_of-Entry n → pure.Entries
  view_row s.end_of-Entry = pure.none
  view_row (s.more_of-Entry e es) = view_then e (view_row es)

  -- an entry before others
  pub view_then : Entry → pure.Entries → pure.Entries
  view_then (s.Val x g) rest = pure.a_val x g rest
  view_then (s.Mod x m) rest = pure.a_mod x (view_shape m) rest
  view_then (s.Mty x m) rest = pure.a_mty x (view_shape m) rest
  view_then (s.Dark at) rest = pure.a_dark at rest

-- the same of the items of a `Vec` or a slice
abbrev pub entries : List Entry → pure.Entries
entries [] = pure.none
entries (e ∷ es) = view_then e (entries es)

-- a function applied to what was found, if anything was
abbrev pub found : {A B : Type 0} → (A → B) → Option A → Option B
found f None = None
found f (Some a) = Some (f a)

abbrev pub found_shape : Option (Bor Shape) → Option pure.Shape
found_shape o = found (λ b. view_shape b.now) o

-- what a look-up of a value has seen of a list
pub record Sees (es : pure.Entries) (x : pure.Name) (s : Seen) : Type 0 where
  pub found : s.found ≡ pure.last_of (pure.vals es) x
  pub by : s.by ≡ pure.last_place (pure.passed es x)
  pub passed : s.passed ≡ length (pure.passed es x)
