-- The positions of a text, and the bytes that they name (own; Language Server Protocol 3.17,
-- "Position").
use Rattle.std.specs.Prelude.{ℕ, zero, suc, ◌-◌, ◌==◌, ◌&&◌, ◌||◌, nat_lt, nat_le, List, [], ◌∷◌, Bool, true, Option, option_map, if◌then◌else◌}
use Rattle.std.specs.List.{find}
use Rattle.text_places.specs.declared.counting.Counting.{Counting}
use Rattle.text_places.specs.declared.counting.Position.{Position}
use Rattle.text_places.specs.Fronts.{origin_of, front_of, behind}

-- a byte at which a character or a line end begins, or the end of the text: its offset, its position, and whether its
-- line ends there
pub record Mark : Type 0 where
  pub offset : ℕ
  pub position : Position
  pub ends_line : Bool

-- the marks of the bytes from the offset `at` on; `inside` more bytes belong to what began before
abbrev pub marks_from : Counting → ℕ → ℕ → Position → List ℕ → List Mark
marks_from counting inside at here [] = record { offset = at; position = here; ends_line = true } ∷ []
marks_from counting (suc inside) at here (b ∷ bs) = marks_from counting inside (suc at) here bs
marks_from counting zero at here (b ∷ bs) =
    record { offset = at; position = here; ends_line = (front_of counting (b ∷ bs)).ends_line }
    ∷ marks_from counting ((front_of counting (b ∷ bs)).len - 1) (suc at) (behind counting here (front_of counting (b ∷ bs))) bs

-- the marks of a text, in order
abbrev pub marks : Counting → List ℕ → List Mark
marks counting bytes = marks_from counting 0 0 (origin_of counting) bytes

-- a position names a byte by that byte's position: it is the same, or it is behind it on its line, and the line ends there
abbrev pub names_here : Position → Position → Bool → Bool
names_here p here is_end = p.line == here.line && (p.column == here.column || (is_end && nat_lt here.column p.column))

abbrev pub names : Position → Mark → Bool
names p m = names_here p m.position m.ends_line

-- The byte that a position names. Behind the end of a line it is the line's end. A line behind the last, and a column
-- inside a character, name none.
abbrev pub offset_of : Counting → Position → List ℕ → Option ℕ
offset_of counting p bytes = option_map (λ m. m.offset) (find (names p) (marks counting bytes))

-- the position of the last of some marks that is not behind an offset; of none, this one
abbrev pub last_upto : ℕ → Position → List Mark → Position
last_upto offset here [] = here
last_upto offset here (m ∷ ms) = if nat_le m.offset offset then last_upto offset m.position ms else here

-- The position of a byte: of what begins there, or of what began before it and holds it. An offset behind the end has
-- the position of the end.
abbrev pub position_of : Counting → ℕ → List ℕ → Position
position_of counting offset bytes = last_upto offset (origin_of counting) (marks counting bytes)
