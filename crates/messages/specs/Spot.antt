-- Where a stretch of a source is (own).
use Rattle.std.specs.Prelude.{ℕ, ◌-◌, ◌==◌, List, [], ◌∷◌, length, take, drop}
use Rattle.std.specs.List.{position_or_len}
use Rattle.std.specs.Str.Lines.{strip_carriage_return}
use Rattle.text_places.specs.declared.counting.Counting.TheVariants.{People}
use Rattle.text_places.specs.declared.counting.Position.{Position}
use Rattle.text_places.specs.Marks.{position_of}
use Rattle.messages.specs.declared.parts.Spot.{Spot}

-- the part of a line before a place: without the CR that ends the line, if nothing is behind the place
abbrev pub front_of_line : List ℕ → List ℕ → List ℕ
front_of_line before [] = strip_carriage_return before
front_of_line before (b ∷ bs) = before

-- the bytes of a line before a column
abbrev pub line_before : ℕ → List ℕ → List ℕ
line_before column front = drop (length front - (column - 1)) front

-- the bytes before the first LF
abbrev pub line_front : List ℕ → List ℕ
line_front bytes = take (position_or_len (λ b. b == 10) bytes) bytes

abbrev pub spot_at : List ℕ → Position → ℕ → List ℕ → List ℕ → Spot
spot_at file here width before behind =
    record {
      file = file;
      line = here.line;
      column = here.column;
      width = width;
      before = front_of_line before behind;
      behind =
          strip_carriage_return behind;
    }

-- the stretch of a source from one offset up to another
abbrev pub spot_of : List ℕ → List ℕ → ℕ → ℕ → Spot
spot_of file bytes start end =
    let here = position_of People start bytes in
    spot_at file here (end - start) (line_before here.column (take start bytes)) (line_front (drop start bytes))
