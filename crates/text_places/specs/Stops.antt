-- A walk along a text (own).
use Rattle.std.specs.Prelude.{ℕ, ◌+◌, ◌≤◌, List, drop, length}
use Rattle.text_places.specs.declared.counting.Counting.{Counting}
use Rattle.text_places.specs.declared.front.Front.{Front}
use Rattle.text_places.specs.declared.walk.Stop.{Stop}
use Rattle.text_places.specs.Fronts.{origin_of, behind}
use Rattle.text_places.specs.Marks.{Mark, marks_from}

-- the beginning of a text
abbrev pub start_of : Counting → Stop
start_of counting = record { at = 0; here = origin_of counting }

-- the stop behind one and what begins there
abbrev pub stop_behind : Counting → Stop → Front → Stop
stop_behind counting stop front = record { at = stop.at + front.len; here = behind counting stop.here front }

-- the marks from a stop on
abbrev pub marks_at : Counting → List ℕ → Stop → List Mark
marks_at counting bytes stop = marks_from counting 0 stop.at stop.here (drop stop.at bytes)

-- the stop is within the text, and its line and column are no greater than one more than its offset
pub record IsWithin (bytes : List ℕ) (stop : Stop) : Type 0 where
  pub at : stop.at ≤ length bytes
  pub line : stop.here.line ≤ stop.at + 1
  pub column : stop.here.column ≤ stop.at + 1
