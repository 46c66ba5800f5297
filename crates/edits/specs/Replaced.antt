-- A source with spans replaced (own).
use Rattle.std.specs.Prelude.{◌≡◌, ℕ, ◌<◌, ◌≤◌, List, [], ◌∷◌, ◌++◌, length, take, drop, slice_range}
use Rattle.rotor_base.specs.Limits.{max_name_bytes}
use Rattle.edits.specs.declared.Edit.{Edit}

-- the spans begin at `from` or later, one after the other, none empty, and end within `len` bytes; they may touch
abbrev pub AreInOrder : ℕ → ℕ → List Edit → Type 0
AreInOrder from len [] = from ≤ len
AreInOrder from len (edit ∷ edits) = (from ≤ edit.start) × (edit.start < edit.end) × (edit.end ≤ len) × AreInOrder edit.end len edits

-- the text has at most 255 bytes
abbrev pub HasShortText : Edit → Type 0
HasShortText edit = length edit.text ≤ max_name_bytes

-- the text in place of the span
abbrev pub with_span : List ℕ → Edit → List ℕ
with_span src edit = take edit.start src ++ (edit.text ++ drop edit.end src)

-- the source with each span replaced: the last span first, so that the earlier ones keep their offsets
abbrev pub replaced : List ℕ → List Edit → List ℕ
replaced src [] = src
replaced src (edit ∷ edits) = with_span (replaced src edits) edit

-- what is kept of the source from a byte on, with each span's text between its neighbours
abbrev pub pieces : ℕ → List ℕ → List Edit → List ℕ
pieces from src [] = drop from src
pieces from src (edit ∷ edits) = slice_range src from edit.start ++ (edit.text ++ pieces edit.end src edits)

-- replacing spans that are in order keeps every byte outside them, in its order
abbrev pub KeepsTheRest : Type 0
KeepsTheRest = (src : List ℕ) (edits : List Edit) → AreInOrder 0 (length src) edits → replaced src edits ≡ pieces 0 src edits
