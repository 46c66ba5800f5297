-- Replacing spans, undone (own).
use Rattle.std.specs.Prelude.{◌≡◌, ℕ, ◌+◌, ◌-◌, ◌<◌, ◌≤◌, List, [], ◌∷◌, length, slice_range, All}
use Rattle.rotor_base.specs.Limits.{max_name_bytes}
use Rattle.edits.specs.declared.Edit.{Edit}
use Rattle.edits.specs.Replaced.{AreInOrder, HasShortText, replaced}

-- the edits that put the source's own bytes back: `now` is the offset in the new source of the source's byte `from`
abbrev pub inverse_from : ℕ → ℕ → List ℕ → List Edit → List Edit
inverse_from now from src [] = []
inverse_from now from src (edit ∷ edits) =
    record { start = now + (edit.start - from); end = now + (edit.start - from) + length edit.text; text = slice_range src edit.start edit.end }
    ∷ inverse_from (now + (edit.start - from) + length edit.text) edit.end src edits

-- the inverse edits: each text's span in the new source takes the bytes that the text replaced
abbrev pub inverse : List ℕ → List Edit → List Edit
inverse src edits = inverse_from 0 0 src edits

-- the inverse edits give the source back
abbrev pub GivesBack : Type 0
GivesBack = (src : List ℕ) (edits : List Edit) → AreInOrder 0 (length src) edits → replaced (replaced src edits) (inverse src edits) ≡ src

-- the text is not empty, and the span has at most 255 bytes
abbrev pub IsSmall : Edit → Type 0
IsSmall edit = (0 < length edit.text) × (edit.end ≤ edit.start + max_name_bytes)

-- inverse edits of small ones can be applied to the new source
abbrev pub CanGoBack : Type 0
CanGoBack =
    (src : List ℕ) (edits : List Edit) → AreInOrder 0 (length src) edits → All IsSmall edits
    → AreInOrder 0 (length (replaced src edits)) (inverse src edits) × All HasShortText (inverse src edits)
