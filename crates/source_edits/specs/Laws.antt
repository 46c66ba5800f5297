-- Law: edits make at most one text of a text (own).
use Rattle.std.specs.Prelude.{◌≡◌, ℕ, List}
use Rattle.text_places.specs.declared.counting.Counting.{Counting}
use Rattle.source_edits.specs.declared.text_edit.TextEdit.{TextEdit}
use Rattle.source_edits.specs.Edited.{IsEdited}

abbrev pub EditedTextsAreOne : Type 0
EditedTextsAreOne =
    (counting : Counting) (old : List ℕ) (edits : List TextEdit) (one other : List ℕ) → IsEdited counting old edits one
    → IsEdited counting old edits other → one ≡ other
