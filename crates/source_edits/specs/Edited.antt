-- A text with edits applied as an editor applies them (Language Server Protocol 3.17, "TextEdit[]").
use Rattle.std.specs.Prelude.{◌≡◌, ◌⊎◌, ℕ, suc, ◌≤◌, ◌==◌, ◌&&◌, nat_le, nat_lt, List, [], ◌∷◌, ◌++◌, Bool, Some, if◌then◌else◌}
use Rattle.std.specs.List.{AllPairs, flat_map, list_any}
use Rattle.edits.specs.declared.Edit.{Edit}
use Rattle.text_places.specs.declared.counting.Counting.{Counting}
use Rattle.text_places.specs.Marks.{offset_of}
use Rattle.source_edits.specs.declared.text_edit.TextEdit.{TextEdit}

-- the range of an edit names a span of the old text, which takes the edit's text
pub record Names (counting : Counting) (old : List ℕ) (edit : TextEdit) (span : Edit) : Type 0 where
  pub first : offset_of counting edit.range.start old ≡ Some span.start
  pub behind : offset_of counting edit.range.end old ≡ Some span.end
  pub forwards : span.start ≤ span.end
  pub text : span.text ≡ edit.text

-- the same of each edit and the span at its place in the list
abbrev pub EachNames : Counting → List ℕ → List TextEdit → List Edit → Type 0
EachNames counting old [] [] = Unit {0}
EachNames counting old (edit ∷ edits) (span ∷ spans) = Names counting old edit span × EachNames counting old edits spans
EachNames counting old _ _ = ⊥

-- two spans do not overlap
abbrev pub AreApart : Edit → Edit → Type 0
AreApart span other = (span.end ≤ other.start) ⊎ (other.end ≤ span.start)

-- the texts of the spans that begin at a byte, in the order of the list
abbrev pub texts_at : ℕ → List Edit → List ℕ
texts_at at spans = flat_map (λ (span : Edit). if span.start == at then span.text else []) spans

-- one of the spans holds a byte
abbrev pub is_covered : ℕ → List Edit → Bool
is_covered at spans = list_any (λ (span : Edit). nat_le span.start at && nat_lt at span.end) spans

-- The bytes from the offset `at` on, edited: each text is where its span begins, and a byte that a span holds is left out.
abbrev pub edited_from : ℕ → List ℕ → List Edit → List ℕ
edited_from at [] spans = texts_at at spans
edited_from at (b ∷ bs) spans = texts_at at spans ++ ((if is_covered at spans then [] else b ∷ []) ++ edited_from (suc at) bs spans)

-- Edits make a new text of an old one. All their ranges are those of the old text, and no two overlap.
pub record IsEdited (counting : Counting) (old : List ℕ) (edits : List TextEdit) (new : List ℕ) : Type 0 where
  pub spans : List Edit
  pub names : EachNames counting old edits spans
  pub apart : AllPairs AreApart spans
  pub text : new ≡ edited_from 0 old spans
