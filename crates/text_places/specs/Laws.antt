-- The laws of lines and columns (own).
use Rattle.std.specs.Prelude.{◌≡◌, ℕ, ◌≤◌, List, [], ◌∷◌, ◌++◌, Some, Contains, length, map}
use Rattle.std.specs.Str.{IsUtf8}
use Rattle.text_places.specs.declared.counting.Counting.{Counting}
use Rattle.text_places.specs.declared.counting.Counting.TheVariants.{People}
use Rattle.text_places.specs.Marks.{marks, offset_of, position_of}

-- a character or a line end begins at the offset, or the text ends there
abbrev pub Begins : Counting → List ℕ → ℕ → Type 0
Begins counting bytes offset = Contains (map (λ m. m.offset) (marks counting bytes)) offset

-- the position of an offset at which something begins names it
abbrev pub ComesBack : Type 0
ComesBack =
    (counting : Counting) (bytes : List ℕ) (offset : ℕ) → Begins counting bytes offset
    → offset_of counting (position_of counting offset bytes) bytes ≡ Some offset

-- a text is cut between CR and LF
pub record IsCut (front rest : List ℕ) : Type 0 where
  pub before : List ℕ
  pub after : List ℕ
  pub ends : front ≡ before ++ 13 ∷ []
  pub begins : rest ≡ 10 ∷ after

-- something begins behind each front that is a text in UTF-8, but not between CR and LF
abbrev pub CharactersBegin : Type 0
CharactersBegin =
    (counting : Counting) (front rest : List ℕ) → IsUtf8 front → (IsCut front rest → ⊥) → Begins counting (front ++ rest) (length front)

-- as people count, something begins at each byte
abbrev pub EachByteBegins : Type 0
EachByteBegins = (bytes : List ℕ) (offset : ℕ) → offset ≤ length bytes → Begins People bytes offset
