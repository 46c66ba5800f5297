-- Which line of a manifest is bad, in words of its lines (own).
use Rattle.std.specs.Prelude.{◌≡◌, ◌≢◌, ◌⊎◌, ◌↔◌, ℕ, ◌+◌, List, [], ◌∷◌, ◌++◌, Contains, Option, Some, None, length, map}
use Rattle.rotor_base.specs.Files.{bad_line}
use Rattle.rotor_base.specs.declared.unit.SourceUnit.{SourceUnit}

-- the names of the units
abbrev pub unit_names : List SourceUnit → List (List ℕ)
unit_names units = map (λ unit. unit.name) units

-- the line is empty, or names a unit that no line before it names
abbrev pub IsGood : List SourceUnit → List (List ℕ) → List ℕ → Type 0
IsGood units before line = (line ≡ []) ⊎ (Contains (unit_names units) line × (Contains before line → ⊥))

-- each of the lines is good
abbrev pub AreGood : List SourceUnit → List (List ℕ) → Type 0
AreGood units lines = (before after : List (List ℕ)) (line : List ℕ) → lines ≡ before ++ line ∷ after → IsGood units before line

-- the name is not empty, and a line is this name
abbrev pub HasLine : List (List ℕ) → List ℕ → Type 0
HasLine lines name = (name ≢ []) × Contains lines name

-- the first line that is not good has this number, counted from 1
pub record IsFirstBad (units : List SourceUnit) (lines : List (List ℕ)) (number : ℕ) : Type 0 where
  pub before : List (List ℕ)
  pub line : List ℕ
  pub after : List (List ℕ)
  pub split : lines ≡ before ++ line ∷ after
  pub counted : number ≡ length before + 1
  pub good : AreGood units before
  pub bad : IsGood units before line → ⊥

-- all lines are good, a unit has no line, and the number is one more than the number of lines
pub record IsShort (units : List SourceUnit) (lines : List (List ℕ)) (number : ℕ) : Type 0 where
  pub counted : number ≡ length lines + 1
  pub good : AreGood units lines
  pub name : List ℕ
  pub named : Contains (unit_names units) name
  pub without : HasLine lines name → ⊥

-- no line is bad: all are good, and each unit has a line; or the bad line has this number
abbrev pub IsBadLine : List SourceUnit → List (List ℕ) → Option ℕ → Type 0
IsBadLine units lines None = AreGood units lines × ((name : List ℕ) → Contains (unit_names units) name → HasLine lines name)
IsBadLine units lines (Some number) = IsFirstBad units lines number ⊎ IsShort units lines number

-- `bad_line` is this answer exactly if the lines are so
abbrev pub AnswersBadLine : Type 0
AnswersBadLine = (lines : List (List ℕ)) (units : List SourceUnit) (answer : Option ℕ) → (bad_line lines units ≡ answer)
    ↔ IsBadLine units lines answer

-- units that have the same names have the same bad line
abbrev pub DependsOnNames : Type 0
DependsOnNames =
    (lines : List (List ℕ)) (us vs : List SourceUnit)
    → ((name : List ℕ) → Contains (unit_names us) name ↔ Contains (unit_names vs) name) → bad_line lines us ≡ bad_line lines vs
