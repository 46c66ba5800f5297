-- Files of the same tokens, which differ in blanks, comments and attributes alone (the OCaml manual, "Lexical
-- conventions").
use Rattle.std.specs.Prelude.{◌≡◌, ℕ, List, [], ◌∷◌, Bool, map}
use Rattle.rotor_base.specs.Files.{FileSet}
use Rattle.rotor_base.specs.declared.place.Place.{Place}
use Rattle.rotor_base.specs.declared.report.Renamed.{Renamed}
use Rattle.rotor_base.specs.declared.source.SourceFile.{SourceFile}
use Rattle.rotor_base.specs.declared.target.Target.{Target}
use Rattle.rotor_base.specs.declared.target.Target.TheVariants.{At, Spot, Dotted}
use Rattle.rotor_base.specs.declared.token.Class.{Class}
use Rattle.ml_lexer.specs.Lexed.{Lexeme, Lexed}
use Rattle.parse_base.specs.Forms.{is_binding_operator}
use Rattle.project_reading.specs.Source.{tokens_of}
use Rattle.rename_model.specs.Target.{IsSpot}
use Rattle.shape_core.specs.Shape.{Name}

-- the kinds and texts of lexemes
abbrev pub texts_of : List Lexeme → List (Class × List ℕ)
texts_of xs = map (λ x. (x.class, x.bytes)) xs

-- whether each lexeme is a `let` or `and` that an infix or `=` directly follows: a blank there makes other tokens of them
abbrev pub joins_of : List Lexeme → List Bool
joins_of [] = []
joins_of (x ∷ xs) = is_binding_operator (tokens_of (x ∷ xs)) ∷ joins_of xs

-- two sources have one name, and are cut into the same tokens
pub record HaveSameTokens (one other : SourceFile) : Type 0 where
  pub ones : List Lexeme
  pub others : List Lexeme
  pub name : one.name ≡ other.name
  pub cut_one : Lexed one.bytes ones
  pub cut_other : Lexed other.bytes others
  pub texts : texts_of ones ≡ texts_of others
  pub joins : joins_of ones ≡ joins_of others

-- the same of the sources of two lists
abbrev pub AllHaveSameTokens : List SourceFile → List SourceFile → Type 0
AllHaveSameTokens [] [] = Unit {0}
AllHaveSameTokens [] (other ∷ others) = ⊥
AllHaveSameTokens (one ∷ ones) [] = ⊥
AllHaveSameTokens (one ∷ ones) (other ∷ others) = HaveSameTokens one other × AllHaveSameTokens ones others

-- the files differ in what is between tokens alone
pub record DifferInBlanks (one other : FileSet) : Type 0 where
  pub sources : AllHaveSameTokens one.entries other.entries
  pub manifest : one.manifest ≡ other.manifest

-- two targets name the same token: by its number, by a dotted path, or by a spot in each of the files
pub data NameTheSame (one other : FileSet) : Target → Target → Type 0 where
  by_number : (file : Name) (token : ℕ) → NameTheSame one other (At file token) (At file token)
  by_path : (path : List Name) → NameTheSame one other (Dotted path) (Dotted path)
  by_spot : (file again : Name) (line column row place : ℕ) (at : Place) → IsSpot one.entries file (line, column) at
      → IsSpot other.entries again (row, place) at → NameTheSame one other (Spot file line column) (Spot again row place)

-- two renamings do the same, and their new files differ in blanks alone
pub record DoTheSame (one other : Renamed) : Type 0 where
  pub files : DifferInBlanks one.files other.files
  pub changed : one.changed ≡ other.changed
  pub old : one.old ≡ other.old
  pub new : one.new ≡ other.new
  pub foot : one.foot ≡ other.foot
  pub refs : one.refs ≡ other.refs
  pub undo_at : one.undo_at ≡ other.undo_at
