-- The goal of a target: the binder that a target word names (this project's own).
use Rattle.std.specs.Prelude.{◌≡◌, ℕ, suc, List, [], ◌∷◌, Bool, Option, Some, None, option_map, slice_get, bytes_eq, nat_le, nat_lt, ◌==◌, ◌&&◌}
use Rattle.std.specs.Prelude.{if◌then◌else◌}
use Rattle.rotor_base.specs.declared.place.Place.{Place}
use Rattle.rotor_base.specs.declared.place.Goal.{Goal}
use Rattle.rotor_base.specs.declared.place.Goal.TheVariants.{Decl, Blur}
use Rattle.rotor_base.specs.declared.source.SourceFile.{SourceFile}
use Rattle.rotor_base.specs.declared.target.Target.{Target}
use Rattle.rotor_base.specs.declared.target.Target.TheVariants.{At, Spot, Dotted}
use Rattle.rotor_base.specs.Files.{FileSet}
use Rattle.ml_lexer.specs.Lexed.{Lexeme, Lexed}
use Rattle.ml_trees.specs.Tree.{UnitTree}
use Rattle.shape_core.specs.Shape.{Name, Opaque, Entries, none, or_else, or_value, find_val, find_mod, find_mty, entries_in}
use Rattle.binding_model.specs.Scopes.{after_units}
use Rattle.binding_model.specs.Renaming.{IsBinder}

-- the position of the first item that passes a test
abbrev pub first_at : {X : Type 0} → (X → Bool) → List X → Option ℕ
first_at test [] = None
first_at test (x ∷ xs) = if test x then Some 0 else option_map suc (first_at test xs)

-- the number of the source of a name: its position, from 0
abbrev pub number_of : List SourceFile → Name → Option ℕ
number_of files name = first_at (λ file. bytes_eq file.name name) files

-- ---- by line and column

-- a line and a column, both from 1
abbrev pub TextSpot : Type 0
TextSpot = ℕ × ℕ

-- the spot of the next byte: a line ends with its LF
abbrev pub behind : TextSpot → ℕ → TextSpot
behind spot b = if b == 10 then (suc spot.0, 1) else (spot.0, suc spot.1)

abbrev pub is_spot : TextSpot → TextSpot → Bool
is_spot s t = s.0 == t.0 && s.1 == t.1

-- the offset of the byte at a spot, if the first byte is at `here`; an LF is on no line
abbrev pub offset_from : TextSpot → TextSpot → List ℕ → Option ℕ
offset_from spot here [] = None
offset_from spot here (b ∷ bs) =
    if is_spot here spot then (if b == 10 then None else Some 0) else option_map suc (offset_from spot (behind here b) bs)

abbrev pub offset_of : TextSpot → List ℕ → Option ℕ
offset_of spot bytes = offset_from spot (1, 1) bytes

-- the number of the lexeme that holds a byte, from 1
abbrev pub holds : ℕ → Lexeme → Bool
holds offset x = nat_le x.start offset && nat_lt offset x.end

abbrev pub lexeme_over : ℕ → List Lexeme → Option ℕ
lexeme_over offset xs = option_map suc (first_at (holds offset) xs)

abbrev pub and_then : {A B : Type 0} → Option A → (A → Option B) → Option B
and_then None f = None
and_then (Some a) f = f a

-- the number of the lexeme that holds the byte at a spot
abbrev pub token_over : TextSpot → List ℕ → List Lexeme → Option ℕ
token_over spot bytes xs = and_then (offset_of spot bytes) (λ offset. lexeme_over offset xs)

-- the token of a source that holds the byte at a spot
pub record IsSpot (files : List SourceFile) (name : Name) (spot : TextSpot) (at : Place) : Type 0 where
  pub source : SourceFile
  pub lexemes : List Lexeme
  pub number : number_of files name ≡ Some at.file
  pub here : slice_get files at.file ≡ Some source
  pub cut : Lexed source.bytes lexemes
  pub token : token_over spot source.bytes lexemes ≡ Some at.token

-- ---- by a dotted path

-- a step of a path: to the last module of that name, else to the last module type of that name; what is no structure
-- has no entries
abbrev pub step_in : Entries → Name → Entries
step_in es X = entries_in (or_value (or_else (find_mod es X) (find_mty es X)) Opaque)

-- the declaration that a look-up of a value finds, also behind Dark entries
abbrev pub decl_found : Option Goal → Option Place
decl_found None = None
decl_found (Some (Decl d)) = Some d
decl_found (Some (Blur by n behind)) = behind
decl_found (Some _) = None

-- the declaration that a path names: its last name is the last value of that name, whatever Dark entries follow it
abbrev pub dotted : Entries → List Name → Option Place
dotted es [] = None
dotted es (x ∷ []) = decl_found (find_val es x)
dotted es (X ∷ (Y ∷ path)) = dotted (step_in es X) (Y ∷ path)

-- ---- the three forms

-- the place that a target names
abbrev pub Names : FileSet → List UnitTree → Target → Place → Type 0
Names files us (At file token) at = (number_of files.entries file ≡ Some at.file) × (token ≡ at.token)
Names files us (Spot file line column) at = IsSpot files.entries file (line, column) at
Names files us (Dotted path) at = dotted (after_units none us) path ≡ Some at

-- the goal of a target: that place, if it is a binder
abbrev pub Aims : FileSet → List UnitTree → Target → Place → Type 0
Aims files us target d = Names files us target d × IsBinder us d
