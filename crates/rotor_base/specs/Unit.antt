-- The units that sources give (the OCaml manual, "Compilation units").
use Rattle.std.specs.Prelude.{ℕ, List, [], ◌∷◌, ◌-◌, if◌then◌else◌, length, take}
use Rattle.std.specs.Char.{to_ascii_uppercase}
use Rattle.rotor_base.specs.Stem.{is_body_name}

-- the stem of a source: its name without `.ml` or `.mli`
abbrev pub stem_of : List ℕ → List ℕ
stem_of name = if is_body_name name then take (length name - 3) name else take (length name - 4) name

-- a word with its first letter in upper case
abbrev pub capitalized : List ℕ → List ℕ
capitalized [] = []
capitalized (b ∷ bs) = to_ascii_uppercase b ∷ bs

-- the unit of a source: its stem with the first letter in upper case
unfoldable pub unit_of : List ℕ → List ℕ
unit_of name = capitalized (stem_of name)
