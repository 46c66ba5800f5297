-- What the lines of a report are made of (own).
use Rattle.std.specs.Prelude.{ℕ, List, [], ◌∷◌, ◌++◌, Option, Some, None, codes, unwrap_or, slice_get}
use Rattle.std.specs.Fmt.{decimal}
use Rattle.rotor_base.specs.declared.place.Place.{Place}
use Rattle.rotor_base.specs.declared.place.Goal.{Goal}
use Rattle.rotor_base.specs.declared.place.Goal.TheVariants.{Decl, Outside, Missing, Hidden, Blur}
use Rattle.rotor_base.specs.declared.token.FormKind.{FormKind}
use Rattle.rotor_base.specs.declared.token.FormKind.TheVariants.{Object, Package, RecModule, AbsModType, WithModule, LocalModule, OpenStruct}
use Rattle.rotor_base.specs.declared.token.FormKind.TheVariants.{Extension, BindOp, Hash, AmpOr}

abbrev pub Word : Type 0
Word = List ℕ

-- some words, one directly behind the other
abbrev pub join : List Word → Word
join [] = []
join (x ∷ []) = x
join (x ∷ y ∷ ys) = x ++ join (y ∷ ys)

-- the name of a source by its number; a number past the list has the empty name
abbrev pub file_of : List Word → ℕ → Word
file_of names file = unwrap_or (slice_get names file) []

-- FILE#N
abbrev pub place_text : List Word → Place → Word
place_text names p = join (file_of names p.file ∷ codes "#" ∷ decimal p.token ∷ [])

-- P NAME: a place and a name
abbrev pub placed_name : List Word → Place → Word → Word
placed_name names at name = join (place_text names at ∷ codes " " ∷ name ∷ [])

-- FILE@OFFSET
abbrev pub offset_text : List Word → ℕ → ℕ → Word
offset_text names file offset = join (file_of names file ∷ codes "@" ∷ decimal offset ∷ [])

-- the declaration behind an outside module
abbrev pub behind_text : List Word → Option Place → Word
behind_text names None = codes "outside"
behind_text names (Some p) = place_text names p

-- a goal
abbrev pub goal_text : List Word → Goal → Word
goal_text names (Decl p) = place_text names p
goal_text names Outside = codes "outside"
goal_text names Missing = codes "missing"
goal_text names Hidden = codes "hidden"
goal_text names (Blur by passed behind) = join (codes "blur:" ∷ place_text names by ∷ codes ":" ∷ behind_text names behind ∷ [])

-- the kind of a form that is refused
abbrev pub kind_text : FormKind → Word
kind_text Object = codes "object"
kind_text Package = codes "package"
kind_text RecModule = codes "recmodule"
kind_text AbsModType = codes "absmodtype"
kind_text WithModule = codes "withmodule"
kind_text LocalModule = codes "localmodule"
kind_text OpenStruct = codes "openstruct"
kind_text Extension = codes "extension"
kind_text BindOp = codes "bindop"
kind_text Hash = codes "hash"
kind_text AmpOr = codes "ampor"
