-- Forms that read an element, where a module of the project with the name that they mean may be in scope: `a.(i)` is `Array.get a i`, and `s.[i]`
-- is `String.get s i`, of the module in scope (the OCaml manual, "Expressions", arrays and strings).
use Rattle.std.specs.Prelude.{ℕ, ◌+◌, List, [], ◌∷◌, ◌++◌, Bool, false, ◌&&◌, ◌||◌, not, Option, Some, None, codes, cond}
use Rattle.std.specs.Str.{bytes_eq}
use Rattle.rotor_base.specs.declared.place.Place.{Place}
use Rattle.ml_lexer.specs.Lexed.{Lexeme}
use Rattle.ml_trees.specs.Tree.{FileTree, UnitTree}
use Rattle.binding_model.specs.Facts.{earlier}
use Rattle.module_openings.specs.Lexemes.{is, is_lower, is_upper}
use Rattle.module_openings.specs.Sources.{file_of, lexemes_of}
use Rattle.reading_differences.specs.declared.difference.Difference.{Difference}
use Rattle.reading_differences.specs.declared.difference.Indexed.{Indexed}
use Rattle.reading_differences.specs.declared.difference.Indexed.TheVariants as form
use Rattle.reading_differences.specs.declared.difference.Parting.TheVariants.{Indexing}

-- the module that a form reads
abbrev pub module_of : Indexed → List ℕ
module_of form.Array = codes "Array"
module_of form.String = codes "String"

-- its bracket
abbrev pub bracket_of : Indexed → List ℕ
bracket_of form.Array = codes "("
bracket_of form.String = codes "["

abbrev pub names : Indexed → Lexeme → Bool
names f x = bytes_eq x.bytes (module_of f)

-- a module of the name is declared here: `module Array`, or a functor's parameter `(Array :`
abbrev pub declares : Indexed → Lexeme → List Lexeme → Bool
declares f x [] = false
declares f x (y ∷ []) = names f y && is "module" x
declares f x (y ∷ (z ∷ xs)) = names f y && (is "module" x || (is "(" x && is ":" z))

abbrev pub declared_in : Indexed → List Lexeme → Bool
declared_in f [] = false
declared_in f (x ∷ xs) = declares f x xs || declared_in f xs

abbrev pub opens_index : Indexed → Lexeme → List Lexeme → Bool
opens_index f x [] = false
opens_index f x (y ∷ xs) = is "." x && bytes_eq y.bytes (bracket_of f)

-- behind a name of a module, a `.` before no name opens the module
abbrev pub opens_path : Lexeme → List Lexeme → Bool
opens_path x [] = false
opens_path x (y ∷ xs) = is "." x && not (is_upper y) && not (is_lower y)

-- a module is opened or included here. `behind`: the lexeme before is a name of a module or a constructor
abbrev pub opens_module : Bool → Lexeme → List Lexeme → Bool
opens_module behind x xs = is "open" x || is "include" x || (behind && opens_path x xs)

-- a module of the name may be in scope from this lexeme on. `nested`: a module of an earlier unit has one
abbrev pub brings : Indexed → Bool → Bool → Lexeme → List Lexeme → Bool
brings f nested behind x xs = declares f x xs || (nested && opens_module behind x xs)

-- The number of the first lexeme at which the form begins, where a module of the name may be in scope. `known`: one may be
-- before these lexemes.
abbrev pub first_index : Indexed → Bool → Bool → Bool → ℕ → List Lexeme → Option ℕ
first_index f nested known behind number [] = None
first_index f nested known behind number (x ∷ xs) =
    cond (known && not behind && opens_index f x xs) (Some number)
    (first_index f nested (known || brings f nested behind x xs) (is_upper x) (number + 1) xs)

abbrev pub place_in : ℕ → Option ℕ → List Place
place_in file None = []
place_in file (Some number) = record { file = file; token = number } ∷ []

abbrev pub index_in : Indexed → List (List Lexeme) → Bool → Bool → Option FileTree → List Place
index_in f lists nested known None = []
index_in f lists nested known (Some tree) = place_in (file_of tree) (first_index f nested known false 1 (lexemes_of lists (file_of tree)))

abbrev pub declares_file : Indexed → List (List Lexeme) → Option FileTree → Bool
declares_file f lists None = false
declares_file f lists (Some tree) = declared_in f (lexemes_of lists (file_of tree))

-- a module of a unit has the name
abbrev pub declares_unit : Indexed → List (List Lexeme) → UnitTree → Bool
declares_unit f lists u = declares_file f lists u.body || declares_file f lists u.face

-- of units in link order, the first place in each file. `nested`: a module of an earlier unit has the name; `known`: an
-- earlier unit has it
abbrev pub indexes : Indexed → List (List Lexeme) → Bool → Bool → List UnitTree → List Place
indexes f lists nested known [] = []
indexes f lists nested known (u ∷ us) =
    index_in f lists nested known u.body ++ index_in f lists nested known u.face
    ++ indexes f lists (nested || declares_unit f lists u) (known || bytes_eq u.name (module_of f)) us

-- the first of a place, if there is one, and more places
abbrev pub first_place : Option Place → List Place → Option Place
first_place best [] = best
first_place best (p ∷ ps) = first_place (earlier best p) ps

abbrev pub index_at : Indexed → Option Place → List Difference
index_at f None = []
index_at f (Some at) = record { at = at; how = Indexing f } ∷ []

-- the first place of all
abbrev pub indexing : Indexed → List (List Lexeme) → List UnitTree → List Difference
indexing f lists us = index_at f (first_place None (indexes f lists false false us))
