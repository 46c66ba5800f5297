-- Functors that are applied in types, as `F(A).t` (the OCaml manual, "Names", extended module paths). OCaml matches the
-- argument with the functor's parameter.
use Rattle.std.specs.Prelude.{ℕ, ◌+◌, List, [], ◌∷◌, ◌++◌, Bool, false, ◌&&◌, ◌||◌, not, Option, Some, None, codes, cond}
use Rattle.std.specs.Str.{bytes_eq}
use Rattle.rotor_base.specs.declared.place.Place.{Place}
use Rattle.ml_lexer.specs.Lexed.{Lexeme}
use Rattle.module_openings.specs.Lexemes.{is, is_lower, is_upper}
use Rattle.reading_differences.specs.declared.difference.Difference.{Difference}
use Rattle.reading_differences.specs.declared.difference.Parting.TheVariants.{Types}

-- `.` and a lower-case name
abbrev pub begins_field : List Lexeme → Bool
begins_field (x ∷ (y ∷ xs)) = is "." x && is_lower y
begins_field _ = false

-- the last name of the path that begins here, if `)`, `.` and a lower-case name follow it
abbrev pub argument_in : List Lexeme → Option (List ℕ)
argument_in [] = None
argument_in (x ∷ []) = None
argument_in (x ∷ (y ∷ xs)) =
    cond (is_upper x) (cond (is "." y) (argument_in xs) (cond (is ")" y && begins_field xs) (Some x.bytes) None)) None

-- the same of a path behind a `(`
abbrev pub argument_behind : List Lexeme → Option (List ℕ)
argument_behind [] = None
argument_behind (x ∷ xs) = cond (is "(" x) (argument_in xs) None

-- a module expression may follow this word
abbrev pub begins_module : List ℕ → Bool
begins_module word = bytes_eq word (codes "include") || bytes_eq word (codes "=") || bytes_eq word (codes "module")

-- the last name of the argument of a lexeme behind a word, if it is a functor that is applied in a type
abbrev pub applied_to : List ℕ → Lexeme → List Lexeme → Option (List ℕ)
applied_to before x xs = cond (is_upper x && not (begins_module before)) (argument_behind xs) None

abbrev pub application : Place → Option (List ℕ) → List Difference
application at None = []
application at (Some argument) = record { at = at; how = Types argument } ∷ []

-- the functors that are applied in types, among lexemes of a source from this number on, behind a word
abbrev pub applications_in : ℕ → List ℕ → ℕ → List Lexeme → List Difference
applications_in file before number [] = []
applications_in file before number (x ∷ xs) =
    application (record { file = file; token = number }) (applied_to before x xs) ++ applications_in file x.bytes (number + 1) xs
