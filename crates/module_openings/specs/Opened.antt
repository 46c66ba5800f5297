-- Modules of the project that are used behind the opening of a module from outside: OCaml means the opened module's own
-- module, if it has one of the name (the OCaml manual, "Names" and "Module expressions").
use Rattle.std.specs.Prelude.{ℕ, ◌+◌, ◌-◌, ◌==◌, List, [], ◌∷◌, ◌++◌, Bool, true, false, ◌&&◌, ◌||◌, not, Option, Some, None, codes, cond}
use Rattle.std.specs.Prelude.{nat_le}
use Rattle.std.specs.Str.{bytes_eq}
use Rattle.rotor_base.specs.declared.place.Place.{Place}
use Rattle.ml_lexer.specs.Lexed.{Lexeme}
use Rattle.ml_trees.specs.Tree.{FileTree, UnitTree}
use Rattle.module_openings.specs.Names.{is_among}
use Rattle.module_openings.specs.Lexemes.{begins_nest, ends_nest, ends_value, is, is_upper}
use Rattle.module_openings.specs.Sources.{file_of, lexemes_of}
use Rattle.module_openings.specs.declared.opened.OpenedUse.{OpenedUse}
use Rattle.module_openings.specs.declared.opening.Opening.{Opening}
use Rattle.module_openings.specs.declared.opening.Opening.TheVariants as by
use Rattle.module_openings.specs.declared.opening.Site.{Site}

-- ---- names of modules

-- the units that are linked before, and the modules that they declare
pub record Linked : Type 0 where
  pub units : List (List ℕ)
  pub nested : List (List ℕ)

-- names at a file: those, and the module types that it declares
pub record Named : Type 0 where
  pub linked : Linked
  pub types : List (List ℕ)

-- a module declared here: `module M`, or a functor's parameter `(M :`
abbrev pub declared : Lexeme → List Lexeme → List (List ℕ)
declared x [] = []
declared x (y ∷ []) = cond (is "module" x && is_upper y) (y.bytes ∷ []) []
declared x (y ∷ (z ∷ xs)) = cond (is_upper y && (is "module" x || (is "(" x && is ":" z))) (y.bytes ∷ []) []

abbrev pub modules_in : List Lexeme → List (List ℕ)
modules_in [] = []
modules_in (x ∷ xs) = declared x xs ++ modules_in xs

-- a module type declared here
abbrev pub type_declared : Lexeme → List Lexeme → List (List ℕ)
type_declared x [] = []
type_declared x (y ∷ xs) = cond (is "type" x && is_upper y) (y.bytes ∷ []) []

abbrev pub types_in : List Lexeme → List (List ℕ)
types_in [] = []
types_in (x ∷ xs) = type_declared x xs ++ types_in xs

-- the first name of a path from outside: neither a unit, nor a module type of the file, nor one of `locals`, the modules
-- that the file declares before
abbrev pub is_outside : Named → List (List ℕ) → List ℕ → Bool
is_outside n locals name = not (is_among n.linked.units name || is_among n.types name || is_among locals name)

-- ---- openings

abbrev pub behind_bang : List Lexeme → List Lexeme
behind_bang [] = []
behind_bang (x ∷ xs) = cond (is "!" x) xs (x ∷ xs)

-- a path from outside begins here
abbrev pub path_is_outside : Named → List (List ℕ) → List Lexeme → Bool
path_is_outside n locals [] = false
path_is_outside n locals (x ∷ xs) = is_upper x && is_outside n locals x.bytes

-- the rest of a path, and then `.` and a bracket
abbrev pub opens_bracket : List Lexeme → Bool
opens_bracket [] = false
opens_bracket (x ∷ []) = false
opens_bracket (x ∷ (y ∷ xs)) = cond (is "." x) (cond (is_upper y) (opens_bracket xs) (begins_nest y)) false

-- the head of a path before a bracket, behind a word
abbrev pub heads_bracket : List ℕ → Lexeme → List Lexeme → Bool
heads_bracket before x xs = is_upper x && not (bytes_eq before (codes ".")) && opens_bracket xs

-- an `open` behind a word
abbrev pub open_behind : List ℕ → Opening
open_behind before = cond (bytes_eq before (codes "let")) by.LetOpen by.Open

-- the opening at a lexeme behind a word
abbrev pub opening_at : List ℕ → Lexeme → List Lexeme → Option Opening
opening_at before x xs =
    cond (is "open" x) (Some (open_behind before)) (cond (is "include" x) (Some by.Include)
    (cond (heads_bracket before x xs) (Some by.Path) None))

-- it opens a path from outside
abbrev pub opens_outside : Named → List (List ℕ) → Opening → Lexeme → List Lexeme → Bool
opens_outside n locals by.Include x xs = path_is_outside n locals xs
opens_outside n locals by.Path x xs = is_outside n locals x.bytes
opens_outside n locals _ x xs = path_is_outside n locals (behind_bang xs)

-- it opens another module, which may be of the project
abbrev pub brings : Named → List (List ℕ) → Option Opening → Lexeme → List Lexeme → Bool
brings n locals None x xs = false
brings n locals (Some o) x xs = not (opens_outside n locals o x xs)

-- ---- names behind an opening

-- the modules that may be meant at an opening: `locals` are declared before in its file, and `brought`: a module of the
-- project may be opened there
pub record Meant : Type 0 where
  pub named : Named
  pub locals : List (List ℕ)
  pub brought : Bool

abbrev pub is_meant : Meant → List ℕ → Bool
is_meant m name = is_among m.named.linked.units name || is_among m.locals name || (m.brought && is_among m.named.linked.nested name)

-- ---- where an opening ends

-- an item of a structure begins, behind a lexeme
abbrev pub begins_item : Lexeme → Lexeme → Bool
begins_item last x =
    is ";;" x || (ends_value last && (is "let" x || is "module" x || is "open" x || is "include" x || is "type" x || is "exception" x
    || is "external" x))

-- these lexemes begin with one of these names
abbrev pub begins_among : List (List ℕ) → List Lexeme → Bool
begins_among names [] = false
begins_among names (x ∷ xs) = is_among names x.bytes

-- an item opens or includes a path from outside, which is then the nearest. `inner`: the modules that are declared behind the
-- opening
abbrev pub opens_nearer : Meant → List (List ℕ) → Lexeme → Lexeme → List Lexeme → Bool
opens_nearer m inner last x xs =
    ((is "open" x && not (is "let" last)) || is "include" x) && path_is_outside m.named m.locals (behind_bang xs) && not
    (begins_among inner (behind_bang xs))

-- a lexeme outside of brackets ends it
abbrev pub ends_at : Meant → List (List ℕ) → Opening → Lexeme → Lexeme → List Lexeme → Bool
ends_at m inner by.Open last x xs = opens_nearer m inner last x xs
ends_at m inner by.Include last x xs = opens_nearer m inner last x xs
ends_at m inner _ last x xs = begins_item last x

-- how many brackets are open where a closing one ends it
abbrev pub floor : Opening → ℕ
floor by.Path = 1
floor _ = 0

-- a lexeme ends it, inside so many brackets
abbrev pub ends : Meant → List (List ℕ) → Opening → ℕ → Lexeme → Lexeme → List Lexeme → Bool
ends m inner o depth last x xs = (ends_nest x && nat_le depth (floor o)) || (depth == 0 && ends_at m inner o last x xs)

abbrev pub depth_behind : ℕ → Lexeme → ℕ
depth_behind depth x = cond (begins_nest x) (depth + 1) (cond (ends_nest x) (depth - 1) depth)

-- ---- uses

-- the name of a module or a constructor that is no step of a path and is not declared here, behind a lexeme
abbrev pub is_head : Lexeme → Lexeme → Bool
is_head last x = is_upper x && not (is "." last || is "module" last || is "type" last)

-- the first head of its name, behind those that were seen
abbrev pub is_first : List (List ℕ) → Lexeme → Lexeme → Bool
is_first seen last x = is_head last x && not (is_among seen x.bytes)

abbrev pub seen_behind : List (List ℕ) → Lexeme → Lexeme → List (List ℕ)
seen_behind seen last x = cond (is_first seen last x) (seen ++ x.bytes ∷ []) seen

abbrev pub use_at : Site → ℕ → List ℕ → Bool → List OpenedUse
use_at s number name false = []
use_at s number name true = record {
  at = record { file = s.at.file; token = number };
  name = name;
  by = s.at;
} ∷ []

module _ (m : Meant) (s : Site) where
  -- the first use of each module that may be meant, among lexemes from this number on, inside so many brackets
  abbrev pub uses : List (List ℕ) → List (List ℕ) → ℕ → Lexeme → ℕ → List Lexeme → List OpenedUse
  uses inner seen depth last number [] = []
  uses inner seen depth last number (x ∷ xs) =
      cond (ends m inner s.opening depth last x xs) []
      (use_at s number x.bytes (is_first seen last x && is_meant m x.bytes)
      ++ uses (inner ++ declared x xs) (seen_behind seen last x) (depth_behind depth x) x (number + 1) xs)

abbrev pub behind_first : List Lexeme → List Lexeme
behind_first [] = []
behind_first (x ∷ xs) = xs

-- the lexemes behind the keyword of an opening and the head of its path; of `M.( .. )`, those behind the head
abbrev pub behind_head : Opening → List Lexeme → List Lexeme
behind_head by.Include xs = behind_first xs
behind_head by.Path xs = xs
behind_head _ xs = behind_first (behind_bang xs)

abbrev pub begins_bang : List Lexeme → Bool
begins_bang [] = false
begins_bang (x ∷ xs) = is "!" x

-- how many lexemes are between
abbrev pub skipped : Opening → List Lexeme → ℕ
skipped by.Include xs = 1
skipped by.Path xs = 0
skipped _ xs = cond (begins_bang xs) 2 1

-- behind a site, which begins at a lexeme
abbrev pub uses_of : Meant → Site → Lexeme → List Lexeme → List OpenedUse
uses_of m s x xs = uses m s [] [] 0 x (s.at.token + 1 + skipped s.opening xs) (behind_head s.opening xs)

-- behind the opening at a lexeme, if it is one of a path from outside
abbrev pub uses_behind : Meant → Place → Lexeme → List Lexeme → Option Opening → List OpenedUse
uses_behind m at x xs None = []
uses_behind m at x xs (Some o) = cond (opens_outside m.named m.locals o x xs) (uses_of m (record { at = at; opening = o }) x xs) []

-- ---- files and units

-- behind all openings of a file, among its lexemes from a number on, behind a word
abbrev pub opened_in : Named → ℕ → List (List ℕ) → Bool → List ℕ → ℕ → List Lexeme → List OpenedUse
opened_in n file locals brought before number [] = []
opened_in n file locals brought before number (x ∷ xs) =
    uses_behind (record { named = n; locals = locals; brought = brought }) (record { file = file; token = number }) x xs (opening_at before x xs)
    ++ opened_in n file (locals ++ declared x xs) (brought || brings n locals (opening_at before x xs) x xs) x.bytes (number + 1) xs

abbrev pub opened_source : Linked → ℕ → List Lexeme → List OpenedUse
opened_source l file xs = opened_in (record { linked = l; types = types_in xs }) file [] false [] 1 xs

abbrev pub opened_file : List (List Lexeme) → Linked → Option FileTree → List OpenedUse
opened_file lists l None = []
opened_file lists l (Some tree) = opened_source l (file_of tree) (lexemes_of lists (file_of tree))

abbrev pub part_lexemes : List (List Lexeme) → Option FileTree → List Lexeme
part_lexemes lists None = []
part_lexemes lists (Some tree) = lexemes_of lists (file_of tree)

-- the names behind a unit of which the files have these lexemes
abbrev pub linked_behind : Linked → List ℕ → List Lexeme → List Lexeme → Linked
linked_behind l name xs ys = record { units = l.units ++ name ∷ []; nested = (l.nested ++ modules_in xs) ++ modules_in ys }

-- the names behind a unit
abbrev pub linked_unit : List (List Lexeme) → Linked → UnitTree → Linked
linked_unit lists l u = linked_behind l u.name (part_lexemes lists u.body) (part_lexemes lists u.face)

-- of units in link order
abbrev pub opened_units : List (List Lexeme) → Linked → List UnitTree → List OpenedUse
opened_units lists l [] = []
opened_units lists l (u ∷ us) =
    opened_file lists l u.body ++ opened_file lists l u.face
    ++ opened_units lists (linked_unit lists l u) us

abbrev pub opened_modules : List (List Lexeme) → List UnitTree → List OpenedUse
opened_modules lists us = opened_units lists (record { units = []; nested = [] }) us
