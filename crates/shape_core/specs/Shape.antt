-- Shapes, look-ups and weights (own; the OCaml manual, "Names", "Module types" and "Module
-- expressions").
use Rattle.std.specs.Prelude.{ℕ, zero, suc, ◌+◌, Bool, true, false, List, [], ◌∷◌, length, Option, Some, None, max, min, bytes_eq}
use Rattle.rotor_base.specs.declared.place.Place.{Place}
use Rattle.rotor_base.specs.declared.place.Goal.{Goal}
use Rattle.rotor_base.specs.declared.place.Goal.TheVariants.{Decl, Outside, Missing, Hidden, Blur}

abbrev pub Name : Type 0
Name = List ℕ

mutual
  -- what a module or a module type is (the manual: Module types; Module expressions)
  pub data Shape : Type 0 where
    Struct : (es : Entries) → Shape
    Functor : (param result : Shape) → Shape
    Unitary : (result : Shape) → Shape
    Opaque : Shape

  -- a scope, or what a structure has, in order: values with their goals, modules and module types with their shapes,
  -- and the openings of outside modules. What a later entry hides stays in the list
  pub data Entries : Type 0 where
    none : Entries
    a_val : (x : Name) (g : Goal) (rest : Entries) → Entries
    a_mod : (X : Name) (s : Shape) (rest : Entries) → Entries
    a_mty : (S : Name) (s : Shape) (rest : Entries) → Entries
    a_dark : (at : Place) (rest : Entries) → Entries

infixl 50 ◌⊕◌
-- one list of entries after another
abbrev pub ◌⊕◌ : Entries → Entries → Entries
none ⊕ b = b
(a_val x g a) ⊕ b = a_val x g (a ⊕ b)
(a_mod X s a) ⊕ b = a_mod X s (a ⊕ b)
(a_mty S s a) ⊕ b = a_mty S s (a ⊕ b)
(a_dark at a) ⊕ b = a_dark at (a ⊕ b)

-- the values in order (the manual: Names)
abbrev pub vals : Entries → List (Name × Goal)
vals none = []
vals (a_val x g es) = (x, g) ∷ vals es
vals (a_mod X s es) = vals es
vals (a_mty S s es) = vals es
vals (a_dark at es) = vals es

-- the modules in order
abbrev pub mods : Entries → List (Name × Shape)
mods none = []
mods (a_val x g es) = mods es
mods (a_mod X s es) = (X, s) ∷ mods es
mods (a_mty S s es) = mods es
mods (a_dark at es) = mods es

-- the module types in order
abbrev pub mtys : Entries → List (Name × Shape)
mtys none = []
mtys (a_val x g es) = mtys es
mtys (a_mod X s es) = mtys es
mtys (a_mty S s es) = (S, s) ∷ mtys es
mtys (a_dark at es) = mtys es

-- the openings of outside modules in order
abbrev pub darks : Entries → List Place
darks none = []
darks (a_val x g es) = darks es
darks (a_mod X s es) = darks es
darks (a_mty S s es) = darks es
darks (a_dark at es) = at ∷ darks es

-- the first option, else the second
abbrev pub or_else : {V : Type 0} → Option V → Option V → Option V
or_else (Some v) o = Some v
or_else None o = o

abbrev pub some_if : {V : Type 0} → Bool → V → Option V
some_if true v = Some v
some_if false v = None

abbrev pub or_value : {V : Type 0} → Option V → V → V
or_value (Some v) w = v
or_value None w = w

abbrev pub unless_some : {V W : Type 0} → Option V → W → W → W
unless_some (Some v) a b = b
unless_some None a b = a

-- the last of that name
abbrev pub last_of : {V : Type 0} → List (Name × V) → Name → Option V
last_of [] x = None
last_of (e ∷ es) x = or_else (last_of es x) (some_if (bytes_eq e.0 x) e.1)

-- the Dark entries that a look-up of the value x passes: those after the last value of that name, or all of them
abbrev pub passed : Entries → Name → List Place
passed none x = []
passed (a_val y g es) x = passed es x
passed (a_mod X s es) x = passed es x
passed (a_mty S s es) x = passed es x
passed (a_dark at es) x = unless_some (last_of (vals es) x) (at ∷ passed es x) (passed es x)

-- the last of some places
abbrev pub last_place : List Place → Option Place
last_place [] = None
last_place (at ∷ ats) = or_else (last_place ats) (Some at)

-- the declaration of a goal
abbrev pub decl_of : Goal → Option Place
decl_of (Decl d) = Some d
decl_of Outside = None
decl_of Missing = None
decl_of Hidden = None
decl_of (Blur by n behind) = None

abbrev pub behind_of : Option Goal → Option Place
behind_of None = None
behind_of (Some g) = decl_of g

-- what is found through a number of Dark entries, of which `by` is the last. It is None if no value is found and no
-- Dark entry is passed
abbrev pub seen : Option Goal → Option Place → ℕ → Option Goal
seen found None n = found
seen found (Some by) n = Some (Blur by n (behind_of found))

-- Look-up of a value: its last entry, seen through the Dark entries after it (the manual: Names)
abbrev pub find_val : Entries → Name → Option Goal
find_val es x = seen (last_of (vals es) x) (last_place (passed es x)) (length (passed es x))

-- Look-up of a module, and of a module type
abbrev pub find_mod : Entries → Name → Option Shape
find_mod es X = last_of (mods es) X

abbrev pub find_mty : Entries → Name → Option Shape
find_mty es S = last_of (mtys es) S

-- a step into a module: nothing if it is absent, or if the shape is no structure
abbrev pub step : Shape → Name → Option Shape
step (Struct es) X = find_mod es X
step (Functor p r) X = None
step (Unitary r) X = None
step Opaque X = None

abbrev pub step_from : Option Shape → Name → Option Shape
step_from None X = None
step_from (Some s) X = step s X

abbrev pub inside : Option Shape → List Name → Option Shape
inside s [] = s
inside s (X ∷ p) = inside (step_from s X) p

-- the module at the end of a path, from the path's head, or nothing if the path ends nowhere (the manual: Names)
abbrev pub find_path : Entries → List Name → Option Shape
find_path sc [] = None
find_path sc (X ∷ p) = inside (find_mod sc X) p

-- walk: a path that ends nowhere gives Opaque
abbrev pub walk : Entries → List Name → Shape
walk sc p = or_value (find_path sc p) Opaque

-- a value looked up in a scope, and under a module
abbrev pub value_at : Entries → Name → Goal
value_at sc x = or_value (find_val sc x) Outside

abbrev pub value_in : Shape → Name → Goal
value_in (Struct es) x = or_value (find_val es x) Missing
value_in (Functor p r) x = Outside
value_in (Unitary r) x = Outside
value_in Opaque x = Outside

-- a module type under a path
abbrev pub type_in : Shape → Name → Shape
type_in (Struct es) S = or_value (find_mty es S) Opaque
type_in (Functor p r) S = Opaque
type_in (Unitary r) S = Opaque
type_in Opaque S = Opaque

-- what an opening at a place brings
abbrev pub brought : Shape → Place → Entries
brought (Struct es) at = es
brought (Functor p r) at = a_dark at none
brought (Unitary r) at = a_dark at none
brought Opaque at = a_dark at none

-- the entries of a structure, and the parts of a functor
abbrev pub entries_in : Shape → Entries
entries_in (Struct es) = es
entries_in (Functor p r) = none
entries_in (Unitary r) = none
entries_in Opaque = none

abbrev pub param_of : Shape → Option Shape
param_of (Struct es) = None
param_of (Functor p r) = Some p
param_of (Unitary r) = None
param_of Opaque = None

abbrev pub result_of : Shape → Option Shape
result_of (Struct es) = None
result_of (Functor p r) = Some r
result_of (Unitary r) = Some r
result_of Opaque = None

-- the entries from a position on
abbrev pub entries_from : ℕ → Entries → Entries
entries_from zero es = es
entries_from (suc n) none = none
entries_from (suc n) (a_val x g es) = entries_from n es
entries_from (suc n) (a_mod X s es) = entries_from n es
entries_from (suc n) (a_mty S s es) = entries_from n es
entries_from (suc n) (a_dark at es) = entries_from n es

-- the positions of the values in a list whose first entry has a given position
abbrev pub values_from : ℕ → Entries → List ℕ
values_from n none = []
values_from n (a_val x g es) = n ∷ values_from (suc n) es
values_from n (a_mod X s es) = values_from (suc n) es
values_from n (a_mty S s es) = values_from (suc n) es
values_from n (a_dark at es) = values_from (suc n) es

-- Visible: the first entry of a list is hidden by none of its kind and name after it, and is not Dark
abbrev pub is_shown : Entries → Bool
is_shown none = false
is_shown (a_val x g es) = unless_some (last_of (vals es) x) true false
is_shown (a_mod X s es) = unless_some (last_of (mods es) X) true false
is_shown (a_mty S s es) = unless_some (last_of (mtys es) S) true false
is_shown (a_dark at es) = false

abbrev mutual
  -- the weight of a shape (this project's own)
  pub weight : Shape → ℕ
  weight (Struct es) = weights es
  weight (Functor p r) = 1 + (weight p + weight r)
  weight (Unitary r) = 1 + weight r
  weight Opaque = 0

  -- the sum over entries of 1 and the weight of the entry's shape
  pub weights : Entries → ℕ
  weights none = 0
  weights (a_val x g es) = 1 + weights es
  weights (a_mod X s es) = (1 + weight s) + weights es
  weights (a_mty S s es) = (1 + weight s) + weights es
  weights (a_dark at es) = 1 + weights es

-- the weight, or the greatest weight if it is more
abbrev pub capped : ℕ → ℕ
capped n = min n 16777216

abbrev mutual
  -- the number of levels of shapes below a shape
  pub depth : Shape → ℕ
  depth (Struct es) = depths es
  depth (Functor p r) = max (depth p) (depth r) + 1
  depth (Unitary r) = depth r + 1
  depth Opaque = 0

  pub depths : Entries → ℕ
  depths none = 0
  depths (a_val x g es) = depths es
  depths (a_mod X s es) = max (depth s + 1) (depths es)
  depths (a_mty S s es) = max (depth s + 1) (depths es)
  depths (a_dark at es) = depths es
