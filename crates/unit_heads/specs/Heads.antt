-- The heads of the module paths of a tree that are not bound there (the OCaml manual, "Names", "Module expressions" and
-- "Module types"). The events of the tree give them, one after another: a state hears each event. Each definition takes
-- the heads found before, and gives these and then the tree's.
use Rattle.std.specs.Prelude.{ℕ, List, [], ◌∷◌, ◌++◌, Bool, if◌then◌else◌, Option, Some, None, length, take}
use Rattle.std.specs.List.{list_any}
use Rattle.std.specs.Str.{bytes_eq}
use Rattle.ml_trees.specs.Tok.{Name}
use Rattle.ml_trees.specs.Tree.{UpperName, Items, SigItems, FileTree, UnitTree}
use Rattle.ml_trees.specs.Events.{Event, module_path, qualifier, last_path, scope_begins, scope_ends, brings, items_out, sig_items_out, file_out}
use Rattle.tree_events.specs.Behind.{behind}

-- ---- paths

-- a name is one of these
abbrev pub is_among : List (List ℕ) → List ℕ → Bool
is_among bound name = list_any (λ other. bytes_eq other name) bound

-- the head of the path of a module
abbrev pub module_head : List (List ℕ) → List (List ℕ) → List Name → List (List ℕ)
module_head bound found [] = found
module_head bound found (x ∷ path) = if is_among bound x.text then found else found ++ x.text ∷ []

-- the head of the names before the last one of a path
abbrev pub prefix_head : List (List ℕ) → List (List ℕ) → List Name → List (List ℕ)
prefix_head bound found [] = found
prefix_head bound found (x ∷ []) = found
prefix_head bound found (x ∷ (y ∷ path)) = module_head bound found (x ∷ [])

-- ---- events

-- the names of modules that are bound here, how many are bound around each open scope, the innermost first, and the heads
-- that were found
pub record Needed : Type 0 where
  pub bound : List (List ℕ)
  pub outer : List ℕ
  pub found : List (List ℕ)

abbrev pub needed : List (List ℕ) → List ℕ → List (List ℕ) → Needed
needed bound outer found = record { bound = bound; outer = outer; found = found }

-- behind the end of the innermost scope
abbrev pub behind_scope : List (List ℕ) → List ℕ → List (List ℕ) → Needed
behind_scope bound [] found = needed bound [] found
behind_scope bound (n ∷ ns) found = needed (take n bound) ns found

-- a path needs its head, and a module is bound from its event on up to the end of the scope: opens and includes bind
-- nothing
abbrev pub hears : Needed → Event → Needed
hears s (module_path path) = needed s.bound s.outer (module_head s.bound s.found path)
hears s (qualifier path) = needed s.bound s.outer (module_head s.bound s.found path)
hears s (last_path path) = needed s.bound s.outer (prefix_head s.bound s.found path)
hears s scope_begins = needed s.bound (length s.bound ∷ s.outer) s.found
hears s scope_ends = behind_scope s.bound s.outer s.found
hears s (brings (UpperName x)) = needed (s.bound ++ x.text ∷ []) s.outer s.found
hears s _ = s

-- ---- units

-- the heads of items, behind those found before
abbrev pub items_heads : List (List ℕ) → Items → List (List ℕ)
items_heads found is = (items_out (behind hears) is (λ s. s) (needed [] [] found)).found

-- the same of the items of a signature
abbrev pub sig_items_heads : List (List ℕ) → SigItems → List (List ℕ)
sig_items_heads found is = (sig_items_out (behind hears) is (λ s. s) (needed [] [] found)).found

-- the same of a file, if there is one
abbrev pub file_heads : List (List ℕ) → Option FileTree → List (List ℕ)
file_heads found None = found
file_heads found (Some t) = (file_out (behind hears) t (λ s. s) (needed [] [] found)).found

-- the heads of the trees of a unit
abbrev pub unit_heads : UnitTree → List (List ℕ)
unit_heads u = file_heads (file_heads [] u.body) u.face
