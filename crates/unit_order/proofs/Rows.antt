-- Small units: the heads of their paths, and their order.
use Rattle.std.proofs.Common.{◌≡◌, List, [], ◌∷◌, Some, None, codes, refl, rules, ℕ}
use Rattle.ml_trees.specs.Tok.{Name}
use Rattle.ml_trees.specs.Tree as pure
use Rattle.unit_heads.specs.Heads.{unit_heads}
use Rattle.unit_order.specs.Order.{taking, derived_order, order_of, IsStuck}

abbrev word : ℕ → List ℕ → Name
word at text = record { at = at; text = text }

abbrev use_of : List ℕ → List ℕ → pure.Item
use_of m x = pure.ExprItem (pure.Value (word 2 m ∷ []) (pure.PlainName (word 4 x)))

abbrev unit : pure.Items → pure.UnitTree
unit is = record { name = codes "A"; body = Some (pure.Body 0 is); face = None }

abbrev empty : pure.ModExpr
empty = pure.Struct 1 pure.no_item

abbrev module_item : List ℕ → pure.ModExpr → pure.Item
module_item x m = pure.ModuleItem 1 (pure.UpperName (word 1 x)) pure.no_functor_param pure.no_type 3 m

-- `B.y` needs `B`
outer : unit_heads (unit (pure.more_item (use_of (codes "B") (codes "y")) pure.no_item)) ≡ codes "B" ∷ []
outer = refl

-- `module B = struct end` before it binds `B`
bound : unit_heads (unit (pure.more_item (module_item (codes "B") empty) (pure.more_item (use_of (codes "B") (codes "y")) pure.no_item))) ≡ []
bound = refl

-- behind it, it does not
unbound : unit_heads (unit (pure.more_item (use_of (codes "B") (codes "y")) (pure.more_item (module_item (codes "B") empty) pure.no_item)))
    ≡ codes "B" ∷ []
unbound = refl

-- `module B = B` needs `B`
itself : unit_heads (unit (pure.more_item (module_item (codes "B") (pure.ModPath (word 4 (codes "B") ∷ []))) pure.no_item)) ≡ codes "B" ∷ []
itself = refl

-- what a structure binds ends with it
within : unit_heads (unit
    (pure.more_item (module_item (codes "C") (pure.Struct 1 (pure.more_item (module_item (codes "B") empty) pure.no_item)))
    (pure.more_item (use_of (codes "B") (codes "y")) pure.no_item))) ≡ codes "B" ∷ []
within = refl

-- `None` has no path before it, `M.None` has
constr : unit_heads (unit
    (pure.more_item (pure.ExprItem (pure.Constr (word 1 (codes "None") ∷ [])))
    (pure.more_item (pure.ExprItem (pure.Constr (word 1 (codes "M") ∷ word 3 (codes "None") ∷ []))) pure.no_item))) ≡ codes "M" ∷ []
constr = refl

-- a parameter is bound in the body and in the parameters behind it
functor : unit_heads (unit
    (pure.more_item (pure.IncludeItem 1
    (pure.Functor 1 (pure.more_functor_param
    (pure.NamedParam 2 (pure.UpperName (word 3 (codes "X"))) (pure.TypePath (word 4 (codes "X") ∷ word 5 (codes "S") ∷ [])))
    (pure.more_functor_param (pure.NamedParam 2 (pure.UpperName (word 3 (codes "Y"))) (pure.TypePath (word 4 (codes "X") ∷ word 5 (codes "S") ∷ [])))
    pure.no_functor_param)) (pure.ModPath (word 9 (codes "Y") ∷ [])))) pure.no_item)) ≡ codes "X" ∷ []
functor = refl

-- a unit of this name whose body uses a value of each of these modules
abbrev uses : List (List ℕ) → pure.Items
uses [] = pure.no_item
uses (m ∷ ms) = pure.more_item (use_of m (codes "x")) (uses ms)

abbrev named : List ℕ → List (List ℕ) → pure.UnitTree
named name ms = record { name = name; body = Some (pure.Body 0 (uses ms)); face = None }

-- `A` needs `B`, and `B` needs no unit of the folder
after : derived_order (named (codes "A") (codes "B" ∷ []) ∷ named (codes "B") (codes "B" ∷ codes "List" ∷ []) ∷ []) ≡ codes "B" ∷ codes "A" ∷ []
unfolding taking
after = refl

-- each time the first in byte order is taken
again : derived_order (named (codes "A") (codes "C" ∷ []) ∷ named (codes "B") [] ∷ named (codes "C") [] ∷ named (codes "D") [] ∷ []) ≡ codes "B"
    ∷ codes "C" ∷ codes "A" ∷ codes "D" ∷ []
unfolding taking
again = refl

-- `A` and `B` need each other
abbrev pair : List pure.UnitTree
pair = named (codes "A") (codes "B" ∷ []) ∷ named (codes "B") (codes "A" ∷ []) ∷ []

none : derived_order pair ≡ []
unfolding taking
none = refl

stuck : IsStuck pair (codes "A")
stuck = record {
  before = [];
  at = named (codes "A") (codes "B" ∷ []);
  behind = named (codes "B") (codes "A" ∷ []) ∷ [];
  split = refl;
  named = refl;
  cycle = (1, refl);
  first = search rules;
}

-- the lines of a manifest
lines_of : order_of pair (Some (codes "B\r\n\nA")) ≡ codes "B" ∷ codes "A" ∷ []
lines_of = refl
