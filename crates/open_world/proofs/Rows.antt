-- Worked rows, computed: a project beside an outside module that holds a value, and beside one that holds a module.
use Rattle.std.proofs.Common.{◌≡◌, ℕ, List, [], ◌∷◌, ◌++◌, false, Some, None, codes, refl}
use Rattle.rotor_base.specs.declared.place.Place.{Place}
use Rattle.rotor_base.specs.declared.place.Goal.{Goal}
use Rattle.rotor_base.specs.declared.place.Goal.TheVariants.{Decl, Blur}
use Rattle.rotor_base.specs.declared.place.Ref.{Ref}
use Rattle.rotor_base.specs.declared.token.Class.TheVariants as class
use Rattle.ml_trees.specs.Tok.{Name}
use Rattle.ml_trees.specs.Tree.{PlainName, ValuePat, Expr, Literal, Value, PlainBinding, no_binding, UpperName, Struct, no_functor_param, no_type}
use Rattle.ml_trees.specs.Tree.{Item, ValueItem, ModuleItem, OpenItem, Items, no_item, more_item, Body, UnitTree}
use Rattle.shape_core.specs.Links.{◌&◌, matched}
use Rattle.shape_core.specs.Shape.{none}
use Rattle.binding_model.specs.Facts.{facts}
use Rattle.binding_model.specs.Renaming.{Renaming, respell}
use Rattle.open_world.specs.Laws.{HoldValues}

abbrev n : ℕ → List ℕ → Name
n at x = record { at = at; text = x }

abbrev pl : ℕ → ℕ → Place
pl f t = record { file = f; token = t }

abbrev r : Place → Goal → Ref
r at g = record { at = at; goal = g }

-- `let x = e`, whose name is this token
abbrev a_let : ℕ → List ℕ → Expr → Item
a_let at x e = ValueItem 0 false (PlainBinding (ValuePat (PlainName (n at x))) None 0 e) no_binding

abbrev one : Expr
one = Literal class.Int (n 4 (codes "1"))

abbrev unit : List ℕ → ℕ → Items → UnitTree
unit name file is = record { name = name; body = Some (Body file is); face = None }

-- ---- a module of values: a.ml is `open Out let g = x let h = g`, and out.ml is `let x = 1`

abbrev project : List UnitTree
project =
    unit (codes "A") 0
    (more_item (OpenItem 1 None (n 2 (codes "Out") ∷ []))
    (more_item (a_let 4 (codes "g") (Value [] (PlainName (n 6 (codes "x")))))
    (more_item (a_let 8 (codes "h") (Value [] (PlainName (n 10 (codes "g"))))) no_item)))
    ∷ []

abbrev outside : List UnitTree
outside = unit (codes "Out") 1 (more_item (a_let 2 (codes "x") one) no_item) ∷ []

abbrev to_k : Renaming
to_k = (pl 0 4, codes "k") ∷ []

holds : HoldValues none outside
holds = (tt, tt)

-- alone, `x` may be a value of `Out`
alone : (facts project).refs ≡ r (pl 0 6) (Blur (pl 0 1) 1 None) ∷ (r (pl 0 10) (Decl (pl 0 4)) ∷ [])
unfolding matched ◌&◌
alone = refl

-- beside `Out` it is its value
beside : (facts (outside ++ project)).refs ≡ r (pl 0 6) (Decl (pl 1 2)) ∷ (r (pl 0 10) (Decl (pl 0 4)) ∷ [])
unfolding matched ◌&◌
beside = refl

-- and so it is if `g` becomes `k`
renamed : facts (respell (outside ++ project) to_k) ≡ facts (outside ++ project)
unfolding matched ◌&◌
renamed = refl

-- ---- a module of a module: list.ml is `let length = 1`, main.ml is `open Stdlib let y = List.length`, and stdlib.ml
-- is `module List = struct let length = 1 end`

abbrev users : List UnitTree
users =
    unit (codes "List") 0 (more_item (a_let 2 (codes "length") one) no_item)
    ∷ (unit (codes "Main") 1
    (more_item (OpenItem 1 None (n 2 (codes "Stdlib") ∷ []))
    (more_item (a_let 4 (codes "y") (Value (n 6 (codes "List") ∷ []) (PlainName (n 8 (codes "length"))))) no_item))
    ∷ [])

abbrev stdlib : List UnitTree
stdlib =
    unit (codes "Stdlib") 2
    (more_item
    (ModuleItem 1 (UpperName (n 2 (codes "List"))) no_functor_param no_type 3 (Struct 4 (more_item (a_let 6 (codes "length") one) no_item))) no_item)
    ∷ []

-- alone, the use is of list.ml; beside `Stdlib` it is of the module in it, so the law is false there
own_list : (facts users).refs ≡ r (pl 1 8) (Decl (pl 0 2)) ∷ []
unfolding matched ◌&◌
own_list = refl

other_list : (facts (stdlib ++ users)).refs ≡ r (pl 1 8) (Decl (pl 2 6)) ∷ []
unfolding matched ◌&◌
other_list = refl

holds_no_values : HoldValues none stdlib → ⊥
holds_no_values h = h.0
