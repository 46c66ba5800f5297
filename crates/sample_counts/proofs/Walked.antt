-- What the units of a sample bring to a scope, and the references that they make.
use Rattle.std.proofs.Common.{◌≡◌, ◌∙◌, refl, ap, ℕ, List, [], ◌∷◌, ◌++◌, true, false, None, Some, Option, codes}
use Rattle.std.proofs.Common.{length}
use Rattle.rotor_base.specs.declared.place.Place.{Place}
use Rattle.rotor_base.specs.declared.place.Goal.{Goal}
use Rattle.rotor_base.specs.declared.place.Goal.TheVariants.{Decl, Outside}
use Rattle.rotor_base.specs.declared.place.Ref.{Ref}
use Rattle.ml_trees.specs.Tree.{Body, UnitTree, Item, Items, no_item, more_item, SeparatorItem, ModuleItem, ModExpr, Struct as ModStruct, TypePath}
use Rattle.std.specs.Str.{bytes_eq}
use Rattle.shape_core.specs.Shape.{Name, Shape, Struct, Functor, Opaque, Entries, none, a_val, a_mod, a_mty, ◌⊕◌, vals}
use Rattle.shape_core.specs.Shape.{mods, last_of, last_place, or_value}
use Rattle.shape_core.specs.Shape.{or_else, passed, seen, value_at, value_in, some_if, brought, type_in, Unitary}
use Rattle.shape_core.proofs.Lists.{find_vals, find_mods, passed-append, append_none}
use Rattle.binding_model.specs.Scopes.{unit_shape, after_unit, type_shape, entries, adds, applied}
use Rattle.binding_model.specs.Steps.{a_ref, refs_of}
use Rattle.binding_model.specs.Walk.{unit_steps, items_steps, item_steps, apply_steps}
use Rattle.sample_counts.proofs.Trees.{first_items, other_items}

-- a file and a token
abbrev pub pl : ℕ → ℕ → Place
pl f t = record { file = f; token = t }

-- the `f` of `S`
abbrev pub sig_f : Place
sig_f = pl 0 7

-- the units
abbrev pub first_unit : UnitTree
first_unit = record { name = codes "U0"; body = Some (Body 0 first_items); face = None }

abbrev pub other_unit : List ℕ → ℕ → UnitTree
other_unit name file = record { name = name; body = Some (Body file other_items); face = None }

-- the shape of the signature, and of the first unit
abbrev pub sig_shape : Shape
sig_shape = Struct (a_val (codes "f") (Decl sig_f) none)

abbrev pub first_shape : Shape
first_shape = Struct (a_mty (codes "S") sig_shape (a_mod (codes "Base") (Struct (a_val (codes "f") (Decl (pl 0 16)) none)) none))

-- it has this shape, and no reference
first_is : unit_shape none first_unit ≡ first_shape
first_is = refl

first_refs : refs_of (unit_steps none first_unit) ≡ []
first_refs = refl

-- ---- a scope that has the first unit, and besides it modules alone

pub record HasFirst (sc : Entries) : Type 0 where
  pub first : last_of (mods sc) (codes "U0") ≡ Some first_shape
  pub no_value : (x : Name) → last_of (vals sc) x ≡ None
  pub no_dark : (x : Name) → passed sc x ≡ []

-- a look-up in a scope, from what is found and what is passed
looks_up : (sc : Entries) (x : Name) (o : Option Goal) (ps : List Place) → last_of (vals sc) x ≡ o → passed sc x ≡ ps
    → value_at sc x ≡ or_value (seen o (last_place ps) (length ps)) Outside
looks_up sc x o ps v p =
    ap (λ (f : Option Goal). or_value (seen f (last_place (passed sc x)) (length (passed sc x))) Outside) v
    ∙ ap (λ (l : List Place). or_value (seen o (last_place l) (length l)) Outside) p

-- one more module
module _ (sc : Entries) (X : Name) (s : Shape) where
  abbrev with_mod : Entries
  with_mod = sc ⊕ a_mod X s none

  pub mod_values : (x : Name) → last_of (vals sc) x ≡ None → last_of (vals with_mod) x ≡ None
  mod_values x h = find_vals sc (a_mod X s none) x ∙ h

  pub mod_passed : (x : Name) → passed sc x ≡ [] → passed with_mod x ≡ []
  mod_passed x h = passed-append sc (a_mod X s none) x ∙ ap (λ (l : List Place). l ++ []) h

  pub mod_keeps : (Y : Name) → bytes_eq X Y ≡ false → last_of (mods with_mod) Y ≡ last_of (mods sc) Y
  mod_keeps Y h = find_mods sc (a_mod X s none) Y ∙ ap (λ b. or_else (some_if b s) (last_of (mods sc) Y)) h

  pub mod_is : (Y : Name) → bytes_eq X Y ≡ true → last_of (mods with_mod) Y ≡ Some s
  mod_is Y h = find_mods sc (a_mod X s none) Y ∙ ap (λ b. or_else (some_if b s) (last_of (mods sc) Y)) h

pub still_first : (sc : Entries) (X : Name) (s : Shape) → HasFirst sc → bytes_eq X (codes "U0") ≡ false → HasFirst (sc ⊕ a_mod X s none)
still_first sc X s h other = record {
  first = mod_keeps sc X s (codes "U0") other ∙ h.first;
  no_value = λ x. mod_values sc X s x (h.no_value x);
  no_dark = λ x. mod_passed sc X s x (h.no_dark x);
}

pub after_first : HasFirst (after_unit none first_unit)
after_first = record { first = refl; no_value = λ x. refl; no_dark = λ x. refl }

-- ---- the items of another unit

abbrev pub head : Items → Item
head no_item = SeparatorItem
head (more_item i is) = i

abbrev pub tail : Items → Items
tail no_item = no_item
tail (more_item i is) = is

-- the items of the functor's body
abbrev body_of : ModExpr → Items
body_of (ModStruct at is) = is
body_of _ = no_item

abbrev body_of_item : Item → Items
body_of_item (ModuleItem at x ps s eq m) = body_of m
body_of_item _ = no_item

abbrev inner : Items
inner = body_of_item (head other_items)

-- what the functor's body has
abbrev pub body_entries : ℕ → Entries
body_entries j = a_val (codes "f") (Decl sig_f) (a_val (codes "g") (Decl (pl j 15)) none)

abbrev body_refs : ℕ → List Ref
body_refs j = a_ref (pl j 17) (Decl sig_f) ∷ a_ref (pl j 18) Outside ∷ a_ref (pl j 19) (Decl sig_f) ∷ []

module _ (j : ℕ) (sc : Entries) (no_value : (x : Name) → last_of (vals sc) x ≡ None) (no_dark : (x : Name) → passed sc x ≡ []) where
  -- the scope behind the `include`
  abbrev opened : Entries
  opened = sc ⊕ a_val (codes "f") (Decl sig_f) none

  sees_f : value_at opened (codes "f") ≡ Decl sig_f
  sees_f = looks_up opened (codes "f") (Some (Decl sig_f)) [] (find_vals sc (a_val (codes "f") (Decl sig_f) none) (codes "f"))
      (passed-append sc (a_val (codes "f") (Decl sig_f) none) (codes "f"))

  sees_plus : value_at opened (codes "+") ≡ Outside
  sees_plus =
      looks_up opened (codes "+") None [] (find_vals sc (a_val (codes "f") (Decl sig_f) none) (codes "+") ∙ no_value (codes "+"))
      (passed-append sc (a_val (codes "f") (Decl sig_f) none) (codes "+") ∙ ap (λ (l : List Place). l ++ []) (no_dark (codes "+")))

  abbrev three : Goal → Goal → List Ref
  three f plus = a_ref (pl j 17) f ∷ a_ref (pl j 18) plus ∷ a_ref (pl j 19) f ∷ []

  inner_at : (es : Entries) → es ≡ opened → refs_of (items_steps j es (tail inner)) ≡ body_refs j
  inner_at es e =
      ap (λ (l : Entries). three (value_at l (codes "f")) (value_at l (codes "+"))) e
      ∙ ap (λ (g : Goal). three g (value_at opened (codes "+"))) sees_f
      ∙ ap (three (Decl sig_f)) sees_plus

  inner_refs : last_of (mods sc) (codes "X") ≡ Some sig_shape → refs_of (items_steps j sc inner) ≡ body_refs j
  inner_refs x =
      ap (λ (o : Option Shape). refs_of (items_steps j (sc ⊕ brought (or_value o Opaque) (pl j 12) ⊕ none) (tail inner))) x
      ∙ inner_at (opened ⊕ none) (append_none opened)

  inner_entries : last_of (mods sc) (codes "X") ≡ Some sig_shape → entries j sc inner ≡ body_entries j
  inner_entries x = ap (λ (o : Option Shape). brought (or_value o Opaque) (pl j 12) ⊕ (a_val (codes "g") (Decl (pl j 15)) none)) x

-- ---- an application makes no references
apply_refs : (f a : Shape) → refs_of (apply_steps f a) ≡ []
apply_refs (Struct es) a = refl
apply_refs (Functor p r) a = refl
apply_refs (Unitary r) a = refl
apply_refs Opaque a = refl

abbrev pub made : Entries → Shape
made es = Functor sig_shape (Struct es)

module _ (j : ℕ) (sc : Entries) (h : HasFirst sc) where
  -- the parameter, and the scope of the functor's body
  abbrev param : Shape
  param = type_shape j sc (TypePath (record { at = 6; text = codes "U0" } ∷ record { at = 8; text = codes "S" } ∷ []))

  param_is : param ≡ sig_shape
  param_is = ap (λ (o : Option Shape). type_in (or_value o Opaque) (codes "S")) h.first

  abbrev within : Entries
  within = sc ⊕ a_mod (codes "X") sig_shape none

  within_x : last_of (mods within) (codes "X") ≡ Some sig_shape
  within_x = mod_is sc (codes "X") sig_shape (codes "X") refl

  within_value : (x : Name) → last_of (vals within) x ≡ None
  within_value x = mod_values sc (codes "X") sig_shape x (h.no_value x)

  within_dark : (x : Name) → passed within x ≡ []
  within_dark x = mod_passed sc (codes "X") sig_shape x (h.no_dark x)

  functor_refs : refs_of (item_steps j sc (head other_items)) ≡ body_refs j
  functor_refs =
      ap (λ (s : Shape). refs_of (items_steps j (sc ⊕ a_mod (codes "X") s none) inner) ++ []) param_is
      ∙ ap (λ (l : List Ref). l ++ []) (inner_refs j within within_value within_dark within_x)

  pub functor_adds : adds j sc (head other_items) ≡ a_mod (codes "M") (made (body_entries j)) none
  functor_adds =
      ap (λ (s : Shape). a_mod (codes "M") (Functor s (Struct (entries j (sc ⊕ a_mod (codes "X") s none) inner))) none) param_is
      ∙ ap (λ (es : Entries). a_mod (codes "M") (made es) none) (inner_entries j within within_value within_dark within_x)

-- the items behind the functor
module _ (j : ℕ) (sc : Entries) (es : Entries) (is : last_of (mods sc) (codes "M") ≡ Some (made (a_val (codes "f") (Decl sig_f) es))) where
  functor_seen : last_of (mods (sc ⊕ none)) (codes "M") ≡ Some (made (a_val (codes "f") (Decl sig_f) es))
  functor_seen = ap (λ (l : Entries). last_of (mods l) (codes "M")) (append_none sc) ∙ is

  applied_refs : refs_of (item_steps j sc (head (tail other_items))) ≡ []
  applied_refs = ap (λ (l : List Ref). (l ++ []) ++ []) (apply_refs _ _)

  abbrev result : Shape
  result = Struct (a_val (codes "f") (Decl sig_f) es)

  applied_adds : adds j sc (head (tail other_items)) ≡ a_mod (codes "A") result none
  applied_adds = ap (λ (o : Option Shape). a_mod (codes "A") (applied (or_value o Opaque)) none) functor_seen

  abbrev behind : Entries
  behind = sc ⊕ a_mod (codes "A") result none

  result_seen : last_of (mods (behind ⊕ none)) (codes "A") ≡ Some result
  result_seen = ap (λ (l : Entries). last_of (mods l) (codes "A")) (append_none behind) ∙ mod_is sc (codes "A") result (codes "A") refl

  rest_refs : refs_of (items_steps j sc (tail other_items)) ≡ a_ref (pl j 35) (value_in result (codes "f")) ∷ []
  rest_refs =
      ap (λ (l : List Ref). l ++ refs_of (items_steps j (sc ⊕ adds j sc (head (tail other_items)) ⊕ none) (tail (tail other_items)))) applied_refs
      ∙ ap (λ (new : Entries). refs_of (items_steps j (sc ⊕ new ⊕ none) (tail (tail other_items)))) applied_adds
      ∙ ap (λ (o : Option Shape). a_ref (pl j 35) (value_in (or_value o Opaque) (codes "f")) ∷ []) result_seen

-- the references of another unit
abbrev pub other_refs : ℕ → List Ref
other_refs j =
    a_ref (pl j 17) (Decl sig_f) ∷ a_ref (pl j 18) Outside ∷ a_ref (pl j 19) (Decl sig_f) ∷ a_ref (pl j 35) (Decl sig_f) ∷ []

module _ (j : ℕ) (sc : Entries) (h : HasFirst sc) where
  abbrev beyond : Entries
  beyond = sc ⊕ a_mod (codes "M") (made (body_entries j)) none

  beyond_functor : last_of (mods (beyond ⊕ none)) (codes "M") ≡ Some (made (body_entries j))
  beyond_functor =
      ap (λ (l : Entries). last_of (mods l) (codes "M")) (append_none beyond) ∙ mod_is sc (codes "M") (made (body_entries j)) (codes "M") refl

  all_refs : refs_of (items_steps j sc other_items) ≡ other_refs j
  all_refs =
      ap (λ (l : List Ref). l ++ refs_of (items_steps j (sc ⊕ adds j sc (head other_items) ⊕ none) (tail other_items))) (functor_refs j sc h)
      ∙ ap (λ (new : Entries). body_refs j ++ refs_of (items_steps j (sc ⊕ new ⊕ none) (tail other_items))) (functor_adds j sc h)
      ∙ ap (λ (l : List Ref). body_refs j ++ l) (rest_refs j (beyond ⊕ none) (a_val (codes "g") (Decl (pl j 15)) none) beyond_functor)

  pub unit_refs : (name : List ℕ) → refs_of (unit_steps sc (other_unit name j)) ≡ other_refs j
  unit_refs name = ap (λ (l : List Ref). l ++ []) all_refs
