-- The likeness of the scopes, lists and shapes of a project and of those of the project with the outside modules.
use Rattle.std.proofs.Common.{◌≡◌, ℕ, Bool, true, false, List, [], ◌∷◌, Option, Some, None, refl, sym, ap, subst, ◌∙◌}
use Rattle.std.specs.Prelude.{bytes_eq}
use Rattle.rotor_base.specs.declared.place.Place.{Place}
use Rattle.rotor_base.specs.declared.place.Goal.TheVariants.{Decl}
use Rattle.ml_trees.specs.Tok.{Name as Word}
use Rattle.value_sites.specs.Places.{Site}
use Rattle.shape_core.specs.Shape.{Name, Shape, Struct, Functor, Unitary, Opaque, Entries, none, a_val, a_mod, a_mty, a_dark, ◌⊕◌, mods, mtys}
use Rattle.shape_core.specs.Shape.{or_else, or_value, some_if, last_of, find_mod, find_mty, step, step_from, inside}
use Rattle.shape_core.specs.Shape.{walk, type_in, brought}
use Rattle.shape_core.specs.Respell.{Words, over}
use Rattle.shape_core.proofs.Founds.{each, last_of-each, or_value-over}
use Rattle.shape_core.proofs.Lists.{append_assoc, append_none, mods-append, mtys-append, last_of-append}
use Rattle.binding_model.specs.Scopes.{texts, path_shape, type_under, applied, here, bound}
use Rattle.binding_model.specs.Walk.{apply_steps}
use Rattle.open_world.proofs.Alike.{Alike, IsKept, quiet_alike, match_alike, pin_alike}
use Rattle.open_world.proofs.Twofold.{Values, block, Twofold, Known, Maps, Makes, Unknown, Filled, Parts, end, val, mod_of, mty_of, dark, filled}
use Rattle.open_world.proofs.Twofold.{old, olds}
use Rattle.open_world.proofs.Twofold.{new, news, KeptBlock, twofold_mods, twofold_mtys, old_mod, new_mod, old_mty, new_mty}

-- the outside modules with their values, as entries of a scope
abbrev pub Outsides : Type 0
Outsides = List (Name × Values)

abbrev pub base : Outsides → Entries
base [] = none
base (e ∷ us) = a_mod e.0 (Struct (block e.1)) (base us)

-- the files keep their numbers, and variables are the same
abbrev pub own_number : ℕ → ℕ
own_number f = f

abbrev pub Equal : Entries → Entries → Type 0
Equal a b = a ≡ b

-- ---- parts one after another

abbrev and_then : Parts → Parts → Parts
and_then end k = k
and_then (val x g m) k = val x g (and_then m k)
and_then (mod_of X s m) k = mod_of X s (and_then m k)
and_then (mty_of S s m) k = mty_of S s (and_then m k)
and_then (dark at m) k = dark at (and_then m k)
and_then (filled at vs m) k = filled at vs (and_then m k)

olds_then : (m k : Parts) → olds (and_then m k) ≡ olds m ⊕ olds k
olds_then end k = refl
olds_then (val x g m) k = ap (a_val x g) (olds_then m k)
olds_then (mod_of X s m) k = ap (a_mod X (old s)) (olds_then m k)
olds_then (mty_of S s m) k = ap (a_mty S (old s)) (olds_then m k)
olds_then (dark at m) k = ap (a_dark at) (olds_then m k)
olds_then (filled at vs m) k = ap (a_dark at) (olds_then m k)

news_then : (m k : Parts) → news (and_then m k) ≡ news m ⊕ news k
news_then end k = refl
news_then (val x g m) k = ap (a_val x g) (news_then m k)
news_then (mod_of X s m) k = ap (a_mod X (new s)) (news_then m k)
news_then (mty_of S s m) k = ap (a_mty S (new s)) (news_then m k)
news_then (dark at m) k = ap (a_dark at) (news_then m k)
news_then (filled at vs m) k = ap (λ l. block vs ⊕ l) (news_then m k) ∙ sym (append_assoc (block vs) (news m) (news k))

-- ---- values

abbrev values_of : ℕ → List Site → Parts
values_of f [] = end
values_of f (x ∷ xs) = val x.name (Decl (here f x.at)) (values_of f xs)

olds_values : (f : ℕ) (xs : List Site) → olds (values_of f xs) ≡ bound f xs
olds_values f [] = refl
olds_values f (x ∷ xs) = ap (a_val x.name (Decl (here f x.at))) (olds_values f xs)

news_values : (f : ℕ) (xs : List Site) → news (values_of f xs) ≡ bound f xs
news_values f [] = refl
news_values f (x ∷ xs) = ap (a_val x.name (Decl (here f x.at))) (news_values f xs)

-- ---- openings

abbrev brought_by : Twofold → Place → Parts
brought_by (Known m) at = m
brought_by (Maps p r) at = dark at end
brought_by (Makes r) at = dark at end
brought_by Unknown at = dark at end
brought_by (Filled vs) at = filled at vs end

olds_brought : (t : Twofold) (at : Place) → olds (brought_by t at) ≡ brought (old t) at
olds_brought (Known m) at = refl
olds_brought (Maps p r) at = refl
olds_brought (Makes r) at = refl
olds_brought Unknown at = refl
olds_brought (Filled vs) at = refl

news_brought : (t : Twofold) (at : Place) → news (brought_by t at) ≡ brought (new t) at
news_brought (Known m) at = refl
news_brought (Maps p r) at = refl
news_brought (Makes r) at = refl
news_brought Unknown at = refl
news_brought (Filled vs) at = append_none (block vs)

-- ---- paths

abbrev step_by : Twofold → Name → Option Twofold
step_by (Known m) X = last_of (twofold_mods m) X
step_by (Maps p r) X = None
step_by (Makes r) X = None
step_by Unknown X = None
step_by (Filled vs) X = None

abbrev step_on : Option Twofold → Name → Option Twofold
step_on None X = None
step_on (Some t) X = step_by t X

abbrev inside_by : Option Twofold → List Name → Option Twofold
inside_by o [] = o
inside_by o (X ∷ p) = inside_by (step_on o X) p

no_mods : (vs : Values) → mods (block vs) ≡ []
no_mods [] = refl
no_mods (e ∷ vs) = no_mods vs

no_mtys : (vs : Values) → mtys (block vs) ≡ []
no_mtys [] = refl
no_mtys (e ∷ vs) = no_mtys vs

old_step : (t : Twofold) (X : Name) → step (old t) X ≡ over old (step_by t X)
old_step (Known m) X = old_mod m X
old_step (Maps p r) X = refl
old_step (Makes r) X = refl
old_step Unknown X = refl
old_step (Filled vs) X = refl

new_step : (t : Twofold) (X : Name) → step (new t) X ≡ over new (step_by t X)
new_step (Known m) X = new_mod m X
new_step (Maps p r) X = refl
new_step (Makes r) X = refl
new_step Unknown X = refl
new_step (Filled vs) X = ap (λ l. last_of l X) (no_mods vs)

old_steps : (o : Option Twofold) (X : Name) → step_from (over old o) X ≡ over old (step_on o X)
old_steps None X = refl
old_steps (Some t) X = old_step t X

new_steps : (o : Option Twofold) (X : Name) → step_from (over new o) X ≡ over new (step_on o X)
new_steps None X = refl
new_steps (Some t) X = new_step t X

old_inside : (o : Option Twofold) (p : List Name) → inside (over old o) p ≡ over old (inside_by o p)
old_inside o [] = refl
old_inside o (X ∷ p) = ap (λ t. inside t p) (old_steps o X) ∙ old_inside (step_on o X) p

new_inside : (o : Option Twofold) (p : List Name) → inside (over new o) p ≡ over new (inside_by o p)
new_inside o [] = refl
new_inside o (X ∷ p) = ap (λ t. inside t p) (new_steps o X) ∙ new_inside (step_on o X) p

abbrev or_unknown : Option Twofold → Twofold
or_unknown o = or_value o Unknown

nothing_inside : (p : List Name) → inside None p ≡ None
nothing_inside [] = refl
nothing_inside (X ∷ p) = nothing_inside p

base_mods : (us : Outsides) → mods (base us) ≡ each (λ vs. Struct (block vs)) us
base_mods [] = refl
base_mods (e ∷ us) = ap (λ l. (e.0, Struct (block e.1)) ∷ l) (base_mods us)

base_mod : (us : Outsides) (X : Name) → find_mod (base us) X ≡ over (λ vs. Struct (block vs)) (last_of us X)
base_mod us X = ap (λ l. last_of l X) (base_mods us) ∙ last_of-each (λ vs. Struct (block vs)) us X

base_mtys : (us : Outsides) → mtys (base us) ≡ []
base_mtys [] = refl
base_mtys (e ∷ us) = base_mtys us

behind_base : (us : Outsides) (m : Parts) (X : Name) → find_mod (base us ⊕ news m) X ≡ or_else (over new (last_of (twofold_mods m) X))
    (over (λ vs. Struct (block vs)) (last_of us X))
behind_base us m X =
    ap (λ l. last_of l X) (mods-append (base us) (news m)) ∙ last_of-append (mods (base us)) (mods (news m)) X
    ∙ ap (λ o. or_else o (find_mod (base us) X)) (new_mod m X) ∙ ap (or_else (over new (last_of (twofold_mods m) X))) (base_mod us X)

types_behind : (us : Outsides) (m : Parts) (X : Name) → find_mty (base us ⊕ news m) X ≡ over new (last_of (twofold_mtys m) X)
types_behind us m X =
    ap (λ l. last_of l X) (mtys-append (base us) (news m)) ∙ last_of-append (mtys (base us)) (mtys (news m)) X
    ∙ ap (λ l. or_else (find_mty (news m) X) (last_of l X)) (base_mtys us) ∙ none_after (find_mty (news m) X) ∙ new_mty m X
  where
    none_after : (o : Option Shape) → or_else o None ≡ o
    none_after None = refl
    none_after (Some s) = refl

-- a module of a scope: one of the parts, or an outside module
abbrev in_scope : Option Twofold → Option Values → Option Twofold
in_scope (Some t) o = Some t
in_scope None (Some vs) = Some (Filled vs)
in_scope None None = None

-- a path through the parts, or an outside module at its end
abbrev path_by : Option Twofold → Option Values → List Name → Twofold
path_by (Some t) o p = or_unknown (inside_by (Some t) p)
path_by None (Some vs) [] = Filled vs
path_by None (Some vs) (X ∷ p) = Unknown
path_by None None p = Unknown

old_path : (o : Option Twofold) (u : Option Values) (p : List Name) → or_value (inside (over old o) p) Opaque ≡ old (path_by o u p)
old_path (Some t) u p = ap (λ a. or_value a Opaque) (old_inside (Some t) p) ∙ or_value-over old (inside_by (Some t) p) Unknown
old_path None (Some vs) [] = refl
old_path None (Some vs) (X ∷ p) = ap (λ a. or_value a Opaque) (nothing_inside p)
old_path None None p = ap (λ a. or_value a Opaque) (nothing_inside p)

new_path : (o : Option Twofold) (u : Option Values) (p : List Name)
    → or_value (inside (or_else (over new o) (over (λ vs. Struct (block vs)) u)) p) Opaque ≡ new (path_by o u p)
new_path (Some t) u p = ap (λ a. or_value a Opaque) (new_inside (Some t) p) ∙ or_value-over new (inside_by (Some t) p) Unknown
new_path None (Some vs) [] = refl
new_path None (Some vs) (X ∷ p) =
    ap (λ a. or_value (inside a p) Opaque) (ap (λ l. last_of l X) (no_mods vs)) ∙ ap (λ a. or_value a Opaque) (nothing_inside p)
new_path None None p = ap (λ a. or_value a Opaque) (nothing_inside p)

-- ---- module types

abbrev type_by : Twofold → Name → Twofold
type_by (Known m) S = or_unknown (last_of (twofold_mtys m) S)
type_by (Maps p r) S = Unknown
type_by (Makes r) S = Unknown
type_by Unknown S = Unknown
type_by (Filled vs) S = Unknown

abbrev under_by : Twofold → List Name → Twofold
under_by t [] = Unknown
under_by t (S ∷ []) = type_by t S
under_by t (X ∷ (Y ∷ p)) = under_by (or_unknown (step_by t X)) (Y ∷ p)

old_type : (t : Twofold) (S : Name) → type_in (old t) S ≡ old (type_by t S)
old_type (Known m) S = ap (λ o. or_value o Opaque) (old_mty m S) ∙ or_value-over old (last_of (twofold_mtys m) S) Unknown
old_type (Maps p r) S = refl
old_type (Makes r) S = refl
old_type Unknown S = refl
old_type (Filled vs) S = refl

new_type : (t : Twofold) (S : Name) → type_in (new t) S ≡ new (type_by t S)
new_type (Known m) S = ap (λ o. or_value o Opaque) (new_mty m S) ∙ or_value-over new (last_of (twofold_mtys m) S) Unknown
new_type (Maps p r) S = refl
new_type (Makes r) S = refl
new_type Unknown S = refl
new_type (Filled vs) S = ap (λ l. or_value (last_of l S) Opaque) (no_mtys vs)

old_under : (p : List Name) (t : Twofold) → type_under (old t) p ≡ old (under_by t p)
old_under [] t = refl
old_under (S ∷ []) t = old_type t S
old_under (X ∷ (Y ∷ p)) t =
    ap (λ o. type_under (or_value o Opaque) (Y ∷ p)) (old_step t X)
    ∙ ap (λ s. type_under s (Y ∷ p)) (or_value-over old (step_by t X) Unknown) ∙ old_under (Y ∷ p) (or_unknown (step_by t X))

new_under : (p : List Name) (t : Twofold) → type_under (new t) p ≡ new (under_by t p)
new_under [] t = refl
new_under (S ∷ []) t = new_type t S
new_under (X ∷ (Y ∷ p)) t =
    ap (λ o. type_under (or_value o Opaque) (Y ∷ p)) (new_step t X)
    ∙ ap (λ s. type_under s (Y ∷ p)) (or_value-over new (step_by t X) Unknown) ∙ new_under (Y ∷ p) (or_unknown (step_by t X))

-- a module type of a scope
abbrev scope_type : Outsides → Parts → List Name → Twofold
scope_type us m [] = Unknown
scope_type us m (S ∷ []) = or_unknown (last_of (twofold_mtys m) S)
scope_type us m (X ∷ (Y ∷ p)) = under_by (or_unknown (in_scope (last_of (twofold_mods m) X) (last_of us X))) (Y ∷ p)

old_head : (o : Option Twofold) (u : Option Values) → or_value (over old o) Opaque ≡ old (or_unknown (in_scope o u))
old_head (Some t) u = refl
old_head None (Some vs) = refl
old_head None None = refl

new_head : (o : Option Twofold) (u : Option Values)
    → or_value (or_else (over new o) (over (λ vs. Struct (block vs)) u)) Opaque ≡ new (or_unknown (in_scope o u))
new_head (Some t) u = refl
new_head None (Some vs) = refl
new_head None None = refl

old_scope_type : (us : Outsides) (m : Parts) (p : List Name) → type_under (Struct (olds m)) p ≡ old (scope_type us m p)
old_scope_type us m [] = refl
old_scope_type us m (S ∷ []) = ap (λ o. or_value o Opaque) (old_mty m S) ∙ or_value-over old (last_of (twofold_mtys m) S) Unknown
old_scope_type us m (X ∷ (Y ∷ p)) =
    ap (λ o. type_under (or_value o Opaque) (Y ∷ p)) (old_mod m X)
    ∙ ap (λ s. type_under s (Y ∷ p)) (old_head (last_of (twofold_mods m) X) (last_of us X))
    ∙ old_under (Y ∷ p) (or_unknown (in_scope (last_of (twofold_mods m) X) (last_of us X)))

new_scope_type : (us : Outsides) (m : Parts) (p : List Name) → type_under (Struct (base us ⊕ news m)) p ≡ new (scope_type us m p)
new_scope_type us m [] = refl
new_scope_type us m (S ∷ []) = ap (λ o. or_value o Opaque) (types_behind us m S) ∙ or_value-over new (last_of (twofold_mtys m) S) Unknown
new_scope_type us m (X ∷ (Y ∷ p)) =
    ap (λ o. type_under (or_value o Opaque) (Y ∷ p)) (behind_base us m X)
    ∙ ap (λ s. type_under s (Y ∷ p)) (new_head (last_of (twofold_mods m) X) (last_of us X))
    ∙ new_under (Y ∷ p) (or_unknown (in_scope (last_of (twofold_mods m) X) (last_of us X)))

-- ---- applications

abbrev applied_by : Twofold → Twofold
applied_by (Known m) = Unknown
applied_by (Maps p r) = r
applied_by (Makes r) = r
applied_by Unknown = Unknown
applied_by (Filled vs) = Unknown

old_applied : (t : Twofold) → applied (old t) ≡ old (applied_by t)
old_applied (Known m) = refl
old_applied (Maps p r) = refl
old_applied (Makes r) = refl
old_applied Unknown = refl
old_applied (Filled vs) = refl

new_applied : (t : Twofold) → applied (new t) ≡ new (applied_by t)
new_applied (Known m) = refl
new_applied (Maps p r) = refl
new_applied (Makes r) = refl
new_applied Unknown = refl
new_applied (Filled vs) = refl

-- ---- the likeness

module _ (w : Words) (us : Outsides) where
  -- what is filled in keeps its words
  abbrev mutual
    pub Kept : Twofold → Type 0
    Kept (Known m) = Kepts m
    Kept (Maps p r) = Kept p × Kept r
    Kept (Makes r) = Kept r
    Kept Unknown = Unit {0}
    Kept (Filled vs) = KeptBlock w vs

    pub Kepts : Parts → Type 0
    Kepts end = Unit {0}
    Kepts (val x g m) = Kepts m
    Kepts (mod_of X s m) = Kept s × Kepts m
    Kepts (mty_of S s m) = Kept s × Kepts m
    Kepts (dark at m) = Kepts m
    Kepts (filled at vs m) = KeptBlock w vs × Kepts m

  pub record Shapes (s s' : Shape) : Type 0 where
    pub two : Twofold
    pub was : old two ≡ s
    pub is : new two ≡ s'
    pub kept : Kept two

  pub record Lists (es es' : Entries) : Type 0 where
    pub parts : Parts
    pub was : olds parts ≡ es
    pub is : news parts ≡ es'
    pub kept : Kepts parts

  -- a scope, and the same one behind the outside modules
  pub record Scopes (sc sc' : Entries) : Type 0 where
    pub parts : Parts
    pub was : olds parts ≡ sc
    pub is : base us ⊕ news parts ≡ sc'
    pub kept : Kepts parts

  kept_then : (m k : Parts) → Kepts m → Kepts k → Kepts (and_then m k)
  kept_then end k h j = j
  kept_then (val x g m) k h j = kept_then m k h j
  kept_then (mod_of X s m) k h j = (h.0, kept_then m k h.1 j)
  kept_then (mty_of S s m) k h j = (h.0, kept_then m k h.1 j)
  kept_then (dark at m) k h j = kept_then m k h j
  kept_then (filled at vs m) k h j = (h.0, kept_then m k h.1 j)

  kept_values : (f : ℕ) (xs : List Site) → Kepts (values_of f xs)
  kept_values f [] = tt
  kept_values f (x ∷ xs) = kept_values f xs

  kept_brought : (t : Twofold) (at : Place) → Kept t → Kepts (brought_by t at)
  kept_brought (Known m) at h = h
  kept_brought (Maps p r) at h = tt
  kept_brought (Makes r) at h = tt
  kept_brought Unknown at h = tt
  kept_brought (Filled vs) at h = (h, tt)

  abbrev KeptIf : Option Twofold → Type 0
  KeptIf None = Unit {0}
  KeptIf (Some t) = Kept t

  kept_or : (o : Option Twofold) (b : Bool) (t : Twofold) → KeptIf o → Kept t → KeptIf (or_else o (some_if b t))
  kept_or (Some s) b t h k = h
  kept_or None true t h k = k
  kept_or None false t h k = tt

  kept_mod : (m : Parts) → Kepts m → (X : Name) → KeptIf (last_of (twofold_mods m) X)
  kept_mod end h X = tt
  kept_mod (val x g m) h X = kept_mod m h X
  kept_mod (mod_of Y s m) h X = kept_or (last_of (twofold_mods m) X) (bytes_eq Y X) s (kept_mod m h.1 X) h.0
  kept_mod (mty_of Y s m) h X = kept_mod m h.1 X
  kept_mod (dark at m) h X = kept_mod m h X
  kept_mod (filled at vs m) h X = kept_mod m h.1 X

  kept_mty : (m : Parts) → Kepts m → (X : Name) → KeptIf (last_of (twofold_mtys m) X)
  kept_mty end h X = tt
  kept_mty (val x g m) h X = kept_mty m h X
  kept_mty (mod_of Y s m) h X = kept_mty m h.1 X
  kept_mty (mty_of Y s m) h X = kept_or (last_of (twofold_mtys m) X) (bytes_eq Y X) s (kept_mty m h.1 X) h.0
  kept_mty (dark at m) h X = kept_mty m h X
  kept_mty (filled at vs m) h X = kept_mty m h.1 X

  kept_step : (t : Twofold) (X : Name) → Kept t → KeptIf (step_by t X)
  kept_step (Known m) X h = kept_mod m h X
  kept_step (Maps p r) X h = tt
  kept_step (Makes r) X h = tt
  kept_step Unknown X h = tt
  kept_step (Filled vs) X h = tt

  kept_steps : (o : Option Twofold) (X : Name) → KeptIf o → KeptIf (step_on o X)
  kept_steps None X h = tt
  kept_steps (Some t) X h = kept_step t X h

  kept_inside : (p : List Name) (o : Option Twofold) → KeptIf o → KeptIf (inside_by o p)
  kept_inside [] o h = h
  kept_inside (X ∷ p) o h = kept_inside p (step_on o X) (kept_steps o X h)

  kept_unknown : (o : Option Twofold) → KeptIf o → Kept (or_unknown o)
  kept_unknown None h = tt
  kept_unknown (Some t) h = h

  abbrev KeptValues : Option Values → Type 0
  KeptValues None = Unit {0}
  KeptValues (Some vs) = KeptBlock w vs

  kept_path : (o : Option Twofold) (u : Option Values) (p : List Name) → KeptIf o → KeptValues u → Kept (path_by o u p)
  kept_path (Some t) u p h k = kept_unknown (inside_by (Some t) p) (kept_inside p (Some t) h)
  kept_path None (Some vs) [] h k = k
  kept_path None (Some vs) (X ∷ p) h k = tt
  kept_path None None p h k = tt

  kept_type : (t : Twofold) (S : Name) → Kept t → Kept (type_by t S)
  kept_type (Known m) S h = kept_unknown (last_of (twofold_mtys m) S) (kept_mty m h S)
  kept_type (Maps p r) S h = tt
  kept_type (Makes r) S h = tt
  kept_type Unknown S h = tt
  kept_type (Filled vs) S h = tt

  kept_under : (p : List Name) (t : Twofold) → Kept t → Kept (under_by t p)
  kept_under [] t h = tt
  kept_under (S ∷ []) t h = kept_type t S h
  kept_under (X ∷ (Y ∷ p)) t h = kept_under (Y ∷ p) (or_unknown (step_by t X)) (kept_unknown (step_by t X) (kept_step t X h))

  kept_in_scope : (o : Option Twofold) (u : Option Values) → KeptIf o → KeptValues u → KeptIf (in_scope o u)
  kept_in_scope (Some t) u h k = h
  kept_in_scope None (Some vs) h k = k
  kept_in_scope None None h k = tt

  kept_applied : (t : Twofold) → Kept t → Kept (applied_by t)
  kept_applied (Known m) h = tt
  kept_applied (Maps p r) h = h.1
  kept_applied (Makes r) h = h
  kept_applied Unknown h = tt
  kept_applied (Filled vs) h = tt

  -- the values of the outside modules keep their words
  abbrev pub AreKept : Outsides → Type 0
  AreKept [] = Unit {0}
  AreKept (e ∷ es) = KeptBlock w e.1 × AreKept es

  values_or : (o : Option Values) (b : Bool) (vs : Values) → KeptValues o → KeptBlock w vs → KeptValues (or_else o (some_if b vs))
  values_or (Some s) b t h k = h
  values_or None true t h k = k
  values_or None false t h k = tt

  kept_outside : (es : Outsides) → AreKept es → (X : Name) → KeptValues (last_of es X)
  kept_outside [] h X = tt
  kept_outside (e ∷ es) h X = values_or (last_of es X) (bytes_eq e.0 X) e.1 (kept_outside es h.1 X) h.0

  kept_scope_type : AreKept us → (m : Parts) (p : List Name) → Kepts m → Kept (scope_type us m p)
  kept_scope_type a m [] h = tt
  kept_scope_type a m (S ∷ []) h = kept_unknown (last_of (twofold_mtys m) S) (kept_mty m h S)
  kept_scope_type a m (X ∷ (Y ∷ p)) h =
      kept_under (Y ∷ p) (or_unknown (in_scope (last_of (twofold_mods m) X) (last_of us X)))
      (kept_unknown (in_scope (last_of (twofold_mods m) X) (last_of us X))
      (kept_in_scope (last_of (twofold_mods m) X) (last_of us X) (kept_mod m h X) (kept_outside us a X)))

  abbrev Path_like : Entries → Entries → List Name → Type 0
  Path_like sc sc' p = Shapes (walk sc p) (walk sc' p)

  paths_like : AreKept us → (m : Parts) → Kepts m → (p : List Name) → Shapes (walk (olds m) p) (walk (base us ⊕ news m) p)
  paths_like a m h [] = record { two = Unknown; was = refl; is = refl; kept = tt }
  paths_like a m h (X ∷ p) =
      let o = last_of (twofold_mods m) X in
      let u = last_of us X in
      record {
        two = path_by o u p;
        was = sym (ap (λ s. or_value (inside s p) Opaque) (old_mod m X) ∙ old_path o u p);
        is = sym (ap (λ s. or_value (inside s p) Opaque) (behind_base us m X) ∙ new_path o u p);
        kept = kept_path o u p (kept_mod m h X) (kept_outside us a X);
      }

  path_like : AreKept us → (sc sc' : Entries) (p : List Word) → Scopes sc sc' → Shapes (path_shape sc p) (path_shape sc' p)
  path_like a sc sc' p c =
      let s = paths_like a c.parts c.kept (texts p) in
      record { two = s.two; was = s.was ∙ ap (λ l. walk l (texts p)) c.was; is = s.is ∙ ap (λ l. walk l (texts p)) c.is; kept = s.kept }

  type_like : AreKept us → (sc sc' : Entries) (p : List Word) → Scopes sc sc'
      → Shapes (type_under (Struct sc) (texts p)) (type_under (Struct sc') (texts p))
  type_like a sc sc' p c = record {
    two = scope_type us c.parts (texts p);
    was = sym (old_scope_type us c.parts (texts p)) ∙ ap (λ l. type_under (Struct l) (texts p)) c.was;
    is = sym (new_scope_type us c.parts (texts p)) ∙ ap (λ l. type_under (Struct l) (texts p)) c.is;
    kept = kept_scope_type a c.parts (texts p) c.kept;
  }

  apply_like : (t : Twofold) (s a s' a' : Shape) → old t ≡ s → new t ≡ s' → Kept t → Shapes a a'
      → Alike own_number Scopes Equal Shapes (apply_steps (old t) a) (apply_steps (new t) a')
  apply_like (Known m) s a s' a' e i k h = pin_alike a a' h
  apply_like (Maps p r) s a s' a' e i k h = match_alike a a' (old p) (new p) h (record { two = p; was = refl; is = refl; kept = k.0 })
  apply_like (Makes r) s a s' a' e i k h = quiet_alike
  apply_like Unknown s a s' a' e i k h = pin_alike a a' h
  apply_like (Filled vs) s a s' a' e i k h = pin_alike a a' h

  -- the rules of names keep the likeness
  pub is_kept : AreKept us → IsKept own_number Scopes Lists Equal Shapes
  is_kept a = record {
    on = λ sc sc' b b' c r. record {
      parts = and_then c.parts r.parts;
      was = olds_then c.parts r.parts ∙ ap (λ l. l ⊕ olds r.parts) c.was ∙ ap (λ l. sc ⊕ l) r.was;
      is =
          ap (λ l. base us ⊕ l) (news_then c.parts r.parts) ∙ sym (append_assoc (base us) (news c.parts) (news r.parts))
          ∙ ap (λ l. l ⊕ news r.parts) c.is ∙ ap (λ l. sc' ⊕ l) r.is;
      kept = kept_then c.parts r.parts c.kept r.kept;
    };
    no_entry = record { parts = end; was = refl; is = refl; kept = tt };
    append = λ x x' b b' h r. record {
      parts = and_then h.parts r.parts;
      was = olds_then h.parts r.parts ∙ ap (λ l. l ⊕ olds r.parts) h.was ∙ ap (λ l. x ⊕ l) r.was;
      is = news_then h.parts r.parts ∙ ap (λ l. l ⊕ news r.parts) h.is ∙ ap (λ l. x' ⊕ l) r.is;
      kept = kept_then h.parts r.parts h.kept r.kept;
    };
    variables_too = λ f xs. refl;
    values = λ f xs. record { parts = values_of f xs; was = olds_values f xs; is = news_values f xs; kept = kept_values f xs };
    module_too = λ X s s' h. record {
      parts = mod_of X h.two end;
      was = ap (λ t. a_mod X t none) h.was;
      is = ap (λ t. a_mod X t none) h.is;
      kept = (h.kept, tt);
    };
    type_too = λ X s s' h. record {
      parts = mty_of X h.two end;
      was = ap (λ t. a_mty X t none) h.was;
      is = ap (λ t. a_mty X t none) h.is;
      kept = (h.kept, tt);
    };
    brings = λ s s' at h. record {
      parts = brought_by h.two at;
      was = olds_brought h.two at ∙ ap (λ t. brought t at) h.was;
      is = news_brought h.two at ∙ ap (λ t. brought t at) h.is;
      kept = kept_brought h.two at h.kept;
    };
    structure = λ es es' h. record { two = Known h.parts; was = ap Struct h.was; is = ap Struct h.is; kept = h.kept };
    functor = λ p p' r r' h k. record {
      two = Maps h.two k.two;
      was = ap (λ t. Functor t (old k.two)) h.was ∙ ap (Functor p) k.was;
      is = ap (λ t. Functor t (new k.two)) h.is ∙ ap (Functor p') k.is;
      kept = (h.kept, k.kept);
    };
    unitary = λ r r' h. record { two = Makes h.two; was = ap Unitary h.was; is = ap Unitary h.is; kept = h.kept };
    opaque = record { two = Unknown; was = refl; is = refl; kept = tt };
    path = λ sc sc' p c. path_like a sc sc' p c;
    type_path = λ sc sc' p c. type_like a sc sc' p c;
    apply = λ s s' h. record {
      two = applied_by h.two;
      was = sym (old_applied h.two) ∙ ap applied h.was;
      is = sym (new_applied h.two) ∙ ap applied h.is;
      kept = kept_applied h.two h.kept;
    };
    apply_step = λ s s' x x' h k.
        subst (λ t. Alike own_number Scopes Equal Shapes (apply_steps t x) (apply_steps s' x')) h.was
        (subst (λ t. Alike own_number Scopes Equal Shapes (apply_steps (old h.two) x) (apply_steps t x')) h.is
        (apply_like h.two s x s' x' h.was h.is h.kept k));
  }
