-- A shape as two projects know it: in the old one outside modules are unknown; in the new one some of them are
-- structures of values. Twofold is a shape of both.
use Rattle.std.proofs.Common.{◌≡◌, List, [], ◌∷◌, Option, refl, ap, ◌∙◌}
use Rattle.rotor_base.specs.declared.place.Place.{Place}
use Rattle.rotor_base.specs.declared.place.Goal.{Goal}
use Rattle.rotor_base.specs.declared.place.Goal.TheVariants.{Decl}
use Rattle.shape_core.specs.Shape.{Name, Shape, Struct, Functor, Unitary, Opaque, Entries, none, a_val, a_mod, a_mty, a_dark, ◌⊕◌, mods, mtys}
use Rattle.shape_core.specs.Shape.{find_mod, find_mty, last_of, or_value}
use Rattle.shape_core.specs.Links.{or_empty}
use Rattle.shape_core.specs.Respell.{Words, over}
use Rattle.shape_core.proofs.Founds.{each, last_of-each, or_value-over}

-- the values of an outside module
abbrev pub Values : Type 0
Values = List (Name × Goal)

abbrev pub block : Values → Entries
block [] = none
block (e ∷ vs) = a_val e.0 e.1 (block vs)

mutual
  pub data Twofold : Type 0 where
    Known : (es : Parts) → Twofold
    Maps : (p r : Twofold) → Twofold
    Makes : (r : Twofold) → Twofold
    -- unknown in both, or in the old one alone
    Unknown : Twofold
    Filled : (vs : Values) → Twofold

  pub data Parts : Type 0 where
    end : Parts
    val : (x : Name) (g : Goal) (rest : Parts) → Parts
    mod_of : (X : Name) (s : Twofold) (rest : Parts) → Parts
    mty_of : (S : Name) (s : Twofold) (rest : Parts) → Parts
    -- an opening of a module that is unknown in both, or in the old one alone
    dark : (at : Place) (rest : Parts) → Parts
    filled : (at : Place) (vs : Values) (rest : Parts) → Parts

abbrev mutual
  pub old : Twofold → Shape
  old (Known es) = Struct (olds es)
  old (Maps p r) = Functor (old p) (old r)
  old (Makes r) = Unitary (old r)
  old Unknown = Opaque
  old (Filled vs) = Opaque

  pub olds : Parts → Entries
  olds end = none
  olds (val x g m) = a_val x g (olds m)
  olds (mod_of X s m) = a_mod X (old s) (olds m)
  olds (mty_of S s m) = a_mty S (old s) (olds m)
  olds (dark at m) = a_dark at (olds m)
  olds (filled at vs m) = a_dark at (olds m)

abbrev mutual
  pub new : Twofold → Shape
  new (Known es) = Struct (news es)
  new (Maps p r) = Functor (new p) (new r)
  new (Makes r) = Unitary (new r)
  new Unknown = Opaque
  new (Filled vs) = Struct (block vs)

  pub news : Parts → Entries
  news end = none
  news (val x g m) = a_val x g (news m)
  news (mod_of X s m) = a_mod X (new s) (news m)
  news (mty_of S s m) = a_mty S (new s) (news m)
  news (dark at m) = a_dark at (news m)
  news (filled at vs m) = block vs ⊕ news m

-- ---- modules and module types

abbrev pub twofold_mods : Parts → List (Name × Twofold)
twofold_mods end = []
twofold_mods (val x g m) = twofold_mods m
twofold_mods (mod_of X s m) = (X, s) ∷ twofold_mods m
twofold_mods (mty_of S s m) = twofold_mods m
twofold_mods (dark at m) = twofold_mods m
twofold_mods (filled at vs m) = twofold_mods m

abbrev pub twofold_mtys : Parts → List (Name × Twofold)
twofold_mtys end = []
twofold_mtys (val x g m) = twofold_mtys m
twofold_mtys (mod_of X s m) = twofold_mtys m
twofold_mtys (mty_of S s m) = (S, s) ∷ twofold_mtys m
twofold_mtys (dark at m) = twofold_mtys m
twofold_mtys (filled at vs m) = twofold_mtys m

block_mods : (vs : Values) (es : Entries) → mods (block vs ⊕ es) ≡ mods es
block_mods [] es = refl
block_mods (e ∷ vs) es = block_mods vs es

block_mtys : (vs : Values) (es : Entries) → mtys (block vs ⊕ es) ≡ mtys es
block_mtys [] es = refl
block_mtys (e ∷ vs) es = block_mtys vs es

old_mods : (m : Parts) → mods (olds m) ≡ each old (twofold_mods m)
old_mods end = refl
old_mods (val x g m) = old_mods m
old_mods (mod_of X s m) = ap (λ l. (X, old s) ∷ l) (old_mods m)
old_mods (mty_of S s m) = old_mods m
old_mods (dark at m) = old_mods m
old_mods (filled at vs m) = old_mods m

new_mods : (m : Parts) → mods (news m) ≡ each new (twofold_mods m)
new_mods end = refl
new_mods (val x g m) = new_mods m
new_mods (mod_of X s m) = ap (λ l. (X, new s) ∷ l) (new_mods m)
new_mods (mty_of S s m) = new_mods m
new_mods (dark at m) = new_mods m
new_mods (filled at vs m) = block_mods vs (news m) ∙ new_mods m

old_mtys : (m : Parts) → mtys (olds m) ≡ each old (twofold_mtys m)
old_mtys end = refl
old_mtys (val x g m) = old_mtys m
old_mtys (mod_of X s m) = old_mtys m
old_mtys (mty_of S s m) = ap (λ l. (S, old s) ∷ l) (old_mtys m)
old_mtys (dark at m) = old_mtys m
old_mtys (filled at vs m) = old_mtys m

new_mtys : (m : Parts) → mtys (news m) ≡ each new (twofold_mtys m)
new_mtys end = refl
new_mtys (val x g m) = new_mtys m
new_mtys (mod_of X s m) = new_mtys m
new_mtys (mty_of S s m) = ap (λ l. (S, new s) ∷ l) (new_mtys m)
new_mtys (dark at m) = new_mtys m
new_mtys (filled at vs m) = block_mtys vs (news m) ∙ new_mtys m

-- a look-up finds a twofold shape
pub old_mod : (m : Parts) (X : Name) → find_mod (olds m) X ≡ over old (last_of (twofold_mods m) X)
old_mod m X = ap (λ l. last_of l X) (old_mods m) ∙ last_of-each old (twofold_mods m) X

pub new_mod : (m : Parts) (X : Name) → find_mod (news m) X ≡ over new (last_of (twofold_mods m) X)
new_mod m X = ap (λ l. last_of l X) (new_mods m) ∙ last_of-each new (twofold_mods m) X

pub old_mty : (m : Parts) (S : Name) → find_mty (olds m) S ≡ over old (last_of (twofold_mtys m) S)
old_mty m S = ap (λ l. last_of l S) (old_mtys m) ∙ last_of-each old (twofold_mtys m) S

pub new_mty : (m : Parts) (S : Name) → find_mty (news m) S ≡ over new (last_of (twofold_mtys m) S)
new_mty m S = ap (λ l. last_of l S) (new_mtys m) ∙ last_of-each new (twofold_mtys m) S

-- a twofold shape that may be absent, or that of no entries
abbrev pub or_end : Option Twofold → Twofold
or_end o = or_value o (Known end)

pub old_empty : (o : Option Twofold) → or_empty (over old o) ≡ old (or_end o)
old_empty o = or_value-over old o (Known end)

pub new_empty : (o : Option Twofold) → or_empty (over new o) ≡ new (or_end o)
new_empty o = or_value-over new o (Known end)

-- ---- names

-- the values of a block have declarations, and keep their words
module _ (w : Words) where
  abbrev pub KeptGoal : Goal → Name → Type 0
  KeptGoal (Decl d) x = w d x ≡ x
  KeptGoal _ x = ⊥

  abbrev pub KeptBlock : Values → Type 0
  KeptBlock [] = Unit {0}
  KeptBlock (e ∷ vs) = KeptGoal e.1 e.0 × KeptBlock vs

-- a value has the name of its declaration
module _ (name : Place → Name) where
  abbrev pub HasName : Goal → Name → Type 0
  HasName (Decl d) x = name d ≡ x
  HasName _ x = ⊥

module _ (w : Words) (name : Place → Name) where
  -- each value has the name of its declaration, and what is filled in keeps its words
  abbrev mutual
    pub Fine : Twofold → Type 0
    Fine (Known es) = Fines es
    Fine (Maps p r) = Fine p × Fine r
    Fine (Makes r) = Fine r
    Fine Unknown = Unit {0}
    Fine (Filled vs) = KeptBlock w vs

    pub Fines : Parts → Type 0
    Fines end = Unit {0}
    Fines (val x g m) = HasName name g x × Fines m
    Fines (mod_of X s m) = Fine s × Fines m
    Fines (mty_of S s m) = Fine s × Fines m
    Fines (dark at m) = Fines m
    Fines (filled at vs m) = KeptBlock w vs × Fines m
