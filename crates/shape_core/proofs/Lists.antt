-- Look-ups in lists of entries.
use Rattle.std.proofs.Common.{◌≡◌, ◌+◌, List, [], ◌∷◌, ◌++◌, Option, Some, None, refl, sym, ap, ◌∙◌, arith}
use Rattle.std.specs.Prelude.{bytes_eq, max}
use Rattle.rotor_base.specs.declared.place.Place.{Place}
use Rattle.shape_core.specs.Shape.{Name, Entries, none, a_val, a_mod, a_mty, a_dark, ◌⊕◌, vals, mods, mtys, darks, or_else, some_if, unless_some}
use Rattle.shape_core.specs.Shape.{last_of, passed, last_place, weights, depths}

pub or_else_none : {V : Type 0} (o : Option V) → or_else o None ≡ o
or_else_none None = refl
or_else_none (Some v) = refl

pub or_else_assoc : {V : Type 0} (a b c : Option V) → or_else (or_else a b) c ≡ or_else a (or_else b c)
or_else_assoc None b c = refl
or_else_assoc (Some v) b c = refl

pub last_of-append : {V : Type 0} (a b : List (Name × V)) (x : Name) → last_of (a ++ b) x ≡ or_else (last_of b x) (last_of a x)
last_of-append [] b x = sym (or_else_none (last_of b x))
last_of-append (e ∷ a) b x =
    ap (λ o. or_else o (some_if (bytes_eq e.0 x) e.1)) (last_of-append a b x)
    ∙ or_else_assoc (last_of b x) (last_of a x) (some_if (bytes_eq e.0 x) e.1)

pub last_place-append : (a b : List Place) → last_place (a ++ b) ≡ or_else (last_place b) (last_place a)
last_place-append [] b = sym (or_else_none (last_place b))
last_place-append (at ∷ a) b =
    ap (λ o. or_else o (Some at)) (last_place-append a b) ∙ or_else_assoc (last_place b) (last_place a) (Some at)

pub append_assoc : (a b c : Entries) → (a ⊕ b) ⊕ c ≡ a ⊕ (b ⊕ c)
append_assoc none b c = refl
append_assoc (a_val x g a) b c = ap (λ l. a_val x g l) (append_assoc a b c)
append_assoc (a_mod x g a) b c = ap (λ l. a_mod x g l) (append_assoc a b c)
append_assoc (a_mty x g a) b c = ap (λ l. a_mty x g l) (append_assoc a b c)
append_assoc (a_dark at a) b c = ap (λ l. a_dark at l) (append_assoc a b c)

pub append_none : (a : Entries) → a ⊕ none ≡ a
append_none none = refl
append_none (a_val x g a) = ap (λ l. a_val x g l) (append_none a)
append_none (a_mod x g a) = ap (λ l. a_mod x g l) (append_none a)
append_none (a_mty x g a) = ap (λ l. a_mty x g l) (append_none a)
append_none (a_dark at a) = ap (λ l. a_dark at l) (append_none a)

pub vals-append : (a b : Entries) → vals (a ⊕ b) ≡ vals a ++ vals b
vals-append none b = refl
vals-append (a_val x g a) b = ap (λ l. (x, g) ∷ l) (vals-append a b)
vals-append (a_mod X s a) b = vals-append a b
vals-append (a_mty S s a) b = vals-append a b
vals-append (a_dark at a) b = vals-append a b

pub mods-append : (a b : Entries) → mods (a ⊕ b) ≡ mods a ++ mods b
mods-append none b = refl
mods-append (a_val x g a) b = mods-append a b
mods-append (a_mod X s a) b = ap (λ l. (X, s) ∷ l) (mods-append a b)
mods-append (a_mty S s a) b = mods-append a b
mods-append (a_dark at a) b = mods-append a b

pub mtys-append : (a b : Entries) → mtys (a ⊕ b) ≡ mtys a ++ mtys b
mtys-append none b = refl
mtys-append (a_val x g a) b = mtys-append a b
mtys-append (a_mod X s a) b = mtys-append a b
mtys-append (a_mty S s a) b = ap (λ l. (S, s) ∷ l) (mtys-append a b)
mtys-append (a_dark at a) b = mtys-append a b

pub darks-append : (a b : Entries) → darks (a ⊕ b) ≡ darks a ++ darks b
darks-append none b = refl
darks-append (a_val x g a) b = darks-append a b
darks-append (a_mod X s a) b = darks-append a b
darks-append (a_mty S s a) b = darks-append a b
darks-append (a_dark at a) b = ap (λ l. at ∷ l) (darks-append a b)

-- what a look-up finds in two lists, one after the other
pub find_vals : (a b : Entries) (x : Name) → last_of (vals (a ⊕ b)) x ≡ or_else (last_of (vals b) x) (last_of (vals a) x)
find_vals a b x = ap (λ l. last_of l x) (vals-append a b) ∙ last_of-append (vals a) (vals b) x

pub find_mods : (a b : Entries) (x : Name) → last_of (mods (a ⊕ b)) x ≡ or_else (last_of (mods b) x) (last_of (mods a) x)
find_mods a b x = ap (λ l. last_of l x) (mods-append a b) ∙ last_of-append (mods a) (mods b) x

pub find_mtys : (a b : Entries) (x : Name) → last_of (mtys (a ⊕ b)) x ≡ or_else (last_of (mtys b) x) (last_of (mtys a) x)
find_mtys a b x = ap (λ l. last_of l x) (mtys-append a b) ∙ last_of-append (mtys a) (mtys b) x

unless_or : {V W : Type 0} (o p : Option V) (a b : W) → unless_some (or_else o p) a b ≡ unless_some o (unless_some p a b) b
unless_or None p a b = refl
unless_or (Some v) p a b = refl

unless_same : {V W : Type 0} (o : Option V) (a : W) → unless_some o a a ≡ a
unless_same None a = refl
unless_same (Some v) a = refl

-- one more Dark entry in front
front : {V : Type 0} (o p : Option V) (at : Place) (a b : List Place) → unless_some (or_else o p) (at ∷ unless_some o (a ++ b) b)
    (unless_some o (a ++ b) b) ≡ unless_some o (unless_some p (at ∷ a) a ++ b) b
front None None at a b = refl
front None (Some v) at a b = refl
front (Some v) p at a b = refl

-- a value in the later list hides the Dark entries of the earlier one
pub passed-append : (a b : Entries) (x : Name) → passed (a ⊕ b) x ≡ unless_some (last_of (vals b) x) (passed a x ++ passed b x) (passed b x)
passed-append none b x = sym (unless_same (last_of (vals b) x) (passed b x))
passed-append (a_val y g a) b x = passed-append a b x
passed-append (a_mod X s a) b x = passed-append a b x
passed-append (a_mty S s a) b x = passed-append a b x
passed-append (a_dark at a) b x =
    ap (λ o. unless_some o (at ∷ passed (a ⊕ b) x) (passed (a ⊕ b) x)) (find_vals a b x)
    ∙ ap (λ l. unless_some (or_else (last_of (vals b) x) (last_of (vals a) x)) (at ∷ l) l) (passed-append a b x)
    ∙ front (last_of (vals b) x) (last_of (vals a) x) at (passed a x) (passed b x)

pub weights-append : (a b : Entries) → weights (a ⊕ b) ≡ weights a + weights b
weights-append none b = omega arith
weights-append (a_val x g a) b = grind (arith, weights-append a b)
weights-append (a_mod X s a) b = grind (arith, weights-append a b)
weights-append (a_mty S s a) b = grind (arith, weights-append a b)
weights-append (a_dark at a) b = grind (arith, weights-append a b)

pub depths-append : (a b : Entries) → depths (a ⊕ b) ≡ max (depths a) (depths b)
depths-append none b = omega arith
depths-append (a_val x g a) b = depths-append a b
depths-append (a_mod X s a) b = omega (arith, depths-append a b)
depths-append (a_mty S s a) b = omega (arith, depths-append a b)
depths-append (a_dark at a) b = depths-append a b
