-- What look-ups find in a list that is mapped, and in a list of which something holds of each entry.
use Rattle.std.proofs.Common.{◌≡◌, ℕ, ◌≤◌, ◌+◌, Bool, true, false, List, [], ◌∷◌, Option, Some, None, refl, sym, ap, subst, ◌∙◌, arith}
use Rattle.std.proofs.lemmas.Slice.Eq.{bytes_eq-Decides}
use Rattle.std.specs.Prelude.{bytes_eq}
use Rattle.shape_core.specs.Shape.{Name, Shape, Struct, Entries, none, a_val, a_mod, a_mty, a_dark, mods, mtys, or_else, or_value, some_if, last_of}
use Rattle.shape_core.specs.Shape.{depth, depths}
use Rattle.shape_core.specs.Respell.{over}

-- what holds of each entry of a list
abbrev pub Each : {V : Type 0} → (Name → V → Type 0) → List (Name × V) → Type 0
Each P [] = Unit {0}
Each P (e ∷ es) = P e.0 e.1 × Each P es

some_if-is : {V : Type 0} (P : Name → V → Type 0) (b : Bool) (y x : Name) (v u : V) → (b ≡ true → y ≡ x) → P y v → some_if b v ≡ Some u → P x u
some_if-is P true y x v u h p e = let ey : y ≡ x = h refl in let ev : v ≡ u = cc in subst (λ z. P z u) ey (subst (λ z. P y z) ev p)
some_if-is P false y x v u h p e = absurd cc

has_either : {V : Type 0} (P : Name → V → Type 0) (b : Bool) (y x : Name) (v u : V) → (b ≡ true → y ≡ x) → P y v → (o : Option V)
    → (o ≡ Some u → P x u) → or_else o (some_if b v) ≡ Some u → P x u
has_either P b y x v u h p (Some t) k e = k e
has_either P b y x v u h p None k e = some_if-is P b y x v u h p e

-- what holds of each entry holds of the one that is found
pub last_of-has : {V : Type 0} (P : Name → V → Type 0) (es : List (Name × V)) (x : Name) (u : V) → Each P es → last_of es x ≡ Some u → P x u
last_of-has P [] x u h e = absurd cc
last_of-has P (a ∷ es) x u h e = has_either P (bytes_eq a.0 x) a.0 x a.1 u (bytes_eq-Decides a.0 x).0 h.0 (last_of es x)
    (λ k. last_of-has P es x u h.1 k) e

-- a list with its values mapped
abbrev pub each : {V W : Type 0} → (V → W) → List (Name × V) → List (Name × W)
each f [] = []
each f (e ∷ es) = (e.0, f e.1) ∷ each f es

over_or_else : {V W : Type 0} (f : V → W) (a b : Option V) → over f (or_else a b) ≡ or_else (over f a) (over f b)
over_or_else f None b = refl
over_or_else f (Some v) b = refl

over_some_if : {V W : Type 0} (f : V → W) (b : Bool) (v : V) → over f (some_if b v) ≡ some_if b (f v)
over_some_if f true v = refl
over_some_if f false v = refl

pub last_of-each : {V W : Type 0} (f : V → W) (es : List (Name × V)) (x : Name) → last_of (each f es) x ≡ over f (last_of es x)
last_of-each f [] x = refl
last_of-each f (e ∷ es) x =
    ap (λ o. or_else o (some_if (bytes_eq e.0 x) (f e.1))) (last_of-each f es x)
    ∙ ap (λ o. or_else (over f (last_of es x)) o) (sym (over_some_if f (bytes_eq e.0 x) e.1))
    ∙ sym (over_or_else f (last_of es x) (some_if (bytes_eq e.0 x) e.1))

pub or_value-over : {V W : Type 0} (f : V → W) (o : Option V) (v : V) → or_value (over f o) (f v) ≡ f (or_value o v)
or_value-over f None v = refl
or_value-over f (Some u) v = refl

-- a shape of a list is less deep than the list
mods_depth : (n : ℕ) (es : Entries) → depths es ≤ n → Each (λ X s. depth s + 1 ≤ n) (mods es)
mods_depth n none h = tt
mods_depth n (a_val x g es) h = mods_depth n es h
mods_depth n (a_mod X s es) h = (omega (arith, h), mods_depth n es (omega (arith, h)))
mods_depth n (a_mty S s es) h = mods_depth n es (omega (arith, h))
mods_depth n (a_dark at es) h = mods_depth n es h

mtys_depth : (n : ℕ) (es : Entries) → depths es ≤ n → Each (λ S s. depth s + 1 ≤ n) (mtys es)
mtys_depth n none h = tt
mtys_depth n (a_val x g es) h = mtys_depth n es h
mtys_depth n (a_mod X s es) h = mtys_depth n es (omega (arith, h))
mtys_depth n (a_mty S s es) h = (omega (arith, h), mtys_depth n es (omega (arith, h)))
mtys_depth n (a_dark at es) h = mtys_depth n es h

-- what a look-up finds is less deep than the list
pub mod_depth : (es : Entries) (X : Name) (s : Shape) → last_of (mods es) X ≡ Some s → depth s + 1 ≤ depths es
mod_depth es X s e = last_of-has (λ Y t. depth t + 1 ≤ depths es) (mods es) X s (mods_depth (depths es) es (omega arith)) e

pub mty_depth : (es : Entries) (X : Name) (s : Shape) → last_of (mtys es) X ≡ Some s → depth s + 1 ≤ depths es
mty_depth es X s e = last_of-has (λ Y t. depth t + 1 ≤ depths es) (mtys es) X s (mtys_depth (depths es) es (omega arith)) e

or_empty_depth : (n : ℕ) (o : Option Shape) → ((s : Shape) → o ≡ Some s → depth s + 1 ≤ n) → depth (or_value o (Struct none)) ≤ n
or_empty_depth n None h = omega arith
or_empty_depth n (Some s) h = let k = h s refl in omega (arith, k)

pub mod_or_empty : (es : Entries) (X : Name) → depth (or_value (last_of (mods es) X) (Struct none)) ≤ depths es
mod_or_empty es X = or_empty_depth (depths es) (last_of (mods es) X) (mod_depth es X)

pub mty_or_empty : (es : Entries) (S : Name) → depth (or_value (last_of (mtys es) S) (Struct none)) ≤ depths es
mty_or_empty es S = or_empty_depth (depths es) (last_of (mtys es) S) (mty_depth es S)
