-- What a look-up of a value has seen after one entry more.
use Rattle.std.proofs.Common.{◌≡◌, ℕ, ◌+◌, List, [], ◌∷◌, ◌++◌, length, Option, Some, None, true, false, refl, sym, ap, subst, ◌∙◌, length-append}
use Rattle.std.proofs.lemmas.List.{append-nil}
use Rattle.std.specs.Prelude.{bytes_eq}
use Rattle.rotor_base.specs.declared.place.Place.{Place}
use Rattle.rotor_base.specs.declared.place.Goal.{Goal}
use Rattle.shape_core.specs.declared.shape.Seen.{Seen}
use Rattle.shape_core.specs.declared.shape.Entry.{Entry}
use Rattle.shape_core.specs.Shape as pure
use Rattle.shape_core.specs.Shape.{◌⊕◌}
use Rattle.shape_core.specs.View.{view_then, Sees}
use Rattle.shape_core.proofs.Lists.{find_vals, passed-append, last_place-append}

abbrev made : Option Goal → Option Place → ℕ → Seen
made f b n = record { found = f; by = b; passed = n }

-- a value of the name
pub sees_val : (es : pure.Entries) (x y : List ℕ) (g : Goal) → bytes_eq y x ≡ true → Sees (es ⊕ pure.a_val y g pure.none) x (made (Some g) None 0)
sees_val es x y g e = record {
  found = sym (find_vals es (pure.a_val y g pure.none) x ∙ ap (λ b. pure.or_else (pure.some_if b g) (pure.last_of (pure.vals es) x)) e);
  by = sym (ap pure.last_place p);
  passed = sym (ap length p);
} where
  p : pure.passed (es ⊕ pure.a_val y g pure.none) x ≡ []
  p = passed-append es (pure.a_val y g pure.none) x ∙ ap (λ b. pure.unless_some (pure.some_if b g) (pure.passed es x ++ []) []) e

-- an entry in which the name has no value, and which is not Dark
still : (es new : pure.Entries) (x : List ℕ) (s : Seen) → pure.last_of (pure.vals new) x ≡ None → pure.passed new x ≡ [] → Sees es x s
    → Sees (es ⊕ new) x s
still es new x s e f h = record {
  found = h.found ∙ sym (find_vals es new x ∙ ap (λ o. pure.or_else o (pure.last_of (pure.vals es) x)) e);
  by = h.by ∙ sym (ap pure.last_place p);
  passed = h.passed ∙ sym (ap length p);
} where
  p : pure.passed (es ⊕ new) x ≡ pure.passed es x
  p = passed-append es new x ∙ ap (λ o. pure.unless_some o (pure.passed es x ++ pure.passed new x) (pure.passed new x)) e
      ∙ ap (λ l. pure.passed es x ++ l) f ∙ append-nil (pure.passed es x)

pub sees_other : (es : pure.Entries) (x y : List ℕ) (g : Goal) (s : Seen) → bytes_eq y x ≡ false → Sees es x s
    → Sees (es ⊕ pure.a_val y g pure.none) x s
sees_other es x y g s e h = still es (pure.a_val y g pure.none) x s (ap (λ b. pure.some_if b g) e) refl h

pub sees_mod : (es : pure.Entries) (x y : List ℕ) (m : pure.Shape) (s : Seen) → Sees es x s → Sees (es ⊕ pure.a_mod y m pure.none) x s
sees_mod es x y m s h = still es (pure.a_mod y m pure.none) x s refl refl h

pub sees_mty : (es : pure.Entries) (x y : List ℕ) (m : pure.Shape) (s : Seen) → Sees es x s → Sees (es ⊕ pure.a_mty y m pure.none) x s
sees_mty es x y m s h = still es (pure.a_mty y m pure.none) x s refl refl h

-- a Dark entry
pub sees_dark : (es : pure.Entries) (x : List ℕ) (at : Place) (s : Seen) → Sees es x s
    → Sees (es ⊕ pure.a_dark at pure.none) x (made s.found (Some at) (s.passed + 1))
sees_dark es x at s h = record {
  found = h.found ∙ sym (find_vals es (pure.a_dark at pure.none) x);
  by = sym (ap pure.last_place p ∙ last_place-append (pure.passed es x) (at ∷ []));
  passed = ap (λ n. n + 1) h.passed ∙ sym (ap length p ∙ length-append (pure.passed es x) (at ∷ []));
} where
  p : pure.passed (es ⊕ pure.a_dark at pure.none) x ≡ pure.passed es x ++ at ∷ []
  p = passed-append es (pure.a_dark at pure.none) x

-- for an entry of the program
pub sees_in : (es l : pure.Entries) (x : List ℕ) (s : Seen) (e : Entry) → view_then e pure.none ≡ l → Sees (es ⊕ l) x s
    → Sees (es ⊕ view_then e pure.none) x s
sees_in es l x s e is h = subst (λ z. Sees (es ⊕ z) x s) (sym is) h

pub ruleset seen_rules = (sees_val, sees_other, sees_mod, sees_mty, sees_dark)
