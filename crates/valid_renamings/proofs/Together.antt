-- A valid renaming, and a valid one of the renamed project, are together a valid one.
use Rattle.std.proofs.Common.{◌≡◌, ◌≢◌, ◌⊎◌, inl, inr, suc, List, [], ◌∷◌, ◌++◌, Bool, true, false, Option, Some, None, Contains, refl, ap}
use Rattle.std.proofs.Common.{sym, ◌∙◌, arith}
use Rattle.std.proofs.lemmas.List.Elements.{Contains-append_cases}
use Rattle.std.proofs.lemmas.Slice.Eq.{bytes_eq-Decides}
use Rattle.std.specs.Prelude.{IsTrue, bytes_eq}
use Rattle.rotor_base.specs.Name.{is_value_name}
use Rattle.rotor_base.specs.Place.{same_place}
use Rattle.rotor_base.specs.declared.place.Facts.{Facts}
use Rattle.rotor_base.specs.declared.place.Goal.{Goal}
use Rattle.rotor_base.specs.declared.place.Goal.TheVariants.{Decl, Outside, Missing, Hidden, Blur}
use Rattle.rotor_base.specs.declared.place.Place.{Place}
use Rattle.value_sites.specs.Sound.{IsSound}
use Rattle.ml_trees.specs.Tree.{UnitTree}
use Rattle.shape_core.specs.Respell.{Words}
use Rattle.shape_core.specs.Shape.{Name, or_else, or_value, some_if}
use Rattle.binding_model.specs.Facts.{facts, facts_of}
use Rattle.binding_model.specs.Renaming.{IsBinder}
use Rattle.binding_model.specs.Renaming.{Renaming, at_place, goal_at, name_of, new_word, words_of, respell, Changes, IsFree, IsValid}
use Rattle.binding_model.specs.Steps.{spell_steps}
use Rattle.binding_model.specs.Walk.{steps}
use Rattle.binding_model.proofs.LastEntries.{same_is}
use Rattle.binding_model.proofs.Leasts.{binder_name, keeps}
use Rattle.binding_model.proofs.Projects.{steps_stay}
use Rattle.valid_renamings.specs.Laws.{together, ValidsAreOne, ValidsCompose}
use Rattle.valid_renamings.proofs.Kept.{binder_old, fixed, free_old, good_by_steps}
use Rattle.valid_renamings.proofs.Words.{steps_twice}

-- ---- lists of entries

else_twice : {A : Type 0} (a b c : Option A) → or_else (or_else a b) c ≡ or_else a (or_else b c)
else_twice None b c = refl
else_twice (Some x) b c = refl

-- the later renaming is asked first
pub at_together : (later first : Renaming) (d : Place) → at_place (later ++ first) d ≡ or_else (at_place later d) (at_place first d)
at_together [] first d = refl
at_together (e ∷ later) first d =
    ap (or_else (some_if (same_place e.0 d) e.1)) (at_together later first d)
    ∙ sym (else_twice (some_if (same_place e.0 d) e.1) (at_place later d) (at_place first d))

value_twice : (a b : Option Name) (x : Name) → or_value (or_else a b) x ≡ or_value a (or_value b x)
value_twice None b x = refl
value_twice (Some y) b x = refl

-- the entry that a look-up finds is in the list
pub at_contains : (r : Renaming) (d : Place) (y : Name) → at_place r d ≡ Some y → Contains r (d, y)
at_contains [] d y e = let wrong : None ≡ Some y = e in absurd cc
at_contains (x ∷ r) d y e = by (same_place x.0 d) refl e (at_contains r d y) where
  by : (b : Bool) → same_place x.0 d ≡ b → or_else (some_if b x.1) (at_place r d) ≡ Some y → (at_place r d ≡ Some y → Contains r (d, y))
      → Contains (x ∷ r) (d, y)
  by true s f rest = let name : x.1 ≡ y = cc in (0, omega arith, ap (λ p. (p, x.1)) (same_is x.0 d s) ∙ ap (λ z. (d, z)) name)
  by false s f rest = let c = rest f in (suc c.0, omega (arith, c.1), c.2)

pub same_or_not : (x y : Name) → (x ≡ y) ⊎ (x ≢ y)
same_or_not x y = by (bytes_eq x y) refl where
  by : (b : Bool) → bytes_eq x y ≡ b → (x ≡ y) ⊎ (x ≢ y)
  by true e = inl ((bytes_eq-Decides x y).0 e)
  by false e = inr (λ s. (let wrong : true ≡ false = sym ((bytes_eq-Decides x y).1 s) ∙ e in cc))

module _ (us : List UnitTree) (first later : Renaming) (sound : IsSound us) (sound_too : IsSound (respell us first)) (valid : IsValid us first)
    (too : IsValid (respell us first) later) where
  abbrev vs : List UnitTree
  vs = respell us first

  abbrev both : Renaming
  both = together first later

  abbrev w : Words
  w = words_of first (facts us).refs

  abbrev u : Words
  u = words_of later (facts vs).refs

  abbrev c : Words
  c = words_of both (facts us).refs

  -- ---- the words

  value_both : (d : Place) (x : Name) → or_value (at_place both d) x ≡ or_value (at_place later d) (or_value (at_place first d) x)
  value_both d x = ap (λ o. or_value o x) (at_together later first d) ∙ value_twice (at_place later d) (at_place first d) x

  word_both : (o : Option Goal) (at : Place) (x : Name) → new_word both o at x ≡ new_word later o at (new_word first o at x)
  word_both None at x = value_both at x
  word_both (Some (Decl d)) at x = value_both d x
  word_both (Some Outside) at x = refl
  word_both (Some Missing) at x = refl
  word_both (Some Hidden) at x = refl
  word_both (Some (Blur by n o)) at x = refl

  pub words_both : (at : Place) (x : Name) → c at x ≡ u at (w at x)
  words_both at x =
      word_both (goal_at (facts us).refs at) at x
      ∙ ap (λ (f : Facts). new_word later (goal_at f.refs at) at (w at x)) (sym valid.same)

  -- ---- what changes may change

  -- what a renaming gives a binder is one of its changes, or its own name
  changed_first : (d : Place) (y : Name) → at_place first d ≡ Some y → y ≢ name_of us d → Changes us first d y
  changed_first d y e n = (e, n)

  kept_first : (d : Place) (y : Name) → IsBinder us d → y ≡ name_of vs d → y ≢ name_of us d → Changes us first d y
  kept_first d y b e n = by (at_place first d) refl where
    name : y ≡ or_value (at_place first d) (name_of us d)
    name = e ∙ binder_name us first sound valid.free d b

    by : (o : Option Name) → at_place first d ≡ o → Changes us first d y
    by None f = absurd (n (name ∙ ap (λ o. or_value o (name_of us d)) f))
    by (Some z) f = (f ∙ ap (λ (q : Name). Some q) (sym (name ∙ ap (λ o. or_value o (name_of us d)) f)), n)

  -- a change of both is one of the later renaming, or of the first
  change_of : (d : Place) (y : Name) → Changes us both d y → Changes vs later d y ⊎ Changes us first d y
  change_of d y k = by (at_place later d) refl where
    found : or_else (at_place later d) (at_place first d) ≡ Some y
    found = sym (at_together later first d) ∙ k.0

    by : (o : Option Name) → at_place later d ≡ o → Changes vs later d y ⊎ Changes us first d y
    by None e = inr (ap (λ o. or_else o (at_place first d)) (sym e) ∙ found, k.1)
    by (Some z) e =
        let here : Some z ≡ Some y = ap (λ o. or_else o (at_place first d)) (sym e) ∙ found in
        let there : at_place later d ≡ Some y = e ∙ here in
        let b = too.binders d y (at_contains later d y there) in
        elim (same_or_not y (name_of vs d)) [
          | inl s ↦ inr (kept_first d y (binder_old us first sound valid d (b.0, b.1, b.2)) s k.1)
          | inr n ↦ inl (there, n)
        ]

  free_both : (d : Place) (y : Name) → Changes us both d y → IsFree us d
  free_both d y k = elim (change_of d y k) [ inl a ↦ free_old us first sound valid d (too.free d y a) | inr a ↦ valid.free d y a ]

  names_both : (d : Place) (y : Name) → Changes us both d y → IsTrue (is_value_name y)
  names_both d y k = elim (change_of d y k) [ inl a ↦ too.names d y a | inr a ↦ valid.names d y a ]

  binders_both : (d : Place) (y : Name) → Contains both (d, y) → IsBinder us d
  binders_both d y k = elim (Contains-append_cases later first (d, y) k) [
    | inl a ↦ binder_old us first sound valid d (too.binders d y a)
    | inr a ↦ valid.binders d y a
  ]

  -- ---- the steps

  pub same : steps (respell us both) ≡ steps (respell vs later)
  same =
      steps_stay us c (keeps us both sound free_both)
      ∙ steps_twice c u w words_both (steps us)
      ∙ ap (spell_steps u) (sym (steps_stay us w (fixed us first sound valid)))
      ∙ sym (steps_stay vs u (fixed vs later sound_too too))

  pub together_is_valid : IsValid us both
  together_is_valid = record {
    binders = binders_both;
    free = free_both;
    names = names_both;
    good = good_by_steps (respell vs later) (respell us both) (sym same) too.good;
    same = ap facts_of same ∙ (too.same ∙ valid.same);
  }

pub valids_compose : ValidsCompose
valids_compose us first later s t v k = together_is_valid us first later s t v k

pub valids_are_one : ValidsAreOne
valids_are_one us first later s t v k = same us first later s t v k
