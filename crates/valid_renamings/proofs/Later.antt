-- A later renaming that names the places of the first one is alone as both.
use Rattle.std.proofs.Common.{◌≡◌, ◌≢◌, ◌⊎◌, inl, inr, List, Option, Some, None, refl, ap, sym, subst, ◌∙◌}
use Rattle.std.specs.Prelude.{IsTrue}
use Rattle.rotor_base.specs.Name.{is_value_name}
use Rattle.rotor_base.specs.declared.place.Facts.{Facts}
use Rattle.rotor_base.specs.declared.place.Goal.{Goal}
use Rattle.rotor_base.specs.declared.place.Goal.TheVariants.{Decl, Outside, Missing, Hidden, Blur}
use Rattle.rotor_base.specs.declared.place.Place.{Place}
use Rattle.value_sites.specs.Sound.{IsSound}
use Rattle.ml_trees.specs.Tree.{UnitTree}
use Rattle.shape_core.specs.Respell.{Words}
use Rattle.shape_core.specs.Shape.{Name, or_value}
use Rattle.binding_model.specs.Facts.{facts, facts_of}
use Rattle.binding_model.specs.Renaming.{IsBinder}
use Rattle.binding_model.specs.Renaming.{Renaming, at_place, goal_at, name_of, new_word, words_of, respell, Changes, IsFree, IsValid}
use Rattle.binding_model.specs.Steps.{spell_steps}
use Rattle.binding_model.specs.Walk.{steps}
use Rattle.binding_model.proofs.Leasts.{binder_name, keeps}
use Rattle.binding_model.proofs.Projects.{steps_stay}
use Rattle.valid_renamings.specs.Laws.{Covers, HasValueNames, OnceIsTheSame, OnceIsTwice, TwiceIsOnce}
use Rattle.valid_renamings.proofs.Kept.{binder_new, binder_old, fixed, free_new, free_old, good_by_steps}
use Rattle.valid_renamings.proofs.Together.{at_contains, same_or_not}
use Rattle.valid_renamings.proofs.Words.{steps_twice}

module _ (us : List UnitTree) (first later : Renaming) (sound : IsSound us) (sound_too : IsSound (respell us first)) (valid : IsValid us first)
    (covers : Covers later first) where
  abbrev vs : List UnitTree
  vs = respell us first

  abbrev w : Words
  w = words_of first (facts us).refs

  abbrev u : Words
  u = words_of later (facts vs).refs

  abbrev c : Words
  c = words_of later (facts us).refs

  -- ---- the words

  value_wins : (d : Place) (x : Name) → or_value (at_place later d) x ≡ or_value (at_place later d) (or_value (at_place first d) x)
  value_wins d x = by (at_place later d) refl where
    by : (o : Option Name) → at_place later d ≡ o → or_value (at_place later d) x ≡ or_value (at_place later d) (or_value (at_place first d) x)
    by (Some y) e = ap (λ o. or_value o x) e ∙ ap (λ o. or_value o (or_value (at_place first d) x)) (sym e)
    by None e = ap (or_value (at_place later d)) (ap (λ o. or_value o x) (sym (covers d e)))

  word_wins : (o : Option Goal) (at : Place) (x : Name) → new_word later o at x ≡ new_word later o at (new_word first o at x)
  word_wins None at x = value_wins at x
  word_wins (Some (Decl d)) at x = value_wins d x
  word_wins (Some Outside) at x = refl
  word_wins (Some Missing) at x = refl
  word_wins (Some Hidden) at x = refl
  word_wins (Some (Blur by n o)) at x = refl

  words_win : (at : Place) (x : Name) → c at x ≡ u at (w at x)
  words_win at x =
      word_wins (goal_at (facts us).refs at) at x
      ∙ ap (λ (f : Facts). new_word later (goal_at f.refs at) at (w at x)) (sym valid.same)

  -- ---- the steps, if what the later one changes may change in both projects

  same_steps : ((d : Place) (y : Name) → Changes us later d y → IsFree us d) → ((d : Place) (y : Name) → Changes vs later d y → IsFree vs d)
      → steps (respell us later) ≡ steps (respell vs later)
  same_steps before then =
      steps_stay us c (keeps us later sound before)
      ∙ steps_twice c u w words_win (steps us)
      ∙ ap (spell_steps u) (sym (steps_stay us w (fixed us first sound valid)))
      ∙ sym (steps_stay vs u (keeps vs later sound_too then))

  -- a name other than the old one that the renamed project has is a change of the first renaming
  first_change : (d : Place) (y : Name) → IsBinder us d → y ≡ name_of vs d → y ≢ name_of us d → Changes us first d y
  first_change d y b e n = by (at_place first d) refl where
    name : y ≡ or_value (at_place first d) (name_of us d)
    name = e ∙ binder_name us first sound valid.free d b

    by : (o : Option Name) → at_place first d ≡ o → Changes us first d y
    by None f = absurd (n (name ∙ ap (λ o. or_value o (name_of us d)) f))
    by (Some z) f = (f ∙ ap (λ (q : Name). Some q) (sym (name ∙ ap (λ o. or_value o (name_of us d)) f)), n)

  -- ---- valid in the renamed project, so in the first one

  module _ (too : IsValid vs later) where
    binder_was : (d : Place) (y : Name) → at_place later d ≡ Some y → IsBinder us d
    binder_was d y e = binder_old us first sound valid d (too.binders d y (at_contains later d y e))

    change_was : (d : Place) (y : Name) → Changes us later d y → Changes vs later d y ⊎ Changes us first d y
    change_was d y k = elim (same_or_not y (name_of vs d)) [
      | inl s ↦ inr (first_change d y (binder_was d y k.0) s k.1)
      | inr n ↦ inl (k.0, n)
    ]

    free_before : (d : Place) (y : Name) → Changes us later d y → IsFree us d
    free_before d y k = elim (change_was d y k) [ inl a ↦ free_old us first sound valid d (too.free d y a) | inr a ↦ valid.free d y a ]

    names_before : (d : Place) (y : Name) → Changes us later d y → IsTrue (is_value_name y)
    names_before d y k = elim (change_was d y k) [ inl a ↦ too.names d y a | inr a ↦ valid.names d y a ]

    pub valid_before : IsValid us later
    valid_before =
        let same = same_steps free_before too.free in
        record {
          binders = λ d y k. binder_old us first sound valid d (too.binders d y k);
          free = free_before;
          names = names_before;
          good = good_by_steps (respell vs later) (respell us later) (sym same) too.good;
          same = ap facts_of same ∙ (too.same ∙ valid.same);
        }

  -- ---- valid in the first project, so in the renamed one

  module _ (own : IsValid us later) (named : HasValueNames us later) where
    old_or_new : (d : Place) (y : Name) → Changes vs later d y → Changes us later d y ⊎ ((y ≡ name_of us d) × (z : Name) × Changes us first d z)
    old_or_new d y k = elim (same_or_not y (name_of us d)) [
      | inr n ↦ inl (k.0, n)
      | inl s ↦ inr (s, name_of vs d, first_change d (name_of vs d) (own.binders d y (at_contains later d y k.0)) refl (λ e. k.1 (s ∙ sym e)))
    ]

    free_then : (d : Place) (y : Name) → Changes vs later d y → IsFree vs d
    free_then d y k = free_new us first sound valid d
        (elim (old_or_new d y k) [ inl a ↦ own.free d y a | inr a ↦ valid.free d a.1 a.2 ])

    names_then : (d : Place) (y : Name) → Changes vs later d y → IsTrue (is_value_name y)
    names_then d y k = elim (old_or_new d y k) [
      | inl a ↦ own.names d y a
      | inr a ↦ subst (λ x. IsTrue (is_value_name x)) (sym a.0) (named d y (at_contains later d y k.0))
    ]

    pub valid_then : IsValid vs later
    valid_then =
        let same = same_steps own.free free_then in
        record {
          binders = λ d y k. binder_new us first sound valid d (own.binders d y k);
          free = free_then;
          names = names_then;
          good = good_by_steps (respell us later) (respell vs later) same own.good;
          same = ap facts_of (sym same) ∙ (own.same ∙ sym valid.same);
        }

pub twice_is_once : TwiceIsOnce
twice_is_once us first later s t v k h = valid_before us first later s t v h k

pub once_is_twice : OnceIsTwice
once_is_twice us first later s t v k h n = valid_then us first later s t v h k n

pub once_is_the_same : OnceIsTheSame
once_is_the_same us first later s t v k l h = same_steps us first later s t v h k.free l.free
