-- No change is valid, and a valid renaming has a valid one back.
use Rattle.std.proofs.Common.{◌≡◌, zero, suc, List, [], ◌∷◌, Bool, true, false, Option, Some, None, Contains, refl, ap, sym, subst, ◌∙◌, arith}
use Rattle.std.specs.Prelude.{IsTrue}
use Rattle.rotor_base.specs.Name.{is_value_name}
use Rattle.rotor_base.specs.Place.{same_place}
use Rattle.rotor_base.specs.declared.place.Facts.{Facts}
use Rattle.rotor_base.specs.declared.place.Goal.{Goal}
use Rattle.rotor_base.specs.declared.place.Goal.TheVariants.{Decl, Outside, Missing, Hidden, Blur}
use Rattle.rotor_base.specs.declared.place.Place.{Place}
use Rattle.value_sites.specs.Each.{Each}
use Rattle.value_sites.specs.Places.{Site}
use Rattle.value_sites.specs.Sound.{IsSound}
use Rattle.ml_trees.specs.Tree.{UnitTree}
use Rattle.shape_core.specs.Respell.{Words}
use Rattle.shape_core.specs.Shape.{Name, or_else, or_value, some_if}
use Rattle.binding_model.specs.Facts.{facts, facts_of, IsGood}
use Rattle.binding_model.specs.Renaming.{IsBinder}
use Rattle.binding_model.specs.Local.{found_at}
use Rattle.binding_model.specs.Renaming.{Renaming, places, at_place, goal_at, name_of, site_name}
use Rattle.binding_model.specs.Renaming.{new_word, words_of, respell, Changes, IsFree, IsValid}
use Rattle.binding_model.specs.Steps.{a_ref, spell_steps}
use Rattle.binding_model.specs.Walk.{steps}
use Rattle.binding_model.proofs.LastEntries.{same_is}
use Rattle.binding_model.proofs.Leasts.{binder_name, keeps}
use Rattle.binding_model.proofs.Projects.{steps_stay}
use Rattle.binding_model.proofs.Sounds.{each_map, found_all, links_join_one_name}
use Rattle.binding_model.proofs.Standing.{found_in}
use Rattle.binding_model.proofs.Staying.{ref_at}
use Rattle.binding_model.proofs.Telltale.{apart_of, goal_found, goal_of_ref}
use Rattle.valid_renamings.specs.Laws.{back, HasValueNames, GoesBack, NothingIsValid, ValidGoesBack}
use Rattle.valid_renamings.proofs.Kept.{binder_new, fixed, free_new, good_by_steps}
use Rattle.valid_renamings.proofs.Together.{at_contains}
use Rattle.valid_renamings.proofs.Words.{project_own, steps_twice}

-- ---- no change

own_word : (o : Option Goal) (at : Place) (x : Name) → new_word [] o at x ≡ x
own_word None at x = refl
own_word (Some (Decl d)) at x = refl
own_word (Some Outside) at x = refl
own_word (Some Missing) at x = refl
own_word (Some Hidden) at x = refl
own_word (Some (Blur by n o)) at x = refl

module _ (us : List UnitTree) (sound : IsSound us) (good : IsGood us) where
  abbrev w : Words
  w = words_of [] (facts us).refs

  own_at : (at : Place) (x : Name) → w at x ≡ x
  own_at at x = own_word (goal_at (facts us).refs at) at x

  each_own : (L : List (Place × Site)) → Each (λ e. w e.0 e.1.name ≡ e.1.name) L
  each_own [] = tt
  each_own (e ∷ L) = (own_at e.0 e.1.name, each_own L)

  none_change : (d : Place) (y : Name) → Changes us [] d y → ⊥
  none_change d y c = let wrong : None ≡ Some y = c.0 in cc

  unchanged : steps (respell us []) ≡ steps us
  unchanged =
      let stay : steps (respell us []) ≡ spell_steps w (steps us) =
      steps_stay us w (keeps us [] sound (λ d y c. absurd (none_change d y c))) in
      stay ∙ project_own w us (each_own (places us))

  pub nothing_valid : IsValid us []
  nothing_valid = record {
    binders = λ d y c. absurd (omega (arith, c.1));
    free = λ d y c. absurd (none_change d y c);
    names = λ d y c. absurd (none_change d y c);
    good = good_by_steps us (respell us []) (sym unchanged) good;
    same = ap facts_of unchanged;
  }

pub nothing_is_valid : NothingIsValid
nothing_is_valid us s g = nothing_valid us s g

-- ---- the way back

module _ (us : List UnitTree) where
  -- an entry of the way back
  pub back_at : (r : Renaming) (d : Place) (y : Name) → at_place r d ≡ Some y → at_place (back us r) d ≡ Some (name_of us d)
  back_at [] d y e = let wrong : None ≡ Some y = e in absurd cc
  back_at (x ∷ r) d y e = by (same_place x.0 d) refl e (back_at r d y) where
    by : (b : Bool) → same_place x.0 d ≡ b → or_else (some_if b x.1) (at_place r d) ≡ Some y
        → (at_place r d ≡ Some y → at_place (back us r) d ≡ Some (name_of us d))
        → or_else (some_if b (name_of us x.0)) (at_place (back us r) d) ≡ Some (name_of us d)
    by true s f rest = ap (λ p. Some (name_of us p)) (same_is x.0 d s)
    by false s f rest = rest f

  pub back_none : (r : Renaming) (d : Place) → at_place r d ≡ None → at_place (back us r) d ≡ None
  back_none [] d e = refl
  back_none (x ∷ r) d e = by (same_place x.0 d) e (back_none r d) where
    by : (b : Bool) → or_else (some_if b x.1) (at_place r d) ≡ None → (at_place r d ≡ None → at_place (back us r) d ≡ None)
        → or_else (some_if b (name_of us x.0)) (at_place (back us r) d) ≡ None
    by true f rest = let wrong : Some x.1 ≡ None = f in absurd cc
    by false f rest = rest f

  -- an entry of the way back is of one of the renaming
  pub back_entry : (r : Renaming) (d : Place) (z : Name) → at_place (back us r) d ≡ Some z → (y : Name) × (at_place r d ≡ Some y)
  back_entry r d z e = by (at_place r d) refl where
    by : (o : Option Name) → at_place r d ≡ o → (y : Name) × (at_place r d ≡ Some y)
    by (Some y) f = (y, f)
    by None f = let wrong : None ≡ Some z = sym (back_none r d f) ∙ e in absurd cc

  contained_back : (r : Renaming) (d : Place) (z : Name) → Contains (back us r) (d, z) → (y : Name) × Contains r (d, y)
  contained_back [] d z c = absurd (omega (arith, c.1))
  contained_back (x ∷ r) d z (zero, l, e) = (x.1, (zero, omega arith, ap (λ (p : Place × Name). (p.0, x.1)) e))
  contained_back (x ∷ r) d z (suc k, l, e) =
      let h = contained_back r d z (k, omega (arith, l), e) in
      (h.0, (suc h.1.0, omega (arith, h.1.1), h.1.2))

module _ (us : List UnitTree) (r : Renaming) (sound : IsSound us) (sound_too : IsSound (respell us r)) (good : IsGood us) (valid : IsValid us r)
    (named : HasValueNames us r) where
  abbrev vs : List UnitTree
  vs = respell us r

  abbrev pub b : Renaming
  b = back us r

  abbrev v : Words
  v = words_of r (facts us).refs

  abbrev u : Words
  u = words_of b (facts vs).refs

  -- a change back is of a change
  change_was : (d : Place) (z : Name) → Changes vs b d z → (y : Name) × Changes us r d y
  change_was d z c =
      let e = back_entry us r d z c.0 in
      let own : Some (name_of us d) ≡ Some z = sym (back_at us r d e.0 e.1) ∙ c.0 in
      let old : name_of us d ≡ z = cc in
      let name : name_of vs d ≡ e.0 = binder_name us r sound valid.free d (valid.binders d e.0 (at_contains r d e.0 e.1))
      ∙ ap (λ o. or_value o (name_of us d)) e.1 in
      (e.0, (e.1, λ s. c.1 (sym old ∙ (sym s ∙ sym name))))

  free_back : (d : Place) (z : Name) → Changes vs b d z → IsFree vs d
  free_back d z c = let k = change_was d z c in free_new us r sound valid d (valid.free d k.0 k.1)

  names_back : (d : Place) (z : Name) → Changes vs b d z → IsTrue (is_value_name z)
  names_back d z c =
      let k = change_was d z c in
      let own : Some (name_of us d) ≡ Some z = sym (back_at us r d k.0 k.1.0) ∙ c.0 in
      let old : name_of us d ≡ z = cc in
      subst (λ x. IsTrue (is_value_name x)) old (named d k.0 (at_contains r d k.0 k.1.0))

  binders_back : (d : Place) (z : Name) → Contains b (d, z) → IsBinder vs d
  binders_back d z c = let k = contained_back us r d z c in binder_new us r sound valid d (valid.binders d k.0 k.1)

  -- ---- each place has its old word again

  value_back : (d : Place) (x : Name) → name_of us d ≡ x → or_value (at_place b d) (or_value (at_place r d) x) ≡ x
  value_back d x n = by (at_place r d) refl where
    by : (o : Option Name) → at_place r d ≡ o → or_value (at_place b d) (or_value (at_place r d) x) ≡ x
    by None e = ap (λ o. or_value o (or_value (at_place r d) x)) (back_none us r d e) ∙ ap (λ o. or_value o x) e
    by (Some y) e = ap (λ o. or_value o (or_value (at_place r d) x)) (back_at us r d y e) ∙ n

  goal_back : (k : Goal) (q : Place) (x : Name) → ((d : Place) → k ≡ Decl d → name_of us d ≡ x)
      → new_word b (Some k) q (new_word r (Some k) q x) ≡ x
  goal_back (Decl d) q x f = value_back d x (f d refl)
  goal_back Outside q x f = refl
  goal_back Missing q x f = refl
  goal_back Hidden q x f = refl
  goal_back (Blur by n o) q x f = refl

  pub site_back : (o : Option Goal) (q : Place) (x : Site) → goal_at (facts us).refs q ≡ o → at_place (places us) q ≡ Some x
      → new_word b o q (new_word r o q x.name) ≡ x.name
  site_back None q x e h = value_back q x.name (ap site_name h)
  site_back (Some k) q x e h =
      let g = goal_of_ref (found_at ref_at (facts us).refs q) k (sym (goal_found (facts us).refs q) ∙ e) in
      let c = found_in ref_at (facts us).refs q g.0 g.1 in
      goal_back k q x.name (λ d i.
      let z : g.0 ≡ a_ref q (Decl d) = ap (λ p. a_ref p g.0.goal) c.1 ∙ ap (a_ref q) (g.2 ∙ i) in
      sym ((links_join_one_name us sound).uses q d (subst (Contains (facts us).refs) z c.0)) ∙ ap site_name h)

  sites_back : Each (λ e. u e.0 (v e.0 e.1.name) ≡ e.1.name) (places us)
  sites_back =
      each_map (λ e. at_place (places us) e.0 ≡ Some e.1) (λ e. u e.0 (v e.0 e.1.name) ≡ e.1.name) (places us)
      (λ e h. ap (λ (f : Facts). words_of b f.refs e.0 (v e.0 e.1.name)) valid.same ∙ site_back (goal_at (facts us).refs e.0) e.0 e.1 refl h)
      (found_all (places us) (apart_of us sound))

  undone : steps (respell vs b) ≡ steps us
  undone =
      steps_stay vs u (keeps vs b sound_too free_back)
      ∙ ap (spell_steps u) (steps_stay us v (fixed us r sound valid))
      ∙ sym (steps_twice (λ at x. u at (v at x)) u v (λ at x. refl) (steps us))
      ∙ project_own (λ at x. u at (v at x)) us sites_back

  pub way_back : GoesBack us r
  way_back = record {
    valid = record {
      binders = binders_back;
      free = free_back;
      names = names_back;
      good = good_by_steps us (respell vs b) (sym undone) good;
      same = ap facts_of undone ∙ sym valid.same;
    };
    same = undone;
  }

pub valid_goes_back : ValidGoesBack
valid_goes_back us r s t g v n = way_back us r s t g v n
