-- A valid renaming without the entries that give a binder its own name.
use Rattle.std.proofs.Common.{◌≡◌, ◌≢◌, ◌⊎◌, inl, inr, List, [], ◌∷◌, Option, Some, None, refl, ap, sym, ◌∙◌}
use Rattle.rotor_base.specs.declared.place.Goal.{Goal}
use Rattle.rotor_base.specs.declared.place.Goal.TheVariants.{Decl, Outside, Missing, Hidden, Blur}
use Rattle.rotor_base.specs.declared.place.Place.{Place}
use Rattle.rotor_base.proofs.Rising.{some_is}
use Rattle.value_sites.specs.Each.{Each}
use Rattle.value_sites.specs.Places.{Site}
use Rattle.value_sites.specs.Sound.{IsSound}
use Rattle.ml_trees.specs.Tree.{UnitTree}
use Rattle.shape_core.specs.Respell.{Words}
use Rattle.shape_core.specs.Shape.{Name, or_value}
use Rattle.binding_model.specs.Facts.{facts, facts_of}
use Rattle.binding_model.specs.Renaming.{Renaming, places, at_place, site_name, name_of, goal_at, new_word, words_of, respell, Changes, IsValid}
use Rattle.binding_model.specs.Steps.{spell_steps}
use Rattle.binding_model.specs.Walk.{steps}
use Rattle.binding_model.proofs.Leasts.{keeps}
use Rattle.binding_model.proofs.Projects.{steps_stay}
use Rattle.binding_model.proofs.Sounds.{links_join_one_name}
use Rattle.respelled_reading.specs.Renamed.{GivesValueNames}
use Rattle.respelled_reading.proofs.Renamed.{changes_places, goal_there}
use Rattle.valid_renamings.proofs.Kept.{fixed, good_by_steps}
use Rattle.valid_renamings.proofs.Together.{at_contains, same_or_not}
use Rattle.valid_renamings.proofs.Words.{project_own, steps_twice}
use Rattle.rename_respell.specs.Respelled.{changed}
use Rattle.rename_verify.proofs.Given.{changes_are_changed, is_other, other_name}
use Rattle.rename_verify.specs.Laws.{IsMap}
use Rattle.verified_respellings.proofs.Firsts.{at_firsts, firsts, in_filtered, in_firsts, one_first}
use Rattle.verified_respellings.proofs.OwnFiles.{AreAlikeIn}

each_itself : (L : List (Place × Site)) → Each (λ e. e.1.name ≡ e.1.name) L
each_itself [] = tt
each_itself (e ∷ L) = (refl, each_itself L)

module _ (us : List UnitTree) (r : Renaming) (sound : IsSound us) (valid : IsValid us r) (gives : GivesValueNames us r) where
  -- without hidden entries
  abbrev pub plain : Renaming
  plain = firsts r

  -- and without the entries that give a binder its own name
  abbrev pub others : Renaming
  others = changed us plain

  abbrev pub v : Words
  v = words_of r (facts us).refs

  abbrev pub w : Words
  w = words_of others (facts us).refs

  pub is_map : IsMap plain
  is_map d y z c k = some_is y z (sym (one_first r d y c) ∙ one_first r d z k)

  -- ---- the map without hidden entries is valid

  abbrev u : Words
  u = words_of plain (facts us).refs

  abbrev own : Words
  own at x = x

  word_same : (o : Option Goal) (at : Place) (x : Name) → new_word plain o at x ≡ new_word r o at x
  word_same None at x = ap (λ q. or_value q x) (at_firsts r at)
  word_same (Some (Decl d)) at x = ap (λ q. or_value q x) (at_firsts r d)
  word_same (Some Outside) at x = refl
  word_same (Some Missing) at x = refl
  word_same (Some Hidden) at x = refl
  word_same (Some (Blur by n o)) at x = refl

  change_same : (d : Place) (y : Name) → Changes us plain d y → Changes us r d y
  change_same d y c = (sym (at_firsts r d) ∙ c.0, c.1)

  same_steps : steps (respell us plain) ≡ steps (respell us r)
  same_steps =
      steps_stay us u (keeps us plain sound (λ d y c. valid.free d y (change_same d y c)))
      ∙ steps_twice u v own (λ at x. word_same (goal_at (facts us).refs at) at x) (steps us)
      ∙ ap (spell_steps v) (project_own own us (each_itself (places us)))
      ∙ sym (steps_stay us v (fixed us r sound valid))

  pub plain_is_valid : IsValid us plain
  plain_is_valid = record {
    binders = λ d y c. valid.binders d y (in_firsts r d y c);
    free = λ d y c. valid.free d y (change_same d y c);
    names = λ d y c. valid.names d y (change_same d y c);
    good = good_by_steps (respell us r) (respell us plain) (sym same_steps) valid.good;
    same = ap facts_of same_steps ∙ valid.same;
  }

  -- ---- the entries of others

  in_others : (d : Place) (y : Name) → at_place others d ≡ Some y → (at_place r d ≡ Some y) × (y ≢ name_of us d)
  in_others d y e =
      let k = in_filtered (is_other us) plain (d, y) (at_contains others d y e) in
      (sym (at_firsts r d) ∙ one_first r d y k.0, other_name us d y k.1)

  pub gives_others : GivesValueNames us others
  gives_others = record {
    word = λ d y e. gives.word d y (in_others d y e).0;
    place = λ d y e. gives.place d y (in_others d y e).0;
    free = λ d y e. gives.free d y (in_others d y e).0;
    uses = λ d y x e. gives.uses d y x (in_others d y e).0;
  }

  -- a place that the renaming gives a name has it, but if it is its own
  abbrev IsOwn : Place → Type 0
  IsOwn d = (y : Name) × (at_place r d ≡ Some y) × (y ≡ name_of us d) × (at_place others d ≡ None)

  entry : (d : Place) → (at_place others d ≡ at_place r d) ⊎ IsOwn d
  entry d = by (at_place others d) refl (at_place r d) refl where
    by : (o : Option Name) → at_place others d ≡ o → (q : Option Name) → at_place r d ≡ q → (at_place others d ≡ at_place r d) ⊎ IsOwn d
    by (Some y) e q f = inl (e ∙ sym (in_others d y e).0)
    by None e None f = inl (e ∙ sym f)
    by None e (Some y) f = elim (same_or_not y (name_of us d)) [
      | inl s ↦ inr (y, f, s, e)
      | inr n ↦
          let there = changes_are_changed us plain d y (at_firsts r d ∙ f, n) in
          let wrong : None ≡ Some y = sym e ∙ there in
          absurd cc
    ]

  -- ---- both maps of words are alike

  -- a word that the renaming keeps, the other one keeps
  value_kept : (d : Place) (x : Name) → or_value (at_place r d) x ≡ x → or_value (at_place others d) x ≡ x
  value_kept d x e = elim (entry d) [ inl s ↦ ap (λ o. or_value o x) s ∙ e | inr k ↦ ap (λ o. or_value o x) k.3 ]

  word_kept : (o : Option Goal) (at : Place) (x : Name) → new_word r o at x ≡ x → new_word others o at x ≡ x
  word_kept None at x e = value_kept at x e
  word_kept (Some (Decl d)) at x e = value_kept d x e
  word_kept (Some Outside) at x e = refl
  word_kept (Some Missing) at x e = refl
  word_kept (Some Hidden) at x e = refl
  word_kept (Some (Blur by n o)) at x e = refl

  -- the name of a place becomes the same
  value_alike : (d : Place) (x : Name) → name_of us d ≡ x → or_value (at_place r d) x ≡ or_value (at_place others d) x
  value_alike d x name = elim (entry d) [
    | inl s ↦ sym (ap (λ o. or_value o x) s)
    | inr k ↦ ap (λ o. or_value o x) k.1 ∙ (k.2 ∙ name) ∙ sym (ap (λ o. or_value o x) k.3)
  ]

  word_alike : (o : Option Goal) (at : Place) (x : Name) → goal_at (facts us).refs at ≡ o → name_of us at ≡ x
      → new_word r o at x ≡ new_word others o at x
  word_alike None at x g name = value_alike at x name
  word_alike (Some (Decl d)) at x g name =
      value_alike d x (sym ((links_join_one_name us sound).uses at d (goal_there (facts us).refs at (Decl d) g)) ∙ name)
  word_alike (Some Outside) at x g name = refl
  word_alike (Some Missing) at x g name = refl
  word_alike (Some Hidden) at x g name = refl
  word_alike (Some (Blur by n o)) at x g name = refl

  pub alike : AreAlikeIn us v w
  alike q x = elim (changes_places us r sound gives q x) [
    | inl e ↦ inl (e ∙ sym (word_kept (goal_at (facts us).refs q) q x e))
    | inr k ↦ inr (k.1, k.2, k.3, λ named. word_alike (goal_at (facts us).refs q) q x refl (ap site_name k.2 ∙ named))
  ]
