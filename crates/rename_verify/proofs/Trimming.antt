-- A valid map without the entries that give a binder its own name is valid, and respells the project in the same way.
use Rattle.std.proofs.Common.{◌≡◌, ◌≢◌, ◌||◌, zero, suc, List, [], ◌∷◌, Bool, true, false, Option, Some, None, Contains, map, refl, ap, sym, subst}
use Rattle.std.proofs.Common.{◌∙◌, arith}
use Rattle.std.proofs.lemmas.Slice.Eq.{bytes_eq-Decides}
use Rattle.std.specs.Prelude.{IsTrue}
use Rattle.std.specs.Str.{bytes_eq}
use Rattle.rotor_base.specs.Place.{same_place}
use Rattle.rotor_base.specs.declared.place.Goal.{Goal}
use Rattle.rotor_base.specs.declared.place.Goal.TheVariants.{Decl, Outside, Missing, Hidden, Blur}
use Rattle.rotor_base.specs.declared.place.Link.{Link}
use Rattle.rotor_base.specs.declared.place.Place.{Place}
use Rattle.rotor_base.specs.declared.source.SourceFile.{SourceFile}
use Rattle.value_sites.specs.Each.{Each}
use Rattle.value_sites.specs.Sound.{IsSound}
use Rattle.ml_trees.specs.Tree.{UnitTree}
use Rattle.shape_core.specs.Respell.{Words, spell_shape, spell_entries}
use Rattle.shape_core.specs.Shape.{Name, Shape, Struct, Functor, Unitary, Opaque, Entries, none, a_val, a_mod, a_mty, a_dark, or_else}
use Rattle.shape_core.specs.Shape.{some_if, or_value, vals}
use Rattle.binding_model.specs.Facts.{facts, facts_of, AreNamedApart, IsGood}
use Rattle.binding_model.specs.Laws.{KeepsFixed}
use Rattle.binding_model.specs.Renaming.{Renaming, places, at_place, name_of, site_name, goal_at, new_word, words_of, respell, spell_units, Changes}
use Rattle.binding_model.specs.Renaming.{IsValid}
use Rattle.binding_model.specs.Steps.{Steps, quiet, ◌⨾◌, UseAlone, UseUnder, MatchOf, PinOf, TieOf, GroupOf, WeighedSite, OpenedSite, UnitStart}
use Rattle.binding_model.specs.Steps.{groups_of, spell_steps}
use Rattle.binding_model.specs.Walk.{steps}
use Rattle.binding_model.proofs.Named.{NamedShape, Named, NamedSteps}
use Rattle.binding_model.proofs.Naming.{units_named, each_in}
use Rattle.binding_model.proofs.Projects.{steps_stay}
use Rattle.binding_model.proofs.Sounds.{each_map, found_all, links_join_one_name, same_self}
use Rattle.binding_model.proofs.Telltale.{apart_of, each_contained, each_two}
use Rattle.project_reading.proofs.Soundness.{read_is_sound}
use Rattle.respelled_reading.specs.Renamed.{GivesValueNames}
use Rattle.respelled_reading.proofs.Renamed.{goal_there}
use Rattle.rename_respell.specs.Respelled.{AreRespelledBytes, changed}
use Rattle.rename_verify.specs.Laws.{IsMap, ValidIsYes}
use Rattle.rename_verify.proofs.Complete.{at_contains, changing_is_yes}
use Rattle.rename_verify.proofs.Given.{changes_are_changed, each_filtered, is_other, keeps_fixed, other_name}
use Rattle.rename_verify.proofs.Valid.{filtered_again}

-- ---- steps whose names two spellings give the same words

module _ (w v : Words) where
  abbrev Alike : Bool → Place → Name → Type 0
  Alike b d x = w d x ≡ v d x

  mutual
    shape_alike : (s : Shape) → NamedShape Alike s → spell_shape w s ≡ spell_shape v s
    shape_alike (Struct es) h = ap (λ z. Struct z) (entries_alike es h)
    shape_alike (Functor p r) h =
        ap (λ z. Functor z (spell_shape w r)) (shape_alike p h.0) ∙ ap (λ z. Functor (spell_shape v p) z) (shape_alike r h.1)
    shape_alike (Unitary r) h = ap (λ z. Unitary z) (shape_alike r h)
    shape_alike Opaque h = refl

    entries_alike : (es : Entries) → Named Alike es → spell_entries w es ≡ spell_entries v es
    entries_alike none h = refl
    entries_alike (a_val x (Decl d) es) h =
        ap (λ z. a_val z (Decl d) (spell_entries w es)) h.0 ∙ ap (λ z. a_val (v d x) (Decl d) z) (entries_alike es h.1)
    entries_alike (a_val x Outside es) h = absurd h.0
    entries_alike (a_val x Missing es) h = absurd h.0
    entries_alike (a_val x Hidden es) h = absurd h.0
    entries_alike (a_val x (Blur by n behind) es) h = absurd h.0
    entries_alike (a_mod X s es) h =
        ap (λ z. a_mod X z (spell_entries w es)) (shape_alike s h.0) ∙ ap (λ z. a_mod X (spell_shape v s) z) (entries_alike es h.1)
    entries_alike (a_mty X s es) h =
        ap (λ z. a_mty X z (spell_entries w es)) (shape_alike s h.0) ∙ ap (λ z. a_mty X (spell_shape v s) z) (entries_alike es h.1)
    entries_alike (a_dark at es) h = ap (λ z. a_dark at z) (entries_alike es h)

  steps_alike : (ss : Steps) → NamedSteps Alike ss → spell_steps w ss ≡ spell_steps v ss
  steps_alike quiet h = refl
  steps_alike (a ⨾ b) h = ap (λ z. z ⨾ spell_steps w b) (steps_alike a h.0) ∙ ap (λ z. spell_steps v a ⨾ z) (steps_alike b h.1)
  steps_alike (UseAlone at x sc) h =
      ap (λ z. UseAlone at z (spell_entries w sc)) h.0 ∙ ap (λ z. UseAlone at (v at x) z) (entries_alike sc h.1)
  steps_alike (UseUnder at x s) h = ap (λ z. UseUnder at z (spell_shape w s)) h.0 ∙ ap (λ z. UseUnder at (v at x) z) (shape_alike s h.1)
  steps_alike (MatchOf s t) h = ap (λ z. MatchOf z (spell_shape w t)) (shape_alike s h.0) ∙ ap (λ z. MatchOf (spell_shape v s) z) (shape_alike t h.1)
  steps_alike (PinOf s) h = ap (λ z. PinOf z) (shape_alike s h)
  steps_alike (TieOf p q) h =
      ap (λ z. TieOf z (spell_entries w q)) (entries_alike p h.0) ∙ ap (λ z. TieOf (spell_entries v p) z) (entries_alike q h.1)
  steps_alike (GroupOf es) h = ap (λ z. GroupOf z) (entries_alike es h)
  steps_alike (WeighedSite at s) h = ap (λ z. WeighedSite at z) (shape_alike s h)
  steps_alike (OpenedSite at s) h = ap (λ z. OpenedSite at z) (shape_alike s h)
  steps_alike UnitStart h = refl

  -- two spellings that give each place of a project one word give it the same steps
  pub same_steps : (us : List UnitTree) → KeepsFixed w us → Each (λ e. w e.0 e.1.name ≡ v e.0 e.1.name) (places us)
      → steps (spell_units w us) ≡ steps (spell_units v us)
  same_steps us fixed alike =
      let also : KeepsFixed v us =
      each_two (λ e. w e.0 e.1.name ≡ v e.0 e.1.name) (λ e. IsTrue (e.1.pun || e.1.operator) → w e.0 e.1.name ≡ e.1.name)
      (λ e. IsTrue (e.1.pun || e.1.operator) → v e.0 e.1.name ≡ e.1.name) (places us) (λ e s f t. sym s ∙ f t) alike fixed in
      steps_stay us w fixed ∙ (steps_alike (steps us) (units_named Alike us none tt alike) ∙ sym (steps_stay us v also))

-- a good project is good by its steps
good_by_steps : (us vs : List UnitTree) → steps us ≡ steps vs → IsGood us → IsGood vs
good_by_steps us vs e good = record {
  apart = subst (λ ss. Each (λ es. AreNamedApart (vals es)) (groups_of ss)) e good.apart;
  matched = subst (λ ss. Each (λ (l : Link). l.source ≢ Missing) (facts_of ss).links) e good.matched;
}

-- ---- lists of entries

at_contained : (r : Renaming) (d : Place) (y : Name) → Contains r (d, y) → (z : Name) × (at_place r d ≡ Some z)
at_contained [] d y c = absurd (omega (arith, c.1))
at_contained (x ∷ r) d y c = by (same_place x.0 d) refl c (λ k. at_contained r d y k) where
  by : (b : Bool) → same_place x.0 d ≡ b → Contains (x ∷ r) (d, y) → (Contains r (d, y) → (z : Name) × (at_place r d ≡ Some z))
      → (z : Name) × (or_else (some_if b x.1) (at_place r d) ≡ Some z)
  by true s c rest = (x.1, refl)
  by false s (zero, l, e) rest =
      let here : same_place x.0 d ≡ true = ap (λ (p : Place × Name). same_place p.0 d) e ∙ same_self d in
      let wrong : false ≡ true = sym s ∙ here in
      absurd cc
  by false s (suc k, l, e) rest = rest (k, omega (arith, l), e)

module _ (us : List UnitTree) (r : Renaming) (single : IsMap r) where
  abbrev pub kept : Renaming
  kept = changed us r

  kept_entry : (d : Place) (y : Name) → Contains kept (d, y) → Contains r (d, y) × (y ≢ name_of us d)
  kept_entry d y c =
      let own : Each (λ e. Contains r e) r = each_contained (λ e. Contains r e) r (λ e k. k) in
      let k = each_in (λ e. Contains r e × (is_other us e ≡ true)) kept (d, y) (each_filtered (λ e. Contains r e) (is_other us) r own) c in
      (k.0, other_name us d y k.1)

  kept_changes : (d : Place) (y : Name) → at_place kept d ≡ Some y → Changes us r d y
  kept_changes d y e =
      let k = kept_entry d y (at_contains kept d y e) in
      let z = at_contained r d y k.0 in
      (z.1 ∙ ap (λ (x : Name). Some x) (single d z.0 y (at_contains r d z.0 z.1) k.0), k.1)

  -- a place with the binder's own name has the same word
  own_word : (d : Place) (x : Name) → name_of us d ≡ x → or_value (at_place kept d) x ≡ or_value (at_place r d) x
  own_word d x n = go (at_place kept d) refl (at_place r d) refl where
    dropped : (y : Name) → at_place kept d ≡ None → at_place r d ≡ Some y → (b : Bool) → bytes_eq y (name_of us d) ≡ b → x ≡ y
    dropped y e f true h = sym ((bytes_eq-Decides y (name_of us d)).0 h ∙ n)
    dropped y e f false h =
        let other : y ≢ name_of us d = λ s. (let wrong : false ≡ true = sym h ∙ (bytes_eq-Decides y (name_of us d)).1 s in cc) in
        let wrong : None ≡ Some y = sym e ∙ changes_are_changed us r d y (f, other) in
        absurd cc

    go : (o : Option Name) → at_place kept d ≡ o → (q : Option Name) → at_place r d ≡ q → or_value o x ≡ or_value q x
    go None e None f = refl
    go None e (Some y) f = dropped y e f (bytes_eq y (name_of us d)) refl
    go (Some z) e q f = ap (λ o. or_value o x) (sym (kept_changes d z e).0 ∙ f)

  module _ (sound : IsSound us) (valid : IsValid us r) where
    gives : GivesValueNames us kept
    gives = record {
      word = λ d y e. valid.names d y (kept_changes d y e);
      place = λ d y e. let b = valid.binders d y (at_contains r d y (kept_changes d y e).0) in (b.0, b.1);
      free = λ d y e. (valid.free d y (kept_changes d y e)).word;
      uses = λ d y u e c g. (valid.free d y (kept_changes d y e)).uses u c g;
    }

    same_word : (at : Place) (x : Name) → name_of us at ≡ x → (o : Option Goal) → goal_at (facts us).refs at ≡ o
        → new_word kept o at x ≡ new_word r o at x
    same_word at x n None e = own_word at x n
    same_word at x n (Some (Decl d)) e =
        own_word d x (sym ((links_join_one_name us sound).uses at d (goal_there (facts us).refs at (Decl d) e)) ∙ n)
    same_word at x n (Some Outside) e = refl
    same_word at x n (Some Missing) e = refl
    same_word at x n (Some Hidden) e = refl
    same_word at x n (Some (Blur by m behind)) e = refl

    abbrev W : Renaming → Words
    W m = words_of m (facts us).refs

    alike : Each (λ e. W kept e.0 e.1.name ≡ W r e.0 e.1.name) (places us)
    alike =
        each_map (λ e. at_place (places us) e.0 ≡ Some e.1) (λ e. W kept e.0 e.1.name ≡ W r e.0 e.1.name) (places us)
        (λ e h. same_word e.0 e.1.name (ap site_name h) (goal_at (facts us).refs e.0) refl) (found_all (places us) (apart_of us sound))

    same : steps (respell us kept) ≡ steps (respell us r)
    same = same_steps (W kept) (W r) us (keeps_fixed us kept gives sound) alike

    pub kept_is_valid : IsValid us kept
    kept_is_valid = record {
      binders = λ d y c. valid.binders d y (kept_entry d y c).0;
      free = λ d y c. valid.free d y (kept_changes d y c.0);
      names = λ d y c. valid.names d y (kept_changes d y c.0);
      good = good_by_steps (respell us r) (respell us kept) (sym same) valid.good;
      same = ap facts_of same ∙ valid.same;
    }

pub valid_is_yes : ValidIsYes
valid_is_yes old new us r p q accepts single valid by =
    let sound = read_is_sound old us p accepts.reads in
    let news = map (λ (s : SourceFile). s.bytes) new.entries in
    changing_is_yes old new us (changed us r) p q accepts (kept_is_valid us r single sound valid) (λ d y c. (kept_entry us r single d y c).1)
    (record {
      names = by.names;
      manifest = by.manifest;
      bytes = subst (λ (m : Renaming). AreRespelledBytes (words_of m (facts us).refs) 0 old.entries news)
          (sym (filtered_again (is_other us) r)) by.bytes;
    })
