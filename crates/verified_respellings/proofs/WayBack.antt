-- Files that are validly renamed are validly renamed back.
use Rattle.std.proofs.Common.{◌≡◌, ◌⊎◌, inl, inr, suc, List, [], ◌∷◌, Bool, true, false, ◌||◌, Option, Some, None, Contains, length, refl, ap, sym}
use Rattle.std.proofs.Common.{subst}
use Rattle.std.proofs.Common.{◌∙◌, arith}
use Rattle.std.specs.Prelude.{IsTrue}
use Rattle.rotor_base.specs.Files.{FileSet, IsProject}
use Rattle.rotor_base.specs.Name.{is_value_name}
use Rattle.rotor_base.specs.Place.{same_place}
use Rattle.rotor_base.specs.declared.place.Facts.{Facts}
use Rattle.rotor_base.specs.declared.place.Goal.{Goal}
use Rattle.rotor_base.specs.declared.place.Goal.TheVariants.{Decl, Outside, Missing, Hidden, Blur}
use Rattle.rotor_base.specs.declared.place.Place.{Place}
use Rattle.rotor_base.specs.declared.refusal.Refusal.{Refusal}
use Rattle.rotor_base.specs.declared.refusal.Refusal.TheVariants as refusal
use Rattle.value_sites.specs.Places.{Site}
use Rattle.value_sites.specs.Sound.{IsSound}
use Rattle.ml_trees.specs.Tree.{UnitTree}
use Rattle.shape_core.specs.Respell.{Words, over}
use Rattle.shape_core.specs.Shape.{Name, or_else, or_value, some_if}
use Rattle.binding_model.specs.Facts.{facts, unmatched, unmatched_items, least, IsGood}
use Rattle.binding_model.specs.Renaming.{Renaming, places, at_place, site_name, name_of, goal_at, new_word, words_of, respell, IsFixedSite, IsValid}
use Rattle.binding_model.specs.Sums.{heavy}
use Rattle.binding_model.proofs.NamesSpelled.{spelled_at}
use Rattle.binding_model.proofs.Sounds.{same_self}
use Rattle.binding_model.proofs.Staying.{places_stay}
use Rattle.capture_check.specs.Fault.{IsMet, before}
use Rattle.project_reading.specs.Reads.{Reads}
use Rattle.project_reading.proofs.RespellingKept.{respelling_keeps_the_reading}
use Rattle.project_reading.proofs.Soundness.{read_is_sound}
use Rattle.group_laws.proofs.Apartness.{unrefused_is_good}
use Rattle.facts_laws.proofs.Unrepeated.{good_repeats_none}
use Rattle.respelled_reading.specs.Renamed.{AreRenamed, GivesValueNames}
use Rattle.respelled_reading.proofs.Renamed.{changes_places, renamed_files_are_read}
use Rattle.renamed_sources.proofs.ValueNames.{names_are_value_names}
use Rattle.rename_model.specs.Ladder.{no_more}
use Rattle.rename_model.specs.Project.{IsDuplicate, IsHeavy, IsUnmatched}
use Rattle.rename_files.specs.Answer.{Accepts}
use Rattle.rename_laws.proofs.Free.{none_heavy, none_repeats, none_unmatched}
use Rattle.rename_laws.proofs.Ladder.{none_met}
use Rattle.valid_renamings.specs.Laws.{GoesBack, HasValueNames, back}
use Rattle.valid_renamings.proofs.Back.{back_at, back_entry, back_none, site_back, valid_goes_back}
use Rattle.valid_renamings.proofs.Kept.{at_as, fixed, was_fixed}
use Rattle.accepted_renamings.specs.Laws.{AreValidlyRenamed}
use Rattle.rename_verify.proofs.Alone.{none_in, split_in}
use Rattle.verified_respellings.proofs.OwnFiles.{AreAlikeIn}
use Rattle.verified_respellings.proofs.Turned.{sources_back}

-- ---- parts

-- a place that is listed has an entry
has_entry : (r : Renaming) (d : Place) (y : Name) → Contains r (d, y) → (z : Name) × (at_place r d ≡ Some z)
has_entry [] d y c = absurd (none_in (d, y) c)
has_entry (e ∷ r) d y c = by (same_place e.0 d) refl (has_entry r d y) where
  here : (p : Place) (b : Bool) → same_place p p ≡ b → b ≡ true
  here p b s = sym s ∙ same_self p

  by : (b : Bool) → same_place e.0 d ≡ b → (Contains r (d, y) → (z : Name) × (at_place r d ≡ Some z))
      → (z : Name) × (or_else (some_if (same_place e.0 d) e.1) (at_place r d) ≡ Some z)
  by true s rest = (e.1, ap (λ b. or_else (some_if b e.1) (at_place r d)) s)
  by false s rest = elim (split_in e r (d, y) c) [
    | inl i ↦
        let own : same_place e.0 d ≡ true = subst (λ (p : Place × Name). same_place p.0 d ≡ true) (sym i) (same_self d) in
        let wrong : true ≡ false = sym own ∙ s in
        absurd cc
    | inr k ↦ (let z = rest k in (z.0, ap (λ b. or_else (some_if b e.1) (at_place r d)) s ∙ z.1))
  ]

longer : (x : Name) → 0 ∷ x ≡ x → ⊥
longer x e = let size : suc (length x) ≡ length x = ap (λ (l : Name). length l) e in omega (arith, size)

neither : (a b : Bool) → (IsTrue (a || b) → ⊥) → (a ≡ false) × (b ≡ false)
neither true b h = absurd (h refl)
neither false true h = absurd (h refl)
neither false false h = (refl, refl)

module _ (old new : FileSet) (p : IsProject old) (q : IsProject new) (us : List UnitTree) (accepts : Accepts old us) (r : Renaming)
    (valid : IsValid us r) (gives : GivesValueNames us r) (renamed : AreRenamed us r old new) where
  abbrev vs : List UnitTree
  vs = respell us r

  abbrev b : Renaming
  b = back us r

  abbrev v : Words
  v = words_of r (facts us).refs

  abbrev u : Words
  u = words_of b (facts vs).refs

  sound : IsSound us
  sound = read_is_sound old us p accepts.reads

  still : Reads new vs
  still = renamed_files_are_read respelling_keeps_the_reading us r old new p accepts.reads gives renamed

  sound_too : IsSound vs
  sound_too = read_is_sound new vs q still

  good : IsGood us
  good = unrefused_is_good us sound (none_repeats us accepts.none) (none_unmatched us accepts.none)

  -- ---- the old names are value names

  value_name : (d : Place) (z : Name) → at_place r d ≡ Some z → IsTrue (is_value_name (name_of us d))
  value_name d z e =
      let site = gives.place d z e in
      let plain = neither site.0.operator site.0.pun (λ h. gives.free d z e (subst IsFixedSite (sym site.1) h)) in
      let name : name_of us d ≡ site.0.name = ap site_name site.1 in
      subst (λ x. IsTrue (is_value_name x)) (sym name) (names_are_value_names old us d site.0 p accepts.reads site.1 plain.0 plain.1)

  old_names : HasValueNames us r
  old_names d y c = let z = has_entry r d y c in value_name d z.0 z.1

  -- ---- the way back is valid

  way : GoesBack us r
  way = valid_goes_back us r sound sound_too good valid old_names

  back_name : (d : Place) (y : Name) → at_place b d ≡ Some y → (z : Name) × (at_place r d ≡ Some z) × (y ≡ name_of us d)
  back_name d y e =
      let z = back_entry us r d y e in
      let own : Some y ≡ Some (name_of us d) = sym e ∙ back_at us r d z.0 z.1 in
      (z.0, z.1, cc)

  gives_back : GivesValueNames vs b
  gives_back = record {
    word = λ d y e. let k = back_name d y e in subst (λ x. IsTrue (is_value_name x)) (sym k.2) (value_name d k.0 k.1);
    place = λ d y e.
        let k = back_name d y e in
        let site = gives.place d k.0 k.1 in
        (spelled_at v d site.0, at_as us r sound valid d ∙ ap (over (spelled_at v d)) site.1);
    free = λ d y e h. let k = back_name d y e in gives.free d k.0 k.1 (was_fixed us r sound valid d h);
    uses = λ d y x e c g h.
        let k = back_name d y e in
        gives.uses d k.0 x k.1 (subst (λ (f : Facts). Contains f.refs x) valid.same c) g (was_fixed us r sound valid x.at h);
  }

  -- ---- each word comes back

  turned : (q : Place) (x : Name) → u q (v q x) ≡ new_word b (goal_at (facts us).refs q) q (v q x)
  turned q x = ap (λ (f : Facts). new_word b (goal_at f.refs q) q (v q x)) valid.same

  site_turned : (q : Place) (s : Site) → at_place (places us) q ≡ Some s → u q (v q s.name) ≡ s.name
  site_turned q s e =
      turned q s.name ∙ site_back us r sound sound_too good valid old_names (goal_at (facts us).refs q) q s refl e

  -- a word of a place that takes another one is that of a site
  at_site : (q : Place) (x y : Name) → v q (0 ∷ y) ≡ y
      → (s : Site) × (at_place (places us) q ≡ Some s) × (s.operator ≡ false) × (s.name ≡ x → u q (v q x) ≡ x)
  at_site q x y e = elim (changes_places us r sound gives q (0 ∷ y)) [
    | inl same ↦ absurd (longer y (sym same ∙ e))
    | inr k ↦ (k.1, k.2, k.3, λ named. subst (λ t. u q (v q t) ≡ t) named (site_turned q k.1 k.2))
  ]

  value_alike : (q d : Place) (x : Name) (o : Option Name) → at_place r d ≡ o → ((z : Name) → v q z ≡ or_value (at_place r d) z)
      → ((z : Name) → u q z ≡ or_value (at_place b d) z)
      → (u q (v q x) ≡ x) ⊎ ((s : Site) × (at_place (places us) q ≡ Some s) × (s.operator ≡ false) × (s.name ≡ x → u q (v q x) ≡ x))
  value_alike q d x None e first second =
      inl (second (v q x) ∙ ap (λ o. or_value o (v q x)) (back_none us r d e) ∙ first x ∙ ap (λ o. or_value o x) e)
  value_alike q d x (Some y) e first second = inr (at_site q x y (first (0 ∷ y) ∙ ap (λ o. or_value o (0 ∷ y)) e))

  goal_alike : (q : Place) (x : Name) (o : Option Goal) → goal_at (facts us).refs q ≡ o
      → (u q (v q x) ≡ x) ⊎ ((s : Site) × (at_place (places us) q ≡ Some s) × (s.operator ≡ false) × (s.name ≡ x → u q (v q x) ≡ x))
  goal_alike q x o e = by o e where
    first : (o : Option Goal) → goal_at (facts us).refs q ≡ o → (z : Name) → v q z ≡ new_word r o q z
    first o e z = ap (λ k. new_word r k q z) e

    second : (o : Option Goal) → goal_at (facts us).refs q ≡ o → (z : Name) → u q z ≡ new_word b o q z
    second o e z = ap (λ (f : Facts). new_word b (goal_at f.refs q) q z) valid.same ∙ ap (λ k. new_word b k q z) e

    by : (o : Option Goal) → goal_at (facts us).refs q ≡ o
        → (u q (v q x) ≡ x) ⊎ ((s : Site) × (at_place (places us) q ≡ Some s) × (s.operator ≡ false) × (s.name ≡ x → u q (v q x) ≡ x))
    by None e = value_alike q q x (at_place r q) refl (first None e) (second None e)
    by (Some (Decl d)) e = value_alike q d x (at_place r d) refl (first (Some (Decl d)) e) (second (Some (Decl d)) e)
    by (Some Outside) e = inl (second (Some Outside) e (v q x) ∙ first (Some Outside) e x)
    by (Some Missing) e = inl (second (Some Missing) e (v q x) ∙ first (Some Missing) e x)
    by (Some Hidden) e = inl (second (Some Hidden) e (v q x) ∙ first (Some Hidden) e x)
    by (Some (Blur c n k)) e = inl (second (Some (Blur c n k)) e (v q x) ∙ first (Some (Blur c n k)) e x)

  alike : AreAlikeIn us (λ q x. u q (v q x)) (λ q x. x)
  alike q x = goal_alike q x (goal_at (facts us).refs q) refl

  -- ---- the files

  pub turns_back : AreValidlyRenamed new old
  turns_back = record {
    project = vs;
    reads = still;
    names = b;
    valid = way.valid;
    gives = gives_back;
    renamed = record {
      sources = sources_back old us p accepts.reads u v (changes_places us r sound gives) alike new.entries renamed.sources;
      manifest = sym renamed.manifest;
    };
  }

  -- ---- and `check` accepts them

  no_duplicate : IsMet (IsDuplicate vs) → ⊥
  no_duplicate (refusal.Duplicate first again, k) = good_repeats_none vs sound_too valid.good first again k.repeats
  no_duplicate (_, k) = k

  no_heavy : IsMet (IsHeavy vs) → ⊥
  no_heavy (refusal.Heavy at, k) =
      let as_heavy : heavy vs ≡ heavy us = (places_stay us v (fixed us r sound valid)).sites in
      let wrong : None ≡ Some at = sym (as_heavy ∙ none_heavy us accepts.none) ∙ k in
      cc
  no_heavy (_, k) = k

  no_unmatched : IsMet (IsUnmatched vs) → ⊥
  no_unmatched (refusal.Unmatched at, k) =
      let as_matched : unmatched vs ≡ unmatched us = ap (λ (f : Facts). least (unmatched_items f.links)) valid.same in
      let wrong : None ≡ Some at = sym (as_matched ∙ none_unmatched us accepts.none) ∙ k in
      cc
  no_unmatched (_, k) = k

  nothing_more : IsMet {R = Refusal} no_more → ⊥
  nothing_more m = m.1

  pub still_accepted : Accepts new vs
  still_accepted = record {
    reads = still;
    none = none_met (IsDuplicate vs) (before (IsHeavy vs) (before (IsUnmatched vs) no_more)) no_duplicate
        (none_met (IsHeavy vs) (before (IsUnmatched vs) no_more) no_heavy (none_met (IsUnmatched vs) no_more no_unmatched nothing_more));
  }
