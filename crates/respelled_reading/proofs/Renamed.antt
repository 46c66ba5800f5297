-- Renamed files are read as the respelled project.
use Rattle.std.proofs.Common.{◌≡◌, ℕ, zero, suc, ◌<◌, ◌⊎◌, ◌||◌, inl, inr, List, [], ◌∷◌, ◌++◌, Bool, true, false, map, Option, Some, None, length}
use Rattle.std.proofs.Common.{get_or, refl, ap, sym, subst, ◌∙◌, arith}
use Rattle.std.specs.Prelude.{Contains, IsTrue}
use Rattle.std.specs.List.{list_any}
use Rattle.rotor_base.specs.Name.{is_value_name}
use Rattle.rotor_base.specs.Place.{same_place}
use Rattle.rotor_base.specs.declared.looks.Watch.{Watch}
use Rattle.rotor_base.specs.declared.place.Place.{Place}
use Rattle.rotor_base.specs.declared.place.Goal.{Goal}
use Rattle.rotor_base.specs.declared.place.Goal.TheVariants.{Decl, Outside, Missing, Hidden, Blur}
use Rattle.rotor_base.specs.declared.place.Ref.{Ref}
use Rattle.value_sites.specs.Places.{Site}
use Rattle.value_sites.specs.Sound.{IsSound, IsSoundUnit, unit_files}
use Rattle.ml_trees.specs.Tree.{FileTree, Body, Face, UnitTree}
use Rattle.shape_core.specs.Shape.{Name, or_else, some_if, or_value}
use Rattle.shape_core.specs.Respell.{Words, over}
use Rattle.value_sites.specs.Each.{Each}
use Rattle.binding_model.specs.Facts.{facts}
use Rattle.binding_model.specs.Renaming.{renaming}
use Rattle.binding_model.specs.Renaming as model
use Rattle.binding_model.specs.Renaming.{Renaming, places, at_place, in_file, goal_at, new_word, IsFixedSite}
use Rattle.binding_model.specs.Steps.{refs_of}
use Rattle.binding_model.specs.Walk.{steps}
use Rattle.binding_model.proofs.LastEntries.{same_is}
use Rattle.binding_model.proofs.Naming.{each_ordered}
use Rattle.binding_model.proofs.Sounds.{each_of_all, each_map, units_apart, distinct_of, found_all}
use Rattle.binding_model.proofs.Standing.{given, member_in}
use Rattle.binding_model.proofs.Staying.{ref_at}
use Rattle.binding_model.proofs.Uses.{place_if}
use Rattle.binding_model.proofs.Using.{uses_places, refs_at_uses}
use Rattle.project_reading.specs.Respelled as files
use Rattle.project_reading.specs.Respelled.{RespellingKeepsTheReading}
use Rattle.project_reading.specs.Reads.{Reads}
use Rattle.project_reading.proofs.Soundness.{read_is_sound}
use Rattle.project_reading.proofs.UnitsKept.{respelling_keeps_the_lexemes}
use Rattle.respelled_reading.specs.Renamed.{renamed_words, GivesValueNames, RenamedFilesAreRead, RenamedFilesAreCut, WatchesGiveValueNames}
use Rattle.respelled_reading.proofs.Changed.{ChangesPlaces, changes_all}

each_at : {A : Type 0} (P : A → Type 0) (xs : List A) (x : A) → Each P xs → Contains xs x → P x
each_at P [] x h c = absurd (omega (arith, c.1))
each_at P (y ∷ xs) x h c = by c.0 c.1 c.2 (λ k. each_at P xs x h.1 k)
  where
    by : (k : ℕ) → k < suc (length xs) → get_or (y ∷ xs) k x ≡ x → (Contains xs x → P x) → P x
    by zero lt e rest = subst P e h.0
    by (suc k) lt e rest = rest (k, omega (arith, lt), e)

-- ---- the place of a reference

abbrev IsPlace : List UnitTree → Place → Type 0
IsPlace us p = (s : Site) × (at_place (places us) p ≡ Some s)

used_if : (P : Place → Type 0) (b : Bool) (p : Place) (ps : List Place) → P p → Each P ps → Each P (place_if b p ++ ps)
used_if P true p ps h k = k
used_if P false p ps h k = (h, k)

used : (P : Place → Type 0) (es : List (Place × Site)) → Each (λ e. P e.0) es → Each P (uses_places es)
used P [] h = tt
used P (e ∷ es) h = used_if P e.1.binds e.0 (uses_places es) h.0 (used P es h.1)

unmapped : (P : Place → Type 0) (rs : List Ref) → Each P (map ref_at rs) → Each (λ r. P r.at) rs
unmapped P [] h = tt
unmapped P (r ∷ rs) h = (h.0, unmapped P rs h.1)

refs_have_places : (us : List UnitTree) → IsSound us → Each (λ r. IsPlace us r.at) (facts us).refs
refs_have_places us sound =
    let found = found_all (places us) (units_apart us (each_of_all IsSoundUnit us sound.0) (distinct_of (unit_files us) sound.1)) in
    let all = each_map (λ e. at_place (places us) e.0 ≡ Some e.1) (λ e. IsPlace us e.0) (places us) (λ e k. (e.1, k)) found in
    each_ordered (λ r. IsPlace us r.at) (λ r. r.at) (refs_of (steps us))
    (unmapped (IsPlace us) (refs_of (steps us)) (subst (Each (IsPlace us)) (refs_at_uses us) (used (IsPlace us) (places us) all)))

-- the goal at a place is that of a reference there
pub goal_there : (rs : List Ref) (p : Place) (g : Goal) → goal_at rs p ≡ Some g → Contains rs (record { at = p; goal = g })
goal_there [] p g h = cc
goal_there (r ∷ rs) p g h = by (same_place r.at p) refl h (goal_there rs p g)
  where
    by : (b : Bool) → same_place r.at p ≡ b → or_else (some_if b r.goal) (goal_at rs p) ≡ Some g
        → (goal_at rs p ≡ Some g → Contains rs (record { at = p; goal = g })) → Contains (r ∷ rs) (record { at = p; goal = g })
    by true e q rest =
        let goal : r.goal ≡ g = cc in
        (0, omega arith, ap (λ x. record { at = x; goal = r.goal }) (same_is r.at p e) ∙ ap (λ x. record { at = p; goal = x }) goal)
    by false e q rest = let k = rest q in (suc k.0, omega (arith, k.1), k.2)

-- ---- what changes

no_operator : (s : Site) → (IsFixedSite (Some s) → ⊥) → s.operator ≡ false
no_operator s h = by s.operator s.pun h
  where
    by : (a b : Bool) → (IsTrue (a || b) → ⊥) → a ≡ false
    by true b k = absurd (k refl)
    by false b k = refl

abbrev Changed : List UnitTree → Place → Name → Name → Type 0
Changed us p x y = (y ≡ x) ⊎ (IsTrue (is_value_name y) × (s : Site) × (at_place (places us) p ≡ Some s) × (s.operator ≡ false))

changed_to : (us : List UnitTree) (p : Place) (x y : Name) → IsTrue (is_value_name y) → IsPlace us p → (IsFixedSite (at_place (places us) p) → ⊥)
    → Changed us p x y
changed_to us p x y word place free = inr (word, place.0, place.1, no_operator place.0 (subst (λ o. IsFixedSite o → ⊥) place.1 free))

module _ (us : List UnitTree) (r : Renaming) (sound : IsSound us) (h : GivesValueNames us r) where
  changed_binder : (p : Place) (x : Name) (o : Option Name) → at_place r p ≡ o → Changed us p x (or_value o x)
  changed_binder p x None e = inl refl
  changed_binder p x (Some y) e = changed_to us p x y (h.word p y e) (h.place p y e) (h.free p y e)

  changed_use : (p d : Place) (x : Name) (o : Option Name) → goal_at (facts us).refs p ≡ Some (Decl d) → at_place r d ≡ o
      → Changed us p x (or_value o x)
  changed_use p d x None g e = inl refl
  changed_use p d x (Some y) g e =
      let ref = goal_there (facts us).refs p (Decl d) g in
      changed_to us p x y (h.word d y e) (each_at (λ u. IsPlace us u.at) (facts us).refs (record { at = p; goal = Decl d })
      (refs_have_places us sound) ref)
      (h.uses d y (record { at = p; goal = Decl d }) e ref refl)

  changed_word : (p : Place) (x : Name) (o : Option Goal) → goal_at (facts us).refs p ≡ o → Changed us p x (new_word r o p x)
  changed_word p x None e = changed_binder p x (at_place r p) refl
  changed_word p x (Some (Decl d)) e = changed_use p d x (at_place r d) e refl
  changed_word p x (Some Outside) e = inl refl
  changed_word p x (Some Missing) e = inl refl
  changed_word p x (Some Hidden) e = inl refl
  changed_word p x (Some (Blur by n b)) e = inl refl

  pub changes_places : ChangesPlaces us (renamed_words us r)
  changes_places p x = changed_word p x (goal_at (facts us).refs p) refl

-- ---- the respelled project

tree_same : (w : Words) (t : FileTree) → files.spell_tree (in_file w) t ≡ model.spell_tree w t
tree_same w (Body f is) = refl
tree_same w (Face f is) = refl

part_same : (w : Words) (o : Option FileTree) → files.spell_part (in_file w) o ≡ over (model.spell_tree w) o
part_same w None = refl
part_same w (Some t) = ap Some (tree_same w t)

units_same : (w : Words) (us : List UnitTree) → map (files.spell_unit (in_file w)) us ≡ model.spell_units w us
units_same w [] = refl
units_same w (u ∷ us) =
    ap (λ o. record { name = u.name; body = o; face = files.spell_part (in_file w) u.face } ∷ map (files.spell_unit (in_file w)) us)
    (part_same w u.body)
    ∙ ap (λ o. record { name = u.name; body = over (model.spell_tree w) u.body; face = o } ∷ map (files.spell_unit (in_file w)) us)
    (part_same w u.face)
    ∙ ap (λ vs. model.spell_unit w u ∷ vs) (units_same w us)

pub renamed_files_are_read : RespellingKeepsTheReading → RenamedFilesAreRead
renamed_files_are_read law us r old new project reads h renamed =
    let w = renamed_words us r in
    subst (Reads new) (units_same w us)
    (law (in_file w) old new us project reads
    (changes_all old us project reads w (changes_places us r (read_is_sound old us project reads) h)) renamed.sources renamed.manifest)

pub renamed_files_are_cut : RenamedFilesAreCut
renamed_files_are_cut us r old new lists project reads h renamed cut =
    let w = renamed_words us r in
    respelling_keeps_the_lexemes (in_file w) old new us lists project reads
    (changes_all old us project reads w (changes_places us r (read_is_sound old us project reads) h)) renamed.sources cut

-- ---- the renaming of a watch

given_to : (w : Watch) (d : Place) (y : Name) → at_place (renaming w) d ≡ Some y → (y ≡ w.new) × Contains w.foot.decls d
given_to w d y e = by (list_any (same_place d) w.foot.decls) refl (sym (given w.new w.foot.decls d) ∙ e)
  where
    by : (b : Bool) → list_any (same_place d) w.foot.decls ≡ b → some_if b w.new ≡ Some y → (y ≡ w.new) × Contains w.foot.decls d
    by true p q = let same : y ≡ w.new = cc in (same, member_in d w.foot.decls p)
    by false p q = cc

pub watches_give_value_names : WatchesGiveValueNames
watches_give_value_names us w h word binders = record {
  word = λ d y e. subst (λ x. IsTrue (is_value_name x)) (sym (given_to w d y e).0) word;
  place = λ d y e. binders d (given_to w d y e).1;
  free = λ d y e. (h.free d (given_to w d y e).1).word;
  uses = λ d y u e c g. (h.free d (given_to w d y e).1).uses u c g;
}
