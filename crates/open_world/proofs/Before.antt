-- A valid renaming keeps each goal and each link of a project, step by step.
use Rattle.std.proofs.Common.{◌≡◌, ◌≢◌, ℕ, Bool, true, false, List, [], ◌∷◌, map, Option, Some, None, Contains, inl, inr, refl, sym, ap, subst, ◌∙◌}
use Rattle.std.specs.Prelude.{bytes_eq}
use Rattle.std.proofs.lemmas.Slice.Eq.{bytes_eq-Decides}
use Rattle.rotor_base.specs.declared.place.Facts.{Facts}
use Rattle.rotor_base.specs.declared.place.Place.{Place}
use Rattle.rotor_base.specs.declared.place.Link.{Link}
use Rattle.rotor_base.specs.declared.place.Goal.{Goal}
use Rattle.rotor_base.specs.declared.place.Goal.TheVariants.{Decl, Outside, Missing, Hidden, Blur}
use Rattle.value_sites.specs.Each.{Each}
use Rattle.value_sites.specs.Places.{Site}
use Rattle.value_sites.specs.Sound.{IsSound}
use Rattle.ml_trees.specs.Tree.{UnitTree}
use Rattle.shape_core.specs.Shape.{Name, none, or_value}
use Rattle.shape_core.specs.Links.{link}
use Rattle.shape_core.specs.Respell.{Words, spell_at}
use Rattle.binding_model.specs.Facts.{facts}
use Rattle.binding_model.specs.Laws.{KeepsFixed}
use Rattle.binding_model.specs.Renaming.{Renaming, places, at_place, site_name, name_of, words_of, Changes, HasBehind, IsBlur, IsFree, IsValid}
use Rattle.binding_model.specs.Steps.{refs_of, trace}
use Rattle.binding_model.specs.Walk.{steps}
use Rattle.binding_model.proofs.Leasts.{keeps, place_in}
use Rattle.binding_model.proofs.Named.{NamedSteps}
use Rattle.binding_model.proofs.Naming.{units_named, each_in}
use Rattle.binding_model.proofs.Projects.{steps_stay}
use Rattle.binding_model.proofs.OneName.{NamedGoal, UsesOneName, steps_use}
use Rattle.binding_model.proofs.Standing.{each_unordered}
use Rattle.binding_model.proofs.Staying.{ref_at}
use Rattle.binding_model.proofs.StepByStep.{same_step_by_step}
use Rattle.binding_model.proofs.Telltale.{each_contained, each_two}
use Rattle.open_world.proofs.Told.{Told, tell, source, respelled}
use Rattle.open_world.proofs.Grown.{Stays}
use Rattle.open_world.proofs.Resolved.{word_for, KeepsAll, Nm}
use Rattle.open_world.proofs.Words.{link_of, told_links, same_sources, RefKeeps, from_same, at_binder, binders_agree, uses_agree, item_name}
use Rattle.open_world.proofs.Words.{items_named, behind_name, sources_named}

pub each_back_map : {A B : Type 0} (P : B → Type 0) (f : A → B) (xs : List A) → Each P (map f xs) → Each (λ x. P (f x)) xs
each_back_map P f [] h = tt
each_back_map P f (x ∷ xs) h = (h.0, each_back_map P f xs h.1)

pub each_front_map : {A B : Type 0} (P : B → Type 0) (f : A → B) (xs : List A) → Each (λ x. P (f x)) xs → Each P (map f xs)
each_front_map P f [] h = tt
each_front_map P f (x ∷ xs) h = (h.0, each_front_map P f xs h.1)

pub same_if_not : (x y : Name) → (x ≢ y → ⊥) → x ≡ y
same_if_not x y f = by (bytes_eq x y) refl
  where
    by : (b : Bool) → bytes_eq x y ≡ b → x ≡ y
    by true e = (bytes_eq-Decides x y).0 e
    by false e = absurd (f (λ s. (let wrong : true ≡ false = sym ((bytes_eq-Decides x y).1 s) ∙ e in cc)))

pub spelled_name : (v : Words) (name : Place → Name) (g : Goal) (x : Name) → item_name name v g x ≡ x
    → ((d : Place) → g ≡ Decl d → v d (name d) ≡ name d) → spell_at v g x ≡ x
spelled_name v name (Decl d) x e h = ap (v d) (sym e) ∙ (h d refl ∙ e)
spelled_name v name Outside x e h = refl
spelled_name v name Missing x e h = refl
spelled_name v name Hidden x e h = refl
spelled_name v name (Blur by n o) x e h = refl

module _ (us : List UnitTree) (sound : IsSound us) (r : Renaming) (valid : IsValid us r) (name : Place → Name)
    (named : Each (λ e. name e.0 ≡ e.1.name) (places us)) where
  abbrev v : Words
  v = at_binder r

  abbrev W : Words
  W = words_of r (facts us).refs

  fixed : KeepsFixed W us
  fixed = keeps us r sound valid.free

  is_named : NamedSteps (Nm v name) (steps us)
  is_named = units_named (Nm v name) us none tt named

  name_there : (d : Place) (x : Site) → at_place (places us) d ≡ Some x → name d ≡ name_of us d
  name_there d x e = place_in (λ e. name e.0 ≡ e.1.name) (places us) d x named e ∙ sym (ap site_name e)

  -- ---- what may not change keeps its word

  found_entry : (d : Place) (y : Name) → at_place r d ≡ Some y → name d ≡ name_of us d → ((z : Name) → Changes us r d z → ⊥) → y ≡ name d
  found_entry d y e n f = same_if_not y (name d) (λ q. f y (e, λ s. q (s ∙ sym n)))

  module _ (contained : (d : Place) (y : Name) → at_place r d ≡ Some y → Contains r (d, y)) where
    entry_name : (d : Place) (y : Name) → at_place r d ≡ Some y → name d ≡ name_of us d
    entry_name d y e = let b = valid.binders d y (contained d y e) in name_there d b.0 b.1

    stays_or : (d : Place) (o : Option Name) → at_place r d ≡ o → ((z : Name) → Changes us r d z → ⊥) → or_value o (name d) ≡ name d
    stays_or d None e f = refl
    stays_or d (Some y) e f = found_entry d y e (entry_name d y e) f

    free_word : (d : Place) → (IsFree us d → ⊥) → v d (name d) ≡ name d
    free_word d f = stays_or d (at_place r d) refl (λ z c. f (valid.free d z c))

    -- ---- links

    record LinkKeeps (l : Link) : Type 0 where
      pub outside : (d : Place) → l.item ≡ Decl d → l.source ≡ Outside → v d (name d) ≡ name d
      pub blur : (d : Place) → l.item ≡ Decl d → (by : Place) (n : ℕ) (b : Option Place) → l.source ≡ Blur by n b → v d (name d) ≡ name d
      pub behind : (by : Place) (n : ℕ) (d : Place) → l.source ≡ Blur by n (Some d) → v d (name d) ≡ name d
      pub there : l.source ≡ Missing → ⊥

    matched : Each (λ l. l.source ≢ Missing) (facts us).links
    matched = subst (λ (f : Facts). Each (λ l. l.source ≢ Missing) f.links) valid.same valid.good.matched

    links_keep : Each LinkKeeps (facts us).links
    links_keep =
        each_contained LinkKeeps (facts us).links (λ l c. record {
          outside = λ d i o. free_word d (λ f. f.inside l c (inl (i, o)));
          blur = λ d i by n b e. free_word d (λ f. f.links_seen l c (inr (i, subst IsBlur (sym e) tt)));
          behind = λ by n d e. free_word d (λ f. f.links_seen l c (inl (subst (HasBehind d) (sym e) refl)));
          there = λ e. each_in (λ l. l.source ≢ Missing) (facts us).links l matched c e;
        })

    told_keep : Each (λ t. LinkKeeps (link_of t)) (trace tell (steps us)).told
    told_keep = each_back_map LinkKeeps link_of (trace tell (steps us)).told (subst (Each LinkKeeps) (sym (told_links (steps us))) links_keep)

    record IsKnown (t : Told) : Type 0 where
      pub item : item_name name v t.goal t.name ≡ t.name
      pub behind : behind_name name v (source t) t.name ≡ t.name

    known : Each IsKnown (trace tell (steps us)).told
    known =
        each_two (λ t. item_name name v t.goal t.name ≡ t.name) (λ t. behind_name name v (source t) t.name ≡ t.name) IsKnown
        (trace tell (steps us)).told
        (λ t h k. record { item = h; behind = k }) (items_named name v (steps us) is_named) (sources_named name v (steps us) is_named)

    behind_is : (s : Goal) (x : Name) (by : Place) (n : ℕ) (d : Place) → behind_name name v s x ≡ x → s ≡ Blur by n (Some d) → name d ≡ x
    behind_is s x by n d e i = ap (λ z. behind_name name v z x) (sym i) ∙ e

    stays : (t : Told) → source (respelled v t) ≡ source t → LinkKeeps (link_of t) → IsKnown t → Stays v name t
    stays t s k i = record {
      keeps = record {
        same = s;
        outside = λ e. spelled_name v name t.goal t.name i.item (λ d g. k.outside d g e);
        blur = λ by n b e. spelled_name v name t.goal t.name i.item (λ d g. k.blur d g by n b e);
        behind = λ by n d e. subst (λ y. v d y ≡ y) (behind_is (source t) t.name by n d i.behind e) (k.behind by n d e);
      };
      there = k.there;
    }

    sources_stay : Each (λ t. source (respelled v t) ≡ source t) (trace tell (steps us)).told
    sources_stay =
        same_sources W v (steps us) (binders_agree us sound r name)
        (ap (λ ss. (trace link ss).told) (sym (steps_stay us W fixed)) ∙ ap (λ (f : Facts). f.links) valid.same)

    all_stay : Each (Stays v name) (trace tell (steps us)).told
    all_stay =
        each_two (λ t. source (respelled v t) ≡ source t) (λ t. LinkKeeps (link_of t) × IsKnown t) (Stays v name) (trace tell (steps us)).told
        (λ t s k. stays t s k.0 k.1) sources_stay
        (each_two (λ t. LinkKeeps (link_of t)) IsKnown (λ t. LinkKeeps (link_of t) × IsKnown t) (trace tell (steps us)).told
        (λ t h k. (h, k)) told_keep known)

    -- ---- references

    behind_used : (g : Goal) (at : Place) (by : Place) (n : ℕ) (d : Place) → ((x : Name) × (name at ≡ x) × NamedGoal (Nm v name) g x)
        → g ≡ Blur by n (Some d) → name d ≡ name at
    behind_used g at by n d u e = subst (λ z. NamedGoal (Nm v name) z u.0) e u.2 ∙ sym u.1

    seen_words : Each (λ u. (by : Place) (n : ℕ) (d : Place) → u.goal ≡ Blur by n (Some d) → v d (name d) ≡ name d) (refs_of (steps us))
    seen_words =
        each_unordered ref_at (λ u. (by : Place) (n : ℕ) (d : Place) → u.goal ≡ Blur by n (Some d) → v d (name d) ≡ name d) (refs_of (steps us))
        (each_contained (λ u. (by : Place) (n : ℕ) (d : Place) → u.goal ≡ Blur by n (Some d) → v d (name d) ≡ name d) (facts us).refs
        (λ u c by n d e. free_word d (λ f. f.refs_seen u c (subst (HasBehind d) (sym e) refl))))

    refs_keep : Each (RefKeeps v name (Stays v name) W) (refs_of (steps us))
    refs_keep =
        each_two (λ u. (x : Name) → W u.at x ≡ word_for v name u.goal x)
        (λ u. (by : Place) (n : ℕ) (d : Place) → u.goal ≡ Blur by n (Some d) → v d (name u.at) ≡ name u.at) (RefKeeps v name (Stays v name) W)
        (refs_of (steps us)) (λ u a b. record { word = a; behind = b }) (uses_agree us sound r name)
        (each_two (λ u. (by : Place) (n : ℕ) (d : Place) → u.goal ≡ Blur by n (Some d) → v d (name d) ≡ name d) (UsesOneName (Nm v name))
        (λ u. (by : Place) (n : ℕ) (d : Place) → u.goal ≡ Blur by n (Some d) → v d (name u.at) ≡ name u.at) (refs_of (steps us))
        (λ u h k by n d e. subst (λ y. v d y ≡ y) (behind_used u.goal u.at by n d k e) (h by n d e)) seen_words
        (steps_use (Nm v name) (steps us) is_named))

    -- each use keeps its goal, and each link its source
    pub keeps_all : KeepsAll v name (Stays v name) (steps us)
    keeps_all =
        from_same v name (Stays v name) W (steps us) (binders_agree us sound r name) is_named refs_keep
        (same_step_by_step us W fixed valid.same) all_stay
