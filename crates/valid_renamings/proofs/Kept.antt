-- What a valid renaming keeps of the places of a project.
use Rattle.std.proofs.Common.{◌≡◌, ◌≢◌, List, Option, Some, None, Contains, refl, ap, sym, subst, ◌∙◌}
use Rattle.std.specs.Prelude.{IsTrue}
use Rattle.rotor_base.specs.declared.place.Place.{Place}
use Rattle.rotor_base.specs.declared.place.Goal.TheVariants.{Missing}
use Rattle.rotor_base.specs.declared.place.Link.{Link}
use Rattle.rotor_base.specs.declared.place.Ref.{Ref}
use Rattle.value_sites.specs.Each.{Each}
use Rattle.value_sites.specs.Places.{Site}
use Rattle.value_sites.specs.Sound.{IsSound}
use Rattle.ml_trees.specs.Tree.{UnitTree}
use Rattle.shape_core.specs.Respell.{Words, over}
use Rattle.shape_core.specs.Shape.{vals}
use Rattle.binding_model.specs.Facts.{facts, facts_of, AreNamedApart, IsGood}
use Rattle.binding_model.specs.Laws.{KeepsFixed}
use Rattle.binding_model.specs.Renaming.{IsBinder}
use Rattle.binding_model.specs.Renaming.{Renaming, places, at_place, words_of, respell, IsFixedSite, IsFree, IsValid}
use Rattle.binding_model.specs.Steps.{Steps, groups_of}
use Rattle.binding_model.specs.Walk.{steps}
use Rattle.binding_model.proofs.Leasts.{keeps}
use Rattle.binding_model.proofs.NamesSpelled.{spelled_at, places-spell, at_place-spell}

-- a project that is resolved by the steps of a good one is good
pub good_by_steps : (us vs : List UnitTree) → steps us ≡ steps vs → IsGood us → IsGood vs
good_by_steps us vs e good = record {
  apart = subst (λ (ss : Steps). Each (λ es. AreNamedApart (vals es)) (groups_of ss)) e good.apart;
  matched = subst (λ (ss : Steps). Each (λ (l : Link). l.source ≢ Missing) (facts_of ss).links) e good.matched;
}

module _ (us : List UnitTree) (r : Renaming) (sound : IsSound us) (valid : IsValid us r) where
  abbrev pub vs : List UnitTree
  vs = respell us r

  abbrev pub w : Words
  w = words_of r (facts us).refs

  pub fixed : KeepsFixed w us
  fixed = keeps us r sound valid.free

  pub at_as : (d : Place) → at_place (places vs) d ≡ over (spelled_at w d) (at_place (places us) d)
  at_as d = ap (λ L. at_place L d) (places-spell w us fixed) ∙ at_place-spell w (places us) d

  fixed_before : (d : Place) (o : Option Site) → IsFixedSite (over (spelled_at w d) o) → IsFixedSite o
  fixed_before d None h = h
  fixed_before d (Some x) h = h

  fixed_after : (d : Place) (o : Option Site) → IsFixedSite o → IsFixedSite (over (spelled_at w d) o)
  fixed_after d None h = h
  fixed_after d (Some x) h = h

  pub was_fixed : (d : Place) → IsFixedSite (at_place (places vs) d) → IsFixedSite (at_place (places us) d)
  was_fixed d h = fixed_before d (at_place (places us) d) (subst IsFixedSite (at_as d) h)

  pub is_fixed : (d : Place) → IsFixedSite (at_place (places us) d) → IsFixedSite (at_place (places vs) d)
  is_fixed d h = subst IsFixedSite (sym (at_as d)) (fixed_after d (at_place (places us) d) h)

  ref_was : (x : Ref) → Contains (facts vs).refs x → Contains (facts us).refs x
  ref_was x c = subst (λ f. Contains f.refs x) valid.same c

  link_was : (l : Link) → Contains (facts vs).links l → Contains (facts us).links l
  link_was l c = subst (λ f. Contains f.links l) valid.same c

  ref_is : (x : Ref) → Contains (facts us).refs x → Contains (facts vs).refs x
  ref_is x c = subst (λ f. Contains f.refs x) (sym valid.same) c

  link_is : (l : Link) → Contains (facts us).links l → Contains (facts vs).links l
  link_is l c = subst (λ f. Contains f.links l) (sym valid.same) c

  -- what may be renamed in the one project may be renamed in the other
  pub free_new : (d : Place) → IsFree us d → IsFree vs d
  free_new d f = record {
    word = λ h. f.word (was_fixed d h);
    uses = λ x c e h. f.uses x (ref_was x c) e (was_fixed x.at h);
    inside = λ l c h. f.inside l (link_was l c) h;
    refs_seen = λ x c h. f.refs_seen x (ref_was x c) h;
    links_seen = λ l c h. f.links_seen l (link_was l c) h;
  }

  pub free_old : (d : Place) → IsFree vs d → IsFree us d
  free_old d f = record {
    word = λ h. f.word (is_fixed d h);
    uses = λ x c e h. f.uses x (ref_is x c) e (is_fixed x.at h);
    inside = λ l c h. f.inside l (link_is l c) h;
    refs_seen = λ x c h. f.refs_seen x (ref_is x c) h;
    links_seen = λ l c h. f.links_seen l (link_is l c) h;
  }

  had_place : (d : Place) (o : Option Site) → at_place (places us) d ≡ o → (x : Site) → over (spelled_at w d) o ≡ Some x
      → (y : Site) × (at_place (places us) d ≡ Some y)
  had_place d None e x f = let wrong : None ≡ Some x = f in absurd cc
  had_place d (Some y) e x f = (y, e)

  -- the places are the same
  pub is_place : (d : Place) → (x : Site) × (at_place (places vs) d ≡ Some x) → (y : Site) × (at_place (places us) d ≡ Some y)
  is_place d k = had_place d (at_place (places us) d) refl k.0 (sym (at_as d) ∙ k.1)

  -- the binders are the same
  pub binder_new : (d : Place) → IsBinder us d → IsBinder vs d
  binder_new d b = (spelled_at w d b.0, at_as d ∙ ap (over (spelled_at w d)) b.1, b.2)

  was_binder : (d : Place) (o : Option Site) → at_place (places us) d ≡ o → (x : Site) → over (spelled_at w d) o ≡ Some x → IsTrue x.binds
      → IsBinder us d
  was_binder d None e x f h = let wrong : None ≡ Some x = f in absurd cc
  was_binder d (Some y) e x f h =
      let same : spelled_at w d y ≡ x = cc in
      (y, e, subst IsTrue (sym (ap (λ (z : Site). z.binds) same)) h)

  pub binder_old : (d : Place) → IsBinder vs d → IsBinder us d
  binder_old d b = was_binder d (at_place (places us) d) refl b.0 (sym (at_as d) ∙ b.1) b.2
