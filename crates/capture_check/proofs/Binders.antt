-- The places of a sound project's groups are binders.
use Rattle.std.proofs.Common.{◌≡◌, Bool, true, refl, List, [], ◌∷◌, ◌++◌, map, Contains, Some}
use Rattle.rotor_base.specs.declared.place.Place.{Place}
use Rattle.rotor_base.specs.declared.place.Goal.{Goal}
use Rattle.rotor_base.specs.declared.place.Goal.TheVariants.{Decl, Outside, Missing, Hidden, Blur}
use Rattle.value_sites.specs.Sound.{IsSound}
use Rattle.ml_trees.specs.Tree.{UnitTree}
use Rattle.shape_core.specs.Shape.{Name, Entries, none, a_val, a_mod, a_mty, a_dark}
use Rattle.value_sites.specs.Each.{Each}
use Rattle.binding_model.specs.Steps.{Steps, quiet, ◌⨾◌, UseAlone, UseUnder, MatchOf, PinOf, TieOf, GroupOf, WeighedSite, OpenedSite, UnitStart}
use Rattle.binding_model.specs.Steps.{groups_of}
use Rattle.binding_model.specs.Walk.{steps}
use Rattle.binding_model.specs.Facts.{facts, decls}
use Rattle.binding_model.specs.Renaming.{places, at_place}
use Rattle.binding_model.specs.Renaming.{IsBinder}
use Rattle.binding_model.proofs.Named.{IsNamed, Named, NamedSteps}
use Rattle.binding_model.proofs.Naming.{PlaceNamed, units_named, each_in}
use Rattle.binding_model.proofs.Sounds.{each_map, found_all}
use Rattle.binding_model.proofs.Telltale.{apart_of}

each_both : {A : Type 0} (P : A → Type 0) (xs ys : List A) → Each P xs → Each P ys → Each P (xs ++ ys)
each_both P [] ys h k = k
each_both P (x ∷ xs) ys h k = (h.0, each_both P xs ys h.1 k)

groups_named : (Q : Bool → Place → Name → Type 0) (ss : Steps) → NamedSteps Q ss → Each (Named Q) (groups_of ss)
groups_named Q quiet h = tt
groups_named Q (a ⨾ b) h = each_both (Named Q) (groups_of a) (groups_of b) (groups_named Q a h.0) (groups_named Q b h.1)
groups_named Q (UseAlone at x sc) h = tt
groups_named Q (UseUnder at x s) h = tt
groups_named Q (MatchOf s t) h = tt
groups_named Q (PinOf s) h = tt
groups_named Q (TieOf p q) h = tt
groups_named Q (GroupOf es) h = (h, tt)
groups_named Q (WeighedSite at s) h = tt
groups_named Q (OpenedSite at s) h = tt
groups_named Q UnitStart h = tt

module _ (us : List UnitTree) (s : IsSound us) where
  abbrev Q : Bool → Place → Name → Type 0
  Q b d x = b ≡ true → IsBinder us d

  one_binds : (x : Name) (g : Goal) (es : Entries) → IsNamed Q g x → Each (IsBinder us) (decls es) → Each (IsBinder us) (decls (a_val x g es))
  one_binds x (Decl d) es h k = (h refl, k)
  one_binds x Outside es h k = absurd h
  one_binds x Missing es h k = absurd h
  one_binds x Hidden es h k = absurd h
  one_binds x (Blur by n b) es h k = absurd h

  all_bind : (es : Entries) → Named Q es → Each (IsBinder us) (decls es)
  all_bind none h = tt
  all_bind (a_val x g es) h = one_binds x g es h.0 (all_bind es h.1)
  all_bind (a_mod X t es) h = all_bind es h.1
  all_bind (a_mty S t es) h = all_bind es h.1
  all_bind (a_dark at es) h = all_bind es h

  mapped_bind : (gs : List Entries) → Each (Named Q) gs → Each (Each (IsBinder us)) (map decls gs)
  mapped_bind [] h = tt
  mapped_bind (es ∷ gs) h = (all_bind es h.0, mapped_bind gs h.1)

  steps_named : NamedSteps Q (steps us)
  steps_named = units_named Q us none tt
      (each_map (λ e. at_place (places us) e.0 ≡ Some e.1) (PlaceNamed Q) (places us) (λ e h b. (e.1, h, b)) (found_all (places us) (apart_of us s)))

  -- the places of groups are binders
  pub group_binds : (g : List Place) (d : Place) → Contains (facts us).groups g → Contains g d → IsBinder us d
  group_binds g d c k =
      let all = mapped_bind (groups_of (steps us)) (groups_named Q (steps us) steps_named) in
      each_in (IsBinder us) g d (each_in (Each (IsBinder us)) (facts us).groups g all c) k
