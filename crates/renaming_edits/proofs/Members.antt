-- The members of the footprint of a binder are binders.
use Rattle.std.proofs.Common.{◌≡◌, inl, inr, List, Bool, true, Some, Contains, refl}
use Rattle.rotor_base.specs.declared.place.Place.{Place}
use Rattle.rotor_base.specs.declared.place.Foot.{Foot}
use Rattle.rotor_base.specs.declared.place.Goal.{Goal}
use Rattle.rotor_base.specs.declared.place.Goal.TheVariants.{Decl}
use Rattle.dependency_kernel.specs.Foot.{Joined, Path, here, along}
use Rattle.value_sites.specs.Each.{Each}
use Rattle.value_sites.specs.Sound.{IsSound}
use Rattle.ml_trees.specs.Tree.{UnitTree}
use Rattle.shape_core.specs.Shape.{Name}
use Rattle.binding_model.specs.Walk.{steps}
use Rattle.binding_model.specs.Facts.{facts}
use Rattle.binding_model.specs.Renaming.{IsBinder}
use Rattle.binding_model.specs.Renaming.{places, at_place}
use Rattle.binding_model.proofs.Naming.{PlaceNamed, units_named, each_in}
use Rattle.binding_model.proofs.OneName.{Joins, steps_join}
use Rattle.binding_model.proofs.Sounds.{each_map, found_all}
use Rattle.binding_model.proofs.Telltale.{apart_of}
use Rattle.rename_model.specs.Foot.{IsTheFoot, IsIn}

module _ (us : List UnitTree) (s : IsSound us) where
  abbrev Q : Bool → Place → Name → Type 0
  Q b d x = b ≡ true → IsBinder us d

  ends_bind : Each (Joins Q) (facts us).links
  ends_bind = steps_join Q (steps us)
      (units_named Q us _ tt (each_map (λ e. at_place (places us) e.0 ≡ Some e.1) (PlaceNamed Q) (places us) (λ e h b. (e.1, h, b))
      (found_all (places us) (apart_of us s))))

  item_binds : (a : Place) (g : Goal) → Contains (facts us).links (record { item = Decl a; source = g }) → IsBinder us a
  item_binds a g c = let j = each_in (Joins Q) (facts us).links (record { item = Decl a; source = g }) ends_bind c in j.1 refl

  source_binds : (g : Goal) (b : Place) → Contains (facts us).links (record { item = g; source = Decl b }) → IsBinder us b
  source_binds g b c = let j = each_in (Joins Q) (facts us).links (record { item = g; source = Decl b }) ends_bind c in j.2 refl

  joined_binds : (a b : Place) → Joined (facts us).links a b → IsBinder us b
  joined_binds a b (inl c) = source_binds (Decl a) b c
  joined_binds a b (inr c) = item_binds b (Decl a) c

  path_binds : (d p : Place) → IsBinder us d → Path (facts us).links d p → IsBinder us p
  path_binds d p h here = h
  path_binds d p h (along a b path j) = joined_binds a b j

  pub members_bind : (d : Place) (foot : Foot) → IsBinder us d → IsTheFoot us d foot → (a : Place) → IsIn foot a → IsBinder us a
  members_bind d foot b is a in_a = path_binds d a b (is.reached a in_a)
