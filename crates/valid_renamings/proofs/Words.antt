-- Steps that are respelled twice.
use Rattle.std.proofs.Common.{◌≡◌, List, Bool, refl, ap, ◌∙◌}
use Rattle.rotor_base.specs.declared.place.Place.{Place}
use Rattle.rotor_base.specs.declared.place.Goal.{Goal}
use Rattle.rotor_base.specs.declared.place.Goal.TheVariants.{Decl, Outside, Missing, Hidden, Blur}
use Rattle.value_sites.specs.Each.{Each}
use Rattle.ml_trees.specs.Tree.{UnitTree}
use Rattle.shape_core.specs.Respell.{Words, spell_at, spell_shape, spell_entries}
use Rattle.shape_core.specs.Shape.{Name, Shape, Struct, Functor, Unitary, Opaque, Entries, none, a_val, a_mod, a_mty, a_dark}
use Rattle.binding_model.specs.Steps.{Steps, quiet, ◌⨾◌, UseAlone, UseUnder, MatchOf, PinOf, TieOf, GroupOf, WeighedSite, OpenedSite, UnitStart}
use Rattle.binding_model.specs.Steps.{spell_steps}
use Rattle.binding_model.specs.Renaming.{places}
use Rattle.binding_model.specs.Walk.{steps}
use Rattle.binding_model.proofs.Named.{IsNamed, NamedShape, Named, NamedSteps}
use Rattle.binding_model.proofs.Naming.{units_named}

-- words that are those of two spellings, one after the other
module _ (c u w : Words) (same : (at : Place) (x : Name) → c at x ≡ u at (w at x)) where
  at_twice : (g : Goal) (x : Name) → spell_at c g x ≡ spell_at u g (spell_at w g x)
  at_twice (Decl d) x = same d x
  at_twice Outside x = refl
  at_twice Missing x = refl
  at_twice Hidden x = refl
  at_twice (Blur by n o) x = refl

  mutual
    shape_twice : (s : Shape) → spell_shape c s ≡ spell_shape u (spell_shape w s)
    shape_twice (Struct es) = ap (λ z. Struct z) (entries_twice es)
    shape_twice (Functor p r) =
        ap (λ z. Functor z (spell_shape c r)) (shape_twice p) ∙ ap (λ z. Functor (spell_shape u (spell_shape w p)) z) (shape_twice r)
    shape_twice (Unitary r) = ap (λ z. Unitary z) (shape_twice r)
    shape_twice Opaque = refl

    entries_twice : (es : Entries) → spell_entries c es ≡ spell_entries u (spell_entries w es)
    entries_twice none = refl
    entries_twice (a_val x g es) =
        ap (λ z. a_val z g (spell_entries c es)) (at_twice g x) ∙ ap (λ z. a_val (spell_at u g (spell_at w g x)) g z) (entries_twice es)
    entries_twice (a_mod X s es) =
        ap (λ z. a_mod X z (spell_entries c es)) (shape_twice s) ∙ ap (λ z. a_mod X (spell_shape u (spell_shape w s)) z) (entries_twice es)
    entries_twice (a_mty X s es) =
        ap (λ z. a_mty X z (spell_entries c es)) (shape_twice s) ∙ ap (λ z. a_mty X (spell_shape u (spell_shape w s)) z) (entries_twice es)
    entries_twice (a_dark at es) = ap (λ z. a_dark at z) (entries_twice es)

  pub steps_twice : (ss : Steps) → spell_steps c ss ≡ spell_steps u (spell_steps w ss)
  steps_twice quiet = refl
  steps_twice (a ⨾ b) = ap (λ z. z ⨾ spell_steps c b) (steps_twice a) ∙ ap (λ z. spell_steps u (spell_steps w a) ⨾ z) (steps_twice b)
  steps_twice (UseAlone at x sc) =
      ap (λ z. UseAlone at z (spell_entries c sc)) (same at x) ∙ ap (λ z. UseAlone at (u at (w at x)) z) (entries_twice sc)
  steps_twice (UseUnder at x s) =
      ap (λ z. UseUnder at z (spell_shape c s)) (same at x) ∙ ap (λ z. UseUnder at (u at (w at x)) z) (shape_twice s)
  steps_twice (MatchOf s t) =
      ap (λ z. MatchOf z (spell_shape c t)) (shape_twice s) ∙ ap (λ z. MatchOf (spell_shape u (spell_shape w s)) z) (shape_twice t)
  steps_twice (PinOf s) = ap (λ z. PinOf z) (shape_twice s)
  steps_twice (TieOf p q) =
      ap (λ z. TieOf z (spell_entries c q)) (entries_twice p) ∙ ap (λ z. TieOf (spell_entries u (spell_entries w p)) z) (entries_twice q)
  steps_twice (GroupOf es) = ap (λ z. GroupOf z) (entries_twice es)
  steps_twice (WeighedSite at s) = ap (λ z. WeighedSite at z) (shape_twice s)
  steps_twice (OpenedSite at s) = ap (λ z. OpenedSite at z) (shape_twice s)
  steps_twice UnitStart = refl

-- words that stay, at each place that steps name
module _ (w : Words) where
  abbrev pub Own : Bool → Place → Name → Type 0
  Own b d x = w d x ≡ x

  at_own : (g : Goal) (x : Name) → IsNamed Own g x → spell_at w g x ≡ x
  at_own (Decl d) x h = h
  at_own Outside x h = absurd h
  at_own Missing x h = absurd h
  at_own Hidden x h = absurd h
  at_own (Blur by n o) x h = absurd h

  mutual
    shape_own : (s : Shape) → NamedShape Own s → spell_shape w s ≡ s
    shape_own (Struct es) h = ap (λ z. Struct z) (entries_own es h)
    shape_own (Functor p r) h = ap (λ z. Functor z (spell_shape w r)) (shape_own p h.0) ∙ ap (λ z. Functor p z) (shape_own r h.1)
    shape_own (Unitary r) h = ap (λ z. Unitary z) (shape_own r h)
    shape_own Opaque h = refl

    entries_own : (es : Entries) → Named Own es → spell_entries w es ≡ es
    entries_own none h = refl
    entries_own (a_val x g es) h = ap (λ z. a_val z g (spell_entries w es)) (at_own g x h.0) ∙ ap (λ z. a_val x g z) (entries_own es h.1)
    entries_own (a_mod X s es) h = ap (λ z. a_mod X z (spell_entries w es)) (shape_own s h.0) ∙ ap (λ z. a_mod X s z) (entries_own es h.1)
    entries_own (a_mty X s es) h = ap (λ z. a_mty X z (spell_entries w es)) (shape_own s h.0) ∙ ap (λ z. a_mty X s z) (entries_own es h.1)
    entries_own (a_dark at es) h = ap (λ z. a_dark at z) (entries_own es h)

  pub steps_own : (ss : Steps) → NamedSteps Own ss → spell_steps w ss ≡ ss
  steps_own quiet h = refl
  steps_own (a ⨾ b) h = ap (λ z. z ⨾ spell_steps w b) (steps_own a h.0) ∙ ap (λ z. a ⨾ z) (steps_own b h.1)
  steps_own (UseAlone at x sc) h = ap (λ z. UseAlone at z (spell_entries w sc)) h.0 ∙ ap (λ z. UseAlone at x z) (entries_own sc h.1)
  steps_own (UseUnder at x s) h = ap (λ z. UseUnder at z (spell_shape w s)) h.0 ∙ ap (λ z. UseUnder at x z) (shape_own s h.1)
  steps_own (MatchOf s t) h = ap (λ z. MatchOf z (spell_shape w t)) (shape_own s h.0) ∙ ap (λ z. MatchOf s z) (shape_own t h.1)
  steps_own (PinOf s) h = ap (λ z. PinOf z) (shape_own s h)
  steps_own (TieOf p q) h = ap (λ z. TieOf z (spell_entries w q)) (entries_own p h.0) ∙ ap (λ z. TieOf p z) (entries_own q h.1)
  steps_own (GroupOf es) h = ap (λ z. GroupOf z) (entries_own es h)
  steps_own (WeighedSite at s) h = ap (λ z. WeighedSite at z) (shape_own s h)
  steps_own (OpenedSite at s) h = ap (λ z. OpenedSite at z) (shape_own s h)
  steps_own UnitStart h = refl

  -- the steps of a project whose places keep their words
  pub project_own : (us : List UnitTree) → Each (λ e. w e.0 e.1.name ≡ e.1.name) (places us) → spell_steps w (steps us) ≡ steps us
  project_own us h = steps_own (steps us) (units_named Own us none tt h)
