-- What is found of a footprint before the new sources are made (own).
use Rattle.std.specs.Prelude.{◌≡◌, ◌≢◌, ◌⊎◌, List, Option, Some, None, IsTrue, if◌then◌else◌}
use Rattle.rotor_base.specs.declared.place.Place.{Place}
use Rattle.rotor_base.specs.declared.place.Foot.{Foot}
use Rattle.rotor_base.specs.declared.refusal.Refusal.{Refusal}
use Rattle.rotor_base.specs.declared.refusal.Refusal.TheVariants as refusal
use Rattle.rotor_base.specs.declared.source.SourceFile.{SourceFile}
use Rattle.rotor_base.specs.Name.{is_value_name}
use Rattle.ml_trees.specs.Tree.{UnitTree}
use Rattle.shape_core.specs.Shape.{Name}
use Rattle.binding_model.specs.Facts.{facts}
use Rattle.binding_model.specs.Renaming.{name_of}
use Rattle.rename_model.specs.Foot.{IsHit}
use Rattle.rename_model.specs.Renaming.{IsOperatorAt, IsPunAt, IsBlurredAt, refusals_of_binder}
use Rattle.rename_parts.specs.declared.findings.Findings.{Findings}

-- the first refusal that they give
abbrev pub refusal_at : Option Place → Option Place → Option Place → Option Refusal
refusal_at (Some at) pun blurred = Some (refusal.Outside at)
refusal_at None (Some at) blurred = Some (refusal.Pun at)
refusal_at None None (Some at) = Some (refusal.Blurred at)
refusal_at None None None = None

abbrev pub refusal_of : Findings → Option Refusal
refusal_of f =
    if f.operator then Some refusal.Operator
    else (if f.valid then (if f.same then Some refusal.SameName else refusal_at f.outside f.pun f.blurred) else Some refusal.BadName)

-- none of the first six refusals of a renaming holds
pub record IsFree (us : List UnitTree) (d : Place) (foot : Foot) (new : Name) : Type 0 where
  pub words : (p : Place) → IsHit us foot p → IsOperatorAt us p → ⊥
  pub valid : IsTrue (is_value_name new)
  pub other : new ≢ name_of us d
  pub inside : foot.outside ≡ None
  pub plain : (p : Place) → IsHit us foot p → IsPunAt us p → ⊥
  pub clear : (p : Place) → IsBlurredAt (facts us) foot p → ⊥

-- a refusal is the first of a renaming, or there was no memory
abbrev pub IsRefused : List UnitTree → Place → Foot → Name → Refusal → Type 0
IsRefused us d foot new why = ((sources : List SourceFile) → refusals_of_binder sources us d foot new why) ⊎ (why ≡ refusal.Memory)
