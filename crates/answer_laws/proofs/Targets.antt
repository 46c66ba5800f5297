-- Whether a target names a binder.
use Rattle.std.proofs.Common.{◌≡◌, ◌⊎◌, inl, inr, ℕ, Bool, true, false, List, Option, Some, None, slice_get, refl, sym, ap, subst, ◌∙◌}
use Rattle.rotor_base.specs.declared.place.Place.{Place}
use Rattle.rotor_base.specs.declared.source.SourceFile.{SourceFile}
use Rattle.rotor_base.specs.declared.target.Target.{Target}
use Rattle.rotor_base.specs.declared.target.Target.TheVariants.{At, Spot, Dotted}
use Rattle.rotor_base.specs.Files.{FileSet}
use Rattle.rotor_base.proofs.Rising.{some_is}
use Rattle.ml_lexer.specs.Lexed.{Lexeme, Lexed}
use Rattle.ml_lexer.proofs.OneCutting.{one_lexed}
use Rattle.value_sites.specs.Places.{Site}
use Rattle.ml_trees.specs.Tree.{UnitTree}
use Rattle.shape_core.specs.Shape.{Name, none}
use Rattle.binding_model.specs.Renaming.{IsBinder}
use Rattle.binding_model.specs.Renaming.{at_place, places}
use Rattle.binding_model.specs.Scopes.{after_units}
use Rattle.project_reading.proofs.Cut.{HaveCuts, cut_at}
use Rattle.rename_model.specs.Target.{Aims, IsSpot, Names, TextSpot, dotted, number_of, token_over}
use Rattle.rename_model.proofs.One.{one_name}

-- a place meets a condition, or none does
abbrev pub IsFound : (Place → Type 0) → Type 0
IsFound P = ((d : Place) × P d) ⊎ ((d : Place) → P d → ⊥)

at_file : ℕ → ℕ → Place
at_file file token = record { file = file; token = token }

numbered : (files : FileSet) (us : List UnitTree) (file : Name) (token : ℕ) → IsFound (Names files us (At file token))
numbered files us file token = by (number_of files.entries file) refl where
  by : (found : Option ℕ) → number_of files.entries file ≡ found → IsFound (Names files us (At file token))
  by None e = inr (λ d h. let bad : None ≡ Some d.file = sym e ∙ h.0 in cc)
  by (Some n) e = inl (record { file = n; token = token }, (e, refl))

module _ (files : List SourceFile) (name : Name) (spot : TextSpot) where
  module _ (n : ℕ) (source : SourceFile) (xs : List Lexeme) (number : number_of files name ≡ Some n) (here : slice_get files n ≡ Some source)
      (cut : Lexed source.bytes xs) where
    -- another token at the spot is one of this source
    token_of : (d : Place) → IsSpot files name spot d → token_over spot source.bytes xs ≡ Some d.token
    token_of d h =
        let f : n ≡ d.file = some_is n d.file (sym number ∙ h.number) in
        let s : source ≡ h.source = some_is source h.source (sym here ∙ (ap (slice_get files) f ∙ h.here)) in
        let x : xs ≡ h.lexemes = one_lexed cut (subst (λ (z : SourceFile). Lexed z.bytes h.lexemes) (sym s) h.cut) in
        subst (λ (z : SourceFile). token_over spot z.bytes xs ≡ Some d.token) (sym s)
        (subst (λ (ys : List Lexeme). token_over spot h.source.bytes ys ≡ Some d.token) (sym x) h.token)

    in_source : IsFound (IsSpot files name spot)
    in_source = by (token_over spot source.bytes xs) refl where
      by : (found : Option ℕ) → token_over spot source.bytes xs ≡ found → IsFound (IsSpot files name spot)
      by None e = inr (λ d h. let bad : None ≡ Some d.token = sym e ∙ token_of d h in cc)
      by (Some token) e = inl (
        record { file = n; token = token },
        record { source = source; lexemes = xs; number = number; here = here; cut = cut; token = e },
      )

  spotted : HaveCuts files → IsFound (IsSpot files name spot)
  spotted cuts = by (number_of files name) refl where
    lost : (n : ℕ) → number_of files name ≡ Some n → slice_get files n ≡ None → (d : Place) → IsSpot files name spot d → ⊥
    lost n e here d h =
        let f : n ≡ d.file = some_is n d.file (sym e ∙ h.number) in
        let bad : None ≡ Some h.source = sym here ∙ (ap (slice_get files) f ∙ h.here) in
        cc

    there : (n : ℕ) → number_of files name ≡ Some n → (found : Option SourceFile) → slice_get files n ≡ found → IsFound (IsSpot files name spot)
    there n e None here = inr (lost n e here)
    there n e (Some source) here = let cut = cut_at files n source cuts here in in_source n source cut.0 e here cut.1

    by : (found : Option ℕ) → number_of files name ≡ found → IsFound (IsSpot files name spot)
    by None e = inr (λ d h. let bad : None ≡ Some d.file = sym e ∙ h.number in cc)
    by (Some n) e = there n e (slice_get files n) refl

pathed : (files : FileSet) (us : List UnitTree) (path : List Name) → IsFound (Names files us (Dotted path))
pathed files us path = by (dotted (after_units none us) path) refl where
  by : (found : Option Place) → dotted (after_units none us) path ≡ found → IsFound (Names files us (Dotted path))
  by None e = inr (λ d h. let bad : None ≡ Some d = sym e ∙ h in cc)
  by (Some d) e = inl (d, e)

-- the place that a target names
named : (files : FileSet) (us : List UnitTree) (target : Target) → HaveCuts files.entries → IsFound (Names files us target)
named files us (At file token) cuts = numbered files us file token
named files us (Spot file line column) cuts = spotted files.entries file (line, column) cuts
named files us (Dotted path) cuts = pathed files us path

-- a place is a binder, or it is none
is_binder : (us : List UnitTree) (d : Place) → IsBinder us d ⊎ (IsBinder us d → ⊥)
is_binder us d = by (at_place (places us) d) refl where
  site : (x : Site) (binds : Bool) → x.binds ≡ binds → at_place (places us) d ≡ Some x → IsBinder us d ⊎ (IsBinder us d → ⊥)
  site x true t e = inl (x, e, t)
  site x false t e = inr (λ b. let bad : false ≡ true = sym t ∙ (ap (λ (s : Site). s.binds) (some_is x b.0 (sym e ∙ b.1)) ∙ b.2) in cc)

  by : (found : Option Site) → at_place (places us) d ≡ found → IsBinder us d ⊎ (IsBinder us d → ⊥)
  by None e = inr (λ b. let bad : None ≡ Some b.0 = sym e ∙ b.1 in cc)
  by (Some x) e = site x x.binds refl e

-- the goal of a target
pub target_decided : (files : FileSet) (us : List UnitTree) (target : Target) → HaveCuts files.entries → IsFound (Aims files us target)
target_decided files us target cuts = by (named files us target cuts) where
  goal : (d : Place) → Names files us target d → IsBinder us d ⊎ (IsBinder us d → ⊥) → IsFound (Aims files us target)
  goal d h (inl binder) = inl (d, (h, binder))
  goal d h (inr other) = inr (λ e aims. other (subst (IsBinder us) (one_name files us target e d aims.0 h) aims.1))

  by : IsFound (Names files us target) → IsFound (Aims files us target)
  by (inl found) = goal found.0 found.1 (is_binder us found.0)
  by (inr nothing) = inr (λ d aims. nothing d aims.0)
