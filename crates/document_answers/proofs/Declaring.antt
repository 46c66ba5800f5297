-- What a renaming that an editor asks for is answered, for the declaration that the place has.
use Rattle.std.proofs.Common.{◌≡◌, inl, inr, List, true, false, ap, subst, sym, ◌∙◌}
use Rattle.rotor_base.specs.Files.{FileSet}
use Rattle.rotor_base.specs.declared.place.Place.{Place}
use Rattle.rotor_base.specs.declared.refusal.Refusal.{Refusal}
use Rattle.rotor_base.specs.declared.refusal.Refusal.TheVariants as refusal
use Rattle.report.specs.Pieces.{Word}
use Rattle.value_sites.specs.Sound.{IsSound}
use Rattle.ml_trees.specs.Tree.{UnitTree}
use Rattle.text_places.specs.declared.counting.Counting.{Counting}
use Rattle.value_at.specs.declared.value.ValueAt.{ValueAt}
use Rattle.value_at.specs.declared.value.ValueAt.TheVariants.{Value}
use Rattle.value_at.specs.Value.{IsValueAt}
use Rattle.value_at.proofs.Uses.{values_are_one}
use Rattle.rename_project.specs.Steps.{IsRefusedFor}
use Rattle.explain.specs.Refused.{is_memory}
use Rattle.editor_renaming.specs.Asked.{IsAnswer, IsRenamedTo, no_value, renamed}
use Rattle.editor_renaming.specs.declared.asked.EditorRenaming.{EditorRenaming}

same_place : (d other : Place) → ◌≡◌ {A = ValueAt} (Value d) (Value other) → d ≡ other
same_place d other e = cc

-- the answer is that of the declaration
pub renamed_to : (counting : Counting) (files : FileSet) (us : List UnitTree) (p d : Place) (new : Word) (given : EditorRenaming) → IsSound us
    → IsValueAt us p (Value d) → IsAnswer counting files us p new given → IsRenamedTo counting files d new given
renamed_to counting files us p d new given sound here (renamed other there is) =
    subst (λ q. IsRenamedTo counting files q new given) (same_place other d (values_are_one us p (Value other) (Value d) sound there here)) is
renamed_to counting files us p d new given sound here (no_value found there none e) =
    absurd (none d (values_are_one us p found (Value d) sound there here))

no_memory : (why : Refusal) → why ≡ refusal.Memory → is_memory why ≡ false → ⊥
no_memory why e m = let wrong : true ≡ false = ap is_memory (sym e) ∙ m in cc

-- a refusal that is no want of memory meets the condition
pub is_met : (met : Refusal → Type 0) (why : Refusal) → IsRefusedFor met why → is_memory why ≡ false → met why
is_met met why (inl h) m = h
is_met met why (inr e) m = absurd (no_memory why e m)
