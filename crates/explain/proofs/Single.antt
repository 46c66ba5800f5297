-- One source is in order.
use Rattle.std.proofs.Common.{◌≡◌, List, [], ◌∷◌, ◌++◌, true, refl, ap, sym, subst, ◌∙◌}
use Rattle.std.specs.List.Sorted.{IsStrictlySortedBy}
use Rattle.rotor_base.specs.Files.{AreSources}
use Rattle.rotor_base.specs.Stem.{is_source_name}
use Rattle.rotor_base.specs.declared.source.SourceFile.{SourceFile}

one_source : (file : SourceFile) → is_source_name file.name ≡ true → AreSources (file ∷ [])
unfolding IsStrictlySortedBy
one_source file h = record { named = rw h refl; ordered = (tt, tt) }

pub sources_of_one : (before items : List SourceFile) (file : SourceFile) → items ≡ before ++ file ∷ [] → before ≡ []
    → is_source_name file.name ≡ true → AreSources items
sources_of_one before items file is none h =
    subst AreSources (sym (is ∙ ap (λ (xs : List SourceFile). xs ++ file ∷ []) none)) (one_source file h)
