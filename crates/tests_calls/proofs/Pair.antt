-- The two sources of the rows.
use Rattle.std.proofs.Common.{◌≡◌, List, [], ◌∷◌, true, codes, refl, ap, sym, subst, ◌∙◌}
use Rattle.std.specs.List.{list_all}
use Rattle.std.specs.List.Sorted.{IsStrictlySortedBy}
use Rattle.std.specs.Ordering.{nat_cmp}
use Rattle.std.specs.Cmp.Lexicographic.{slice_cmp}
use Rattle.rotor_base.specs.Files.{AreSources, names_of}
use Rattle.rotor_base.specs.Stem.{ends_stem, is_source_name}
use Rattle.rotor_base.specs.declared.source.SourceFile.{SourceFile}

named : list_all is_source_name (codes "a.ml" ∷ codes "b.ml" ∷ []) ≡ true
unfolding ends_stem
named = refl

ordered : IsStrictlySortedBy (slice_cmp nat_cmp) (codes "a.ml" ∷ codes "b.ml" ∷ [])
unfolding IsStrictlySortedBy
ordered = ((refl, tt), (tt, tt))

pub are_sources : (a b : SourceFile) (files : List SourceFile) → a.name ≡ codes "a.ml" → b.name ≡ codes "b.ml" → files ≡ a ∷ b ∷ [] → AreSources files
are_sources a b files e f is =
    let names : names_of files ≡ codes "a.ml" ∷ codes "b.ml" ∷ [] = ap names_of is ∙ ap (λ n. n ∷ b.name ∷ []) e
    ∙ ap (λ n. codes "a.ml" ∷ n ∷ []) f in
    record { named = ap (list_all is_source_name) names ∙ named; ordered = subst (IsStrictlySortedBy (slice_cmp nat_cmp)) (sym names) ordered }
