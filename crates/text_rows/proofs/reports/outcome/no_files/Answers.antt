use Rattle.std.proofs.Common.{◌≡◌, List, [], ◌∷◌, refl}
use Rattle.std.specs.List.Sorted.{IsStrictlySortedBy}
use Rattle.rotor_base.specs.Files.{AreSources}
use Rattle.rotor_base.specs.declared.source.SourceFile.{SourceFile}
use Rattle.text_rows.proofs.reports.outcome.no_files.Goals as goal

no_sources : (files : List SourceFile) → files ≡ [] → AreSources files
unfolding IsStrictlySortedBy
no_sources [] e = record { named = refl; ordered = tt }
no_sources (f ∷ fs) e = let bad : f ∷ fs ≡ [] = e in absurd (cc)

pub make_files-requires : goal.make_files-requires
make_files-requires c = no_sources c.new.result.items c.new.ensures.items
