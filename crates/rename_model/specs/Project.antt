-- The refusals of a project that was read, in their order; and what `check` counts (own).
use Rattle.std.specs.Prelude.{◌≡◌, ℕ, List, Some, length, filter}
use Rattle.rotor_base.specs.declared.refusal.Refusal.{Refusal}
use Rattle.rotor_base.specs.declared.refusal.Refusal.TheVariants as refusal
use Rattle.rotor_base.specs.declared.report.Counts.{Counts}
use Rattle.rotor_base.specs.declared.source.SourceFile.{SourceFile}
use Rattle.ml_trees.specs.Tree.{UnitTree}
use Rattle.binding_model.specs.Facts.{facts, unmatched}
use Rattle.binding_model.specs.Sums.{heavy}
use Rattle.binding_model.specs.Renaming.{places, name_of}
use Rattle.capture_check.specs.Fault.{before, IsLeastRepeat}
use Rattle.rename_model.specs.Ladder.{no_more}

-- Duplicate: a group has a name twice; the least place that repeats one, and the least place of that name there
abbrev pub IsDuplicate : List UnitTree → Refusal → Type 0
IsDuplicate us (refusal.Duplicate first again) = IsLeastRepeat (name_of us) (facts us).groups first again
IsDuplicate us _ = ⊥

-- Heavy: a site is too heavy, or the sums are too large there; the first site to end
abbrev pub IsHeavy : List UnitTree → Refusal → Type 0
IsHeavy us (refusal.Heavy at) = heavy us ≡ Some at
IsHeavy us _ = ⊥

-- Unmatched: a link has the source Missing; the least such item
abbrev pub IsUnmatched : List UnitTree → Refusal → Type 0
IsUnmatched us (refusal.Unmatched item) = unmatched us ≡ Some item
IsUnmatched us _ = ⊥

-- the refusals of a project, in their order
abbrev pub refusals_of_project : List UnitTree → Refusal → Type 0
refusals_of_project us =
    before (IsDuplicate us)
    (before (IsHeavy us)
    (before (IsUnmatched us)
    no_more))

-- the number of binders
abbrev pub binder_count : List UnitTree → ℕ
binder_count us = length (filter (λ e. e.1.binds) (places us))

-- what `check` counts
abbrev pub counts_of : List SourceFile → List UnitTree → Counts
counts_of sources us = record {
  files = length sources;
  units = length us;
  declarations = binder_count us;
  references = length (facts us).refs;
  links = length (facts us).links;
}
