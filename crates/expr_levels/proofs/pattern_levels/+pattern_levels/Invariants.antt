use Rattle.std.proofs.Common.{◌≡◌, nat_le, drop}
use Rattle.ml_trees.specs.View.{pats, pat_fields}
use Rattle.expr_levels.specs.Height.{pats_height, pat_fields_height}
use Rattle.expr_levels.proofs.pattern_levels.+pattern_levels.Given as goal

abbrev pub invariant-patterns_fit-loop-pat : goal.invariant-patterns_fit-loop-pat
invariant-patterns_fit-loop-pat l = nat_le (pats_height (pats (drop l.pat-index l.list))) l.levels ≡ nat_le (pats_height (pats l.list)) l.levels

abbrev pub invariant-fields_fit-loop-field : goal.invariant-fields_fit-loop-field
invariant-fields_fit-loop-field l = nat_le (pat_fields_height (pat_fields (drop l.field-index l.list))) l.levels ≡ nat_le
    (pat_fields_height (pat_fields l.list)) l.levels
