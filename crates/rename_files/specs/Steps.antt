-- The last refusals of a renaming (own).
use Rattle.std.specs.Prelude.{List}
use Rattle.rotor_base.specs.declared.refusal.Refusal.{Refusal}
use Rattle.rotor_base.specs.declared.looks.Watch.{Watch}
use Rattle.ml_trees.specs.Tree.{UnitTree}
use Rattle.capture_check.specs.Fault.{before}
use Rattle.rename_model.specs.Ladder.{no_more}
use Rattle.rename_model.specs.Renaming.{IsClash, IsCapture, IsMislink, renamed}

-- the last three refusals of a renaming, in their order
abbrev pub LastRungs : List UnitTree → Watch → Refusal → Type 0
LastRungs us w = before (IsClash us (renamed us w)) (before (IsCapture us (renamed us w)) (before (IsMislink us (renamed us w)) no_more))
