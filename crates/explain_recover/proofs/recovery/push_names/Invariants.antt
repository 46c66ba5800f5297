use Rattle.std.proofs.Common.{◌≡◌, ◌++◌, take}
use Rattle.std.specs.Prelude.{flat_map}
use Rattle.explain_recover.specs.Recovery.{name_line}
use Rattle.explain_recover.proofs.recovery.push_names.Given as goal

-- the names so far
abbrev pub invariant-loop-file : goal.invariant-loop-file
invariant-loop-file l = l.text.items ≡ l.fn.text.items ++ flat_map name_line (take l.file-index l.files)
