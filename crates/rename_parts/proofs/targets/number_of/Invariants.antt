use Rattle.std.proofs.Common.{◌≡◌, drop}
use Rattle.std.specs.Str.{bytes_eq}
use Rattle.rename_model.specs.Target.{first_at, number_of}
use Rattle.rename_parts.proofs.Searches.{counted}
use Rattle.rename_parts.proofs.targets.number_of.Given as goal

-- the source is among those that are left
abbrev pub invariant-loop-file : goal.invariant-loop-file
invariant-loop-file l = record {
  count : l.number ≡ l.file-index;
  left : counted l.number (first_at (λ file. bytes_eq file.name l.name) (drop l.file-index l.files)) ≡ number_of l.files l.name;
}
