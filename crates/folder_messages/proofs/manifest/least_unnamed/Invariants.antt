-- The least so far and those that are left give the least of all.
use Rattle.std.proofs.Common.{◌≡◌, drop, filter, map, not, string_bytes}
use Rattle.std.specs.List.{fold, list_any}
use Rattle.std.specs.Str.{bytes_eq}
use Rattle.rotor_base.specs.Files.{lesser}
use Rattle.rotor_base.specs.Unit.{unit_of}
use Rattle.folder_messages.specs.Folder.{least_unnamed}
use Rattle.folder_messages.proofs.manifest.least_unnamed.Given as goal

abbrev pub invariant-loop-name : goal.invariant-loop-name
invariant-loop-name l =
    fold lesser l.least
    (filter (λ unit. not (list_any (bytes_eq unit) (map (λ line. line.now) l.lines))) (map unit_of (map string_bytes (drop l.name-index l.names))))
    ≡ least_unnamed (map (λ line. line.now) l.lines) (map string_bytes l.names)
