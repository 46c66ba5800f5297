use Rattle.std.proofs.Common.{◌≡◌, map, string_bytes, take}
use Rattle.folder_messages.specs.Folder.{twins}
use Rattle.folder_messages.proofs.doubled.list_twins.Given as goal

-- those of the names so far
abbrev pub invariant-loop-name : goal.invariant-loop-name
invariant-loop-name l = map string_bytes l.found.items ≡ twins (map string_bytes (take l.name-index l.names)) l.unit l.is_body
