use Rattle.std.proofs.Common.{◌≡◌, drop, map, string_bytes}
use Rattle.std.specs.List.{list_any}
use Rattle.std.specs.Str.{bytes_eq}
use Rattle.rotor_base.specs.Unit.{unit_of}
use Rattle.folder_messages.proofs.manifest.makes_unit.Given as goal

-- what is left decides
abbrev pub invariant-loop-name : goal.invariant-loop-name
invariant-loop-name l =
    list_any (λ name. bytes_eq (unit_of name) l.word) (map string_bytes (drop l.name-index l.names))
    ≡ list_any (λ name. bytes_eq (unit_of name) l.word) (map string_bytes l.names)
