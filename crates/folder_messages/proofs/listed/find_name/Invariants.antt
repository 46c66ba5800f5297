use Rattle.std.proofs.Common.{◌≡◌, drop, string_bytes}
use Rattle.std.specs.List.{list_any}
use Rattle.std.specs.Str.{bytes_eq}
use Rattle.folder_messages.proofs.listed.find_name.Given as goal

-- what is left decides
abbrev pub invariant-loop-other : goal.invariant-loop-other
invariant-loop-other l =
    list_any (λ other. bytes_eq (string_bytes other) l.name) (drop l.other-index l.listed)
    ≡ list_any (λ other. bytes_eq (string_bytes other) l.name) l.listed
