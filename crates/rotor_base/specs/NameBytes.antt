-- Where the bytes of a name lie (own).
use Rattle.std.specs.Prelude.{ℕ, List, take, ◌≤◌}
use Rattle.rotor_base.specs.declared.name.Bytes.{Bytes}
use Rattle.rotor_base.specs.declared.name.Bytes.TheVariants.{Inline, Owned}

-- the most bytes that are in the value itself
abbrev pub max_inline_bytes : ℕ
max_inline_bytes = 22

-- the bytes of a name
abbrev pub bytes_of : Bytes → List ℕ
bytes_of (Inline len room) = take len room
bytes_of (Owned bytes) = bytes.value.items

-- no more bytes are in the value itself than its room has
abbrev pub FitsInline : Bytes → Type 0
FitsInline (Inline len room) = len ≤ max_inline_bytes
FitsInline (Owned bytes) = Unit {0}
