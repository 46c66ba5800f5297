-- How `rename` writes (own).
use Rattle.std.specs.Prelude.{Bool, true, false, if◌then◌else◌}
use Rattle.command_replies.specs.declared.writing.Writing.{Writing}
use Rattle.command_replies.specs.declared.writing.Writing.TheVariants.{Show, Write, Safe}

-- how `rename` with these flags writes: `--write`, and `--safe`
abbrev pub writing_of : Bool → Bool → Writing
writing_of write safe = if safe then Safe else (if write then Write else Show)

-- it writes, so the gate has to be closed
abbrev pub is_writing : Writing → Bool
is_writing Show = false
is_writing Write = true
is_writing Safe = true
