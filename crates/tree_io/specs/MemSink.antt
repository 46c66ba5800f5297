-- What an output in memory holds (own).
use Rattle.std.specs.Prelude.{◌≡◌, ℕ, ◌+◌, ◌-◌, ◌/◌, ◌≤◌, min, List, Bool, false, ◌||◌, length, take, nat_lt, if◌then◌else◌}
use Rattle.tree_io.specs.declared.mem_sink.MemSink.{MemSink}
use Rattle.tree_io.specs.Counts.{next_count, is_listed}

-- the bytes taken so far
abbrev pub sink_bytes : MemSink → List ℕ
sink_bytes sink = sink.bytes.items

-- the most bytes that it takes
abbrev pub sink_room : MemSink → ℕ
sink_room sink = sink.room

-- the numbers of the puts that are to fail
abbrev pub sink_failing : MemSink → List ℕ
sink_failing sink = sink.failing.items

-- the puts so far
abbrev pub sink_puts : MemSink → ℕ
sink_puts sink = sink.puts

-- the faults so far
abbrev pub mem_sink_faults : MemSink → ℕ
mem_sink_faults sink = sink.faults

-- a put of so many bytes is to fail: it is listed, or past the room
abbrev pub put_fails : MemSink → ℕ → Bool
put_fails sink count = is_listed (sink_failing sink) (next_count (sink_puts sink)) || nat_lt (sink_room sink) (length (sink_bytes sink) + count)

-- a put of so many bytes will not fail: the next one is not listed, and the bytes fit
abbrev pub Accepts : MemSink → ℕ → Type 0
Accepts sink count = (is_listed (sink_failing sink) (next_count (sink_puts sink)) ≡ false) × (length (sink_bytes sink) + count ≤ sink_room sink)

-- what a put that failed keeps of its bytes: the first half, rounded down; if there is room for fewer, as many as there
-- is room for
abbrev pub kept_half : MemSink → List ℕ → List ℕ
kept_half sink bytes = take (min (length bytes / 2) (sink_room sink - length (sink_bytes sink))) bytes

-- what a put of so many bytes counts
pub record CountsPut (count : ℕ) (old new : MemSink) : Type 0 where
  pub room : sink_room new ≡ sink_room old
  pub failing : sink_failing new ≡ sink_failing old
  pub puts : sink_puts new ≡ next_count (sink_puts old)
  pub faults : mem_sink_faults new ≡ (if put_fails old count then next_count (mem_sink_faults old) else mem_sink_faults old)
