-- What is known of the system's folder and output: the faults that they counted (own).
use Rattle.std.specs.Prelude.{ℕ, Bool}
use Rattle.tree_io.specs.declared.host.HostTree.{HostTree}
use Rattle.tree_io.specs.declared.host.HostSink.{HostSink}

-- the faults that the folder counted
abbrev pub tree_faults : {D : Type 0} → HostTree D → ℕ
tree_faults tree = tree.faults

-- the disk that the folder is on
abbrev pub tree_disk : {D : Type 0} → HostTree D → D
tree_disk tree = tree.disk

-- each write will be a fault
abbrev pub is_blocked : {D : Type 0} → HostTree D → Bool
is_blocked tree = tree.is_blocked

-- the faults that the output counted
abbrev pub sink_faults : {R : Type 0} → HostSink R → ℕ
sink_faults sink = sink.faults
