use Rattle.std.proofs.Common.{◌≡◌, ◌≤◌, length, vec_len}
use Rattle.tree_io.proofs.host_reads.read_names.Given as goal

abbrev pub invariant-loop : goal.invariant-loop
invariant-loop g l = record { few : vec_len l.names ≤ 1048576; chunk : length l.chunk ≡ 65536 }
