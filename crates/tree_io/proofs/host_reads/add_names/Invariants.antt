use Rattle.std.proofs.Common.{◌≤◌, vec_len}
use Rattle.tree_io.proofs.host_reads.add_names.Given as goal

abbrev pub invariant-loop-name : goal.invariant-loop-name
invariant-loop-name l = record { few : vec_len l.names ≤ 1048576; kept : vec_len l.initial.names ≤ vec_len l.names }
