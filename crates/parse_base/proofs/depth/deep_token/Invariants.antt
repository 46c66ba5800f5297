use Rattle.std.proofs.Common.{◌≡◌, ℕ, ◌≤◌, reverse}
use Rattle.parse_base.specs.Nesting.{marks, nesting, role_before}
use Rattle.parse_base.proofs.depth.deep_token.Given as goal

abbrev pub invariant-loop-at : goal.invariant-loop-at
invariant-loop-at l = record {
  stack : reverse l.marks.items ≡ marks l.tokens l.at;
  behind : l.before ≡ role_before l.tokens l.at;
  shallow : (k : ℕ) → k ≤ l.at → nesting l.tokens k ≤ 256;
}
