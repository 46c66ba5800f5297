use Rattle.std.proofs.Common.{nat_lt, ap, ◌∙◌}
use Rattle.std.specs.Str.{bytes_eq}
use Rattle.unit_heads.proofs.Counted.{some_pass}
use Rattle.unit_heads.proofs.counts.Counts.contains.Goals as goal

pub returns : goal.returns
returns c list are = ap (nat_lt 0) (c.get.ensures ∙ are c.args.name.now) ∙ some_pass (λ other. bytes_eq other c.args.name.now) list
