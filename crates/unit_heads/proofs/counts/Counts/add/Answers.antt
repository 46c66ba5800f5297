use Rattle.unit_heads.proofs.Counted.{count_more}
use Rattle.unit_heads.proofs.counts.Counts.add.Goals as goal

pub returns-clause-added : goal.returns-clause-added
returns-clause-added c = count_more c.args.self.now (record { numbers = c.put.new.self }) c.args.name.now c.get-more.result c.get-more.ensures
    c.in_ok-put.ensures.put
