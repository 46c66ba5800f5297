use Rattle.tree_io.proofs.Overwritten.{replaced_by_more}
use Rattle.tree_io.proofs.host_writes.replace_by_more.Goals as goal

pub returns-clause-bytes : goal.returns-clause-bytes
returns-clause-bytes g c = replaced_by_more c.args.bytes.now c.args.end (g.D.Disk.held c.args.file.now) (g.D.Disk.held c.grow.new.file)
    (g.D.Disk.held c.put_part.new.file) (g.D.Disk.held c.sync.new.file) c.requires c.in_ok-grow.ensures.bytes c.in_ok-put_part.ensures.bytes
    c.sync.ensures.bytes
