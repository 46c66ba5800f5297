use Rattle.tree_io.proofs.Overwritten.{replaced_by_fewer}
use Rattle.tree_io.proofs.host_writes.replace_by_fewer.Goals as goal

pub returns-clause-bytes : goal.returns-clause-bytes
returns-clause-bytes g c = replaced_by_fewer c.args.bytes.now c.args.len (g.D.Disk.held c.args.file.now) (g.D.Disk.held c.put_part.new.file)
    (g.D.Disk.held c.cut.new.file) (g.D.Disk.held c.sync.new.file) c.requires c.in_ok-put_part.ensures.bytes c.in-Ok.ensures.bytes
    c.sync.ensures.bytes
