use Rattle.project_load.proofs.Seeing.{listed_file}
use Rattle.project_load.proofs.naming.Naming.file_of.Goals as goal

pub returns-in-Listed : goal.returns-in-Listed
returns-in-Listed c =
    listed_file c.args.self.now c.in-Listed.entries c.args.source c.unwrap_or.result c.file_of.result c.in-Listed.is c.file_of.ensures
    c.unwrap_or.ensures
