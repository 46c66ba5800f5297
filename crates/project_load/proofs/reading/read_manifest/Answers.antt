use Rattle.std.proofs.Common.{sym, ◌∙◌}
use Rattle.project_load.specs.Naming.{seen}
use Rattle.project_load.proofs.Loaded.{manifest_read, no_manifest}
use Rattle.project_load.proofs.reading.read_manifest.Goals as goal

pub returns-then-not-is_there-clause-read : goal.returns-then-not-is_there-clause-read
returns-then-not-is_there-clause-read g c =
    no_manifest (seen c.args.naming.now (g.T.Tree.content c.args.tree.now)) c.args.is_there c.if-not-is_there.true c.requires

pub read_source-requires : goal.read_source-requires
read_source-requires g c = λ held e. sym (c.requires held e) ∙ c.if-not-is_there.false

pub returns-clause-read : goal.returns-clause-read
returns-clause-read g c =
    manifest_read (seen c.args.naming.now (g.T.Tree.content c.args.tree.now)) c.in_ok-read_source.field-0.items c.in_ok-read_source.ensures.bytes
