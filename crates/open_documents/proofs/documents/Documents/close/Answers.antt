use Rattle.std.proofs.Common.{None, refl}
use Rattle.std.proofs.lemmas.Map.Text.{btree_map_updates_text}
use Rattle.open_documents.proofs.Gathered.{gathered_removed}
use Rattle.open_documents.proofs.documents.Documents.close.Goals as goal

pub returns : goal.returns
returns c =
    gathered_removed c.args.self.now.held.entries c.remove.new.self.entries c.args.name.now None
    (btree_map_updates_text c.args.name.now c.args.self.now.held c.remove.new.self _ c.remove.ensures.updates)
    refl
