use Rattle.std.proofs.Common.{Some, string_bytes, refl}
use Rattle.std.proofs.lemmas.Map.Text.{btree_map_updates_text}
use Rattle.open_documents.proofs.Gathered.{gathered_set}
use Rattle.open_documents.proofs.documents.Documents.open.Goals as goal

pub returns-clause-opened : goal.returns-clause-opened
returns-clause-opened c =
    gathered_set c.args.self.now.held.entries c.insert.new.self.entries (string_bytes c.args.name) (Some c.args.document)
    (btree_map_updates_text (string_bytes c.args.name) c.args.self.now.held c.insert.new.self _ c.in_ok-insert.ensures.updates)
    c.args.document refl
