use Rattle.std.proofs.Common.{string_bytes}
use Rattle.std.proofs.lemmas.Map.Text.{btree_map_updates_text}
use Rattle.known.proofs.seen.Seen.set.Goals as goal

pub returns-clause-set : goal.returns-clause-set
returns-clause-set c =
    btree_map_updates_text (string_bytes c.args.name) c.args.self.now.files c.insert.new.self _ c.in_ok-insert.ensures.updates
