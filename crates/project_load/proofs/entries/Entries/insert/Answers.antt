use Rattle.std.proofs.Common.{◌≡◌, string_bytes}
use Rattle.std.proofs.lemmas.Map.Text.{btree_map_updates_text}
use Rattle.project_load.proofs.Tables.{table_more}
use Rattle.project_load.proofs.entries.Entries.insert.Goals as goal

pub returns : goal.returns
returns c =
    let source : string_bytes c.in_ok-source.source ≡ c.args.source.now = c.in_ok-source.ensures.ok in
    let file : string_bytes c.in_ok-file.file ≡ c.args.file.now = c.in_ok-file.ensures.ok in
    let sets = btree_map_updates_text (string_bytes c.in_ok-source.source) c.args.self.now.files c.insert.new.self _ c.in_ok-insert.ensures.updates in
    table_more c.args.self.now (record { files = c.insert.new.self }) c.args.source.now c.args.file.now c.in_ok-file.file file (rw source at sets)
