use Rattle.std.proofs.Common.{is_some, sym, ap, ◌∙◌}
use Rattle.std.specs.BTreeMap.{get_by_text}
use Rattle.known.proofs.Files.{seen_get, is_some_bytes}
use Rattle.known.proofs.seen.Seen.has.Goals as goal

pub returns : goal.returns
returns c =
    c.contains_key.ensures ∙ sym (is_some_bytes (get_by_text c.args.self.now.files c.args.name.now))
    ∙ ap is_some (sym (seen_get c.args.self.now c.args.name.now))
