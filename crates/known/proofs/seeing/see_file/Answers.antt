use Rattle.std.proofs.Common.{refl, string_bytes}
use Rattle.known.proofs.Keeping.{sees_file}
use Rattle.known.proofs.seeing.see_file.Goals as goal

pub returns-clause-sees : goal.returns-clause-sees
returns-clause-sees g c =
    sees_file c.args.limit c.args.name.now (string_bytes c.in_ok-text.text) (g.T.Tree.content c.args.tree.now) c.args.seen.now c.set.new.self
    (record { bytes = c.in_ok-bytes.bytes; limit = c.args.limit }) c.in_ok-text.ensures.ok refl c.in_ok-set.ensures.set c.in_ok-bytes.ensures.bytes
