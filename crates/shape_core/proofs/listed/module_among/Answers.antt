use Rattle.std.proofs.Common.{◌∙◌, [], ◌∷◌, ap, sym}
use Rattle.std.specs.Prelude.{option_copied}
use Rattle.shape_core.specs.Node.{entries_of}
use Rattle.shape_core.specs.Shape.{find_mod, or_else}
use Rattle.shape_core.proofs.Both.{copied_or, mod_taken}
use Rattle.shape_core.proofs.listed.module_among.Goals as goal

pub loop-entry-preserved : goal.loop-entry-preserved
loop-entry-preserved c =
    ap option_copied c.or-last.ensures
    ∙ copied_or c.module_at.result c.loop-entry.last
    ∙ ap (λ o. or_else o (option_copied c.loop-entry.last)) c.module_at.ensures
    ∙ ap (or_else (find_mod (entries_of (c.entry-item.result ∷ [])) c.args.name.now)) c.loop-entry.invariant
    ∙ sym (mod_taken c.args.list.now c.loop-entry.entry-index c.entry-item.result c.args.name.now c.loop-entry-test.true c.entry-item.is)
