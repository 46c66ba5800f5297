use Rattle.std.proofs.Common.{[], ◌∷◌, ◌++◌, length, ap, append_assoc}
use Rattle.std.specs.Prelude.{codes}
use Rattle.std.specs.Fmt.{decimal}
use Rattle.lsp_frames.proofs.Writes.{both}
use Rattle.lsp_frames.proofs.writing.write_message.Goals as goal

pub returns : goal.returns
returns g c =
    both c.write_all.result _ _ _ _ _ _ c.in_ok-write.ensures.bytes c.write_all.ensures.bytes
    (ap (λ l. codes "Content-Length: " ++ l) (append_assoc (decimal (length c.args.body.now)) (13 ∷ 10 ∷ 13 ∷ 10 ∷ []) c.args.body.now))
