use Rattle.std.proofs.Common.{◌∙◌}
use Rattle.text_places.proofs.Texts.{is_ok_utf8}
use Rattle.renaming_edits.proofs.source.is_text.Goals as goal

pub returns : goal.returns
returns c = c.is_ok.ensures.value ∙ is_ok_utf8 c.args.bytes.now c.from_utf8.result _ _ (λ x h. h.1) (λ e h. h.0) c.from_utf8.ensures.cases
