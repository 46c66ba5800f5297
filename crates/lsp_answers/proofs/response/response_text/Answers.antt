use Rattle.lsp_answers.proofs.Floats.{text_of}
use Rattle.lsp_answers.proofs.response.response_text.Goals as goal

pub returns : goal.returns
returns c = text_of _ _ _ _ c.requires c.in_ok-value.ensures c.in_ok-to_vec.ensures.text
