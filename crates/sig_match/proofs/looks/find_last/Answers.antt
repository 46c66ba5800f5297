use Rattle.std.proofs.Common.{◌∙◌}
use Rattle.sig_match.proofs.Behind.{kept_all}
use Rattle.sig_match.proofs.looks.find_last.Goals as goal

pub returns : goal.returns
returns c = c.find_last_from.ensures ∙ kept_all _
