use Rattle.respelled_tokens.proofs.FormsKept.{forms_are_kept}
use Rattle.respelled_tokens.proofs.laws.forms_are_kept.Goals as goal

pub returns : goal.returns
returns c = record { forms = forms_are_kept }
