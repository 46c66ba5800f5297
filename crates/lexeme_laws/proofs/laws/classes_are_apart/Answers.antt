use Rattle.lexeme_laws.proofs.Classes.{classes_are_apart}
use Rattle.lexeme_laws.proofs.laws.classes_are_apart.Goals as goal

pub returns : goal.returns
returns c = classes_are_apart
