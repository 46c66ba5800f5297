use Rattle.token_laws.proofs.Renamings as proof
use Rattle.token_laws.proofs.laws.blanks_change_no_renaming.Goals as goal

pub returns : goal.returns
returns c = proof.renamings_are_the_same
