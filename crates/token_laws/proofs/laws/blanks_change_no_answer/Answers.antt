use Rattle.token_laws.proofs.Answers as answers
use Rattle.token_laws.proofs.Files as files
use Rattle.token_laws.proofs.laws.blanks_change_no_answer.Goals as goal

pub returns-clause-reading : goal.returns-clause-reading
returns-clause-reading c = files.readings_are_the_same

pub returns-clause-check : goal.returns-clause-check
returns-clause-check c = answers.checks_are_the_same

pub returns-clause-footprint : goal.returns-clause-footprint
returns-clause-footprint c = answers.footprints_are_the_same
