use Rattle.rename_survey.proofs.Surveyed.{listed_are_binders}
use Rattle.rename_survey.proofs.laws.listed_are_binders.Goals as goal

pub returns : goal.returns
returns c = listed_are_binders
