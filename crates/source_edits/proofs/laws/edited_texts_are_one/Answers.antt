use Rattle.source_edits.proofs.Single.{edited_texts_are_one}
use Rattle.source_edits.proofs.laws.edited_texts_are_one.Goals as goal

pub returns : goal.returns
returns c = edited_texts_are_one
