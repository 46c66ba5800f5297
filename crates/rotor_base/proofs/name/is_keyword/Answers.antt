-- The table of the code is the list of the definition.
use Rattle.rotor_base.specs.Name.{is_keyword_word}
use Rattle.rotor_base.proofs.name.is_keyword.Goals as goal

pub returns : goal.returns
unfolding is_keyword_word
returns c = c.is_among.ensures
