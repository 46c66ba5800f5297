use Rattle.text_places.proofs.Characters.{characters_begin}
use Rattle.text_places.proofs.Rising.{comes_back, each_byte_begins}
use Rattle.text_places.proofs.laws.offsets_are_found_again.Goals as goal

pub returns : goal.returns
returns c = record { back = comes_back; characters = characters_begin; people = each_byte_begins }
