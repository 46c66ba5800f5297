use Rattle.std.proofs.Common.{◌++◌, codes, refl}
use Rattle.std.specs.Fmt.{decimal}
use Rattle.cli_words.proofs.Places.{name_begins, place_read, source_begins}
use Rattle.cli_words.proofs.laws.undos_are_read.Goals as goal

pub returns : goal.returns
returns c = λ file name n s v p h. rw (source_begins file (codes "#" ++ decimal n) s, name_begins name v, place_read file n s p h) refl
