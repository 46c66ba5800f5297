-- The sentences of plans, lists and batches that are refused (own).
use Rattle.std.specs.Prelude.{ℕ, List, [], None, Some, codes}
use Rattle.report.specs.Pieces.{Word}
use Rattle.rotor_base.specs.declared.place.Place.{Place}
use Rattle.messages.specs.declared.kinds.Kind.TheVariants as kind
use Rattle.messages.specs.declared.parts.Message.{Message}
use Rattle.messages.specs.Shown.{shown_word_of}
use Rattle.messages.specs.Spot.{spot_of}
use Rattle.refusal_words.specs.Cut.{Cut}
use Rattle.refusal_words.specs.Parts.{around, bare, placed}
use Rattle.refusal_words.specs.Stretches.{byte_spot, place_spot, word_at}

abbrev pub bad_plan : Message
bad_plan =
    bare kind.BadPlan (codes "rotor.gate is open, and rotor.plan is missing or holds no plan; nothing can be finished from it")
    (Some (codes "put the sources right by hand, then empty rotor.gate"))

abbrev pub no_list : Word → Message
no_list list = bare kind.BadList (around (codes "the folder has no list ") (shown_word_of list) []) None

abbrev pub list_line : Word → Word → ℕ → ℕ → Message
list_line list bytes start end =
    placed kind.BadList
    (codes "this line is not `SOURCE FILE` with one space, names a source twice, or a file that is not in the folder")
    (spot_of list bytes start end) [] None

-- of a file that is no batch
abbrev pub bad_batch : Word → Word → Message
bad_batch file rest = bare kind.BadBatch (around [] (shown_word_of file) rest) None

abbrev pub no_batch : Word → Message
no_batch file = bad_batch file (codes " is not in the folder, or is a source or rotor.units")

abbrev pub long_batch : Word → Message
long_batch file = bad_batch file (codes " has more than 1,000 lines")

abbrev pub batch_line : Word → Word → ℕ → ℕ → Message
batch_line file bytes start end =
    placed kind.BadBatch (codes "this line is not `TARGET NAME` with one space") (spot_of file bytes start end) [] None

abbrev pub other_sources : Word → Message
other_sources name = bare kind.Sources (around (codes "the two lists differ at ") name []) None

abbrev pub other_bytes : List Cut → ℕ → ℕ → Message
other_bytes cuts file offset =
    placed kind.Bytes (codes "from here on the new bytes are not those of the old source with other names") (byte_spot cuts file offset) [] None

abbrev pub fixed : List Cut → Place → Message
fixed cuts at =
    placed kind.Fixed
    (around (codes "the name of this `") (word_at cuts at) (codes "` may not change: it is fixed from outside, a pun, or blurred"))
    (place_spot cuts at) [] None
