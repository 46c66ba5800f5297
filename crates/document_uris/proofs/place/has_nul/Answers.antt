use Rattle.std.proofs.Common.{arith}
use Rattle.std.proofs.lemmas.Str.Pattern.{contains_char}
use Rattle.document_uris.proofs.Splitting.{has_byte}
use Rattle.document_uris.proofs.place.has_nul.Goals as goal

pub returns : goal.returns
returns c =
    has_byte c.args.path.now c.contains.result (contains_char 0 c.args.path.now c.contains.result c.contains.ensures.cases (omega arith))
