-- The tokens of the code as those of the grammar (own).
use Rattle.std.specs.Prelude.{ℕ, ◌+◌, List, drop, map}
use Rattle.rotor_base.specs.declared.token.Class.{Class}
use Rattle.rotor_base.specs.declared.token.Token.{Token}
use Rattle.ml_trees.specs.Tok.{Tok, toks_from}

abbrev pub lexeme : Token → Class × List ℕ
lexeme t = (t.class, t.bytes.now)

-- the tokens from a place on; they are numbered from 1
unfoldable pub from : List Token → ℕ → List Tok
from ts at = toks_from (at + 1) (map lexeme (drop at ts))
