-- What the table of the tokens says (own).
use Rattle.std.specs.Prelude.{ℕ, suc, List, [], ◌∷◌, map}
use Rattle.rotor_base.specs.declared.token.Token.{Token}
use Rattle.ml_trees.specs.Tok.{toks_from}
use Rattle.token_reading.specs.declared.table.Entry.{Entry}
use Rattle.token_reading.specs.Gives.{kind_of}
use Rattle.token_reading.specs.Matching.{lacks_in}
use Rattle.token_reading.specs.Tokens.{lexeme}

-- of tokens, numbered from this one: the kind of each, and whether it is a `let` that lacks its `in`
abbrev pub entries_from : ℕ → List Token → List Entry
entries_from at [] = []
entries_from at (t ∷ ts) = record {
  kind = kind_of t.class t.bytes.now;
  lacks_in = lacks_in (toks_from at (map lexeme (t ∷ ts)));
} ∷ entries_from (suc at) ts
