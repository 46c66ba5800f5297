-- The sentence of a token that declares and uses no value of the folder (own).
use Rattle.std.specs.Prelude.{codes}
use Rattle.report.specs.Pieces.{Word}
use Rattle.refusal_words.specs.Parts.{around}
use Rattle.value_at.specs.declared.value.ValueAt.{ValueAt}
use Rattle.value_at.specs.declared.value.ValueAt.TheVariants as value

-- by the word of the token
abbrev pub valueless_text : Word → ValueAt → Word
valueless_text word value.NoValue = codes "no value stands here"
valueless_text word _ = around (codes "`") word (codes "` is no value that this folder declares")
