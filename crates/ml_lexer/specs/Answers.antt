-- What the errors of `lex` say (own).
use Rattle.std.specs.Prelude.{ℕ, List}
use Rattle.ml_lexer.specs.declared.error.LexError.{LexError}
use Rattle.ml_lexer.specs.declared.error.LexError.TheVariants as errors
use Rattle.ml_lexer.specs.Lexed.{LexFault, Bad, LongName}

-- the fault is that of the file; want of memory is free
abbrev pub FaultIs : List ℕ → LexError → Type 0
FaultIs bytes (errors.Bad offset) = LexFault bytes (Bad offset)
FaultIs bytes (errors.LongName offset) = LexFault bytes (LongName offset)
FaultIs bytes errors.Memory = Unit {0}
