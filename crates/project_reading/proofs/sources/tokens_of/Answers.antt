use Rattle.std.proofs.Common.{inl, subst}
use Rattle.ml_lexer.specs.Lexed.{LexFault, Bad, LongName}
use Rattle.project_reading.specs.Source.{bad, long_name}
use Rattle.project_reading.proofs.sources.tokens_of.Goals as goal

pub returns-in-Err-Bad-clause-refused : goal.returns-in-Err-Bad-clause-refused
returns-in-Err-Bad-clause-refused c =
    let offset = c.in-Err-Bad.offset in
    let fault = rw c.in-Err-Bad.field-0-is at c.in-Err-Bad.ensures.fault in
    inl (bad offset (subst (λ bytes. LexFault bytes (Bad offset)) c.as_slice.ensures fault))

pub returns-in-Err-LongName-clause-refused : goal.returns-in-Err-LongName-clause-refused
returns-in-Err-LongName-clause-refused c =
    let offset = c.in-Err-LongName.offset in
    let fault = rw c.in-Err-LongName.field-0-is at c.in-Err-LongName.ensures.fault in
    inl (long_name offset (subst (λ bytes. LexFault bytes (LongName offset)) c.as_slice.ensures fault))
