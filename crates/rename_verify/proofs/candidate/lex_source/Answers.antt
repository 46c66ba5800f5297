use Rattle.std.proofs.Common.{ap, subst, sym, List, ℕ}
use Rattle.ml_lexer.specs.Answers.{FaultIs}
use Rattle.ml_lexer.specs.Lexed.{Bad, LexFault, LongName, view_tokens}
use Rattle.rename_verify.specs.Candidate.{AreLexemes}
use Rattle.rename_verify.proofs.Cutting.{fault_is_uncut}
use Rattle.rename_verify.proofs.candidate.lex_source.Goals as goal

pub returns-in-Err-Bad : goal.returns-in-Err-Bad
returns-in-Err-Bad c =
    let bytes = c.args.source.now.bytes in
    let told : FaultIs bytes c.in-Err-Bad.field-0 = subst
    (λ (b : List ℕ). FaultIs b c.in-Err-Bad.field-0) c.as_slice.ensures c.in-Err-Bad.ensures.fault in
    let fault : LexFault bytes (Bad c.in-Err-Bad.field-0-0) = subst (FaultIs bytes) c.in-Err-Bad.field-0-is told in
    subst (AreLexemes bytes) (ap view_tokens (sym c.new.ensures.items)) (fault_is_uncut bytes (Bad c.in-Err-Bad.field-0-0) fault)

pub returns-in-Err-LongName : goal.returns-in-Err-LongName
returns-in-Err-LongName c =
    let bytes = c.args.source.now.bytes in
    let told : FaultIs bytes c.in-Err-LongName.field-0 = subst
    (λ (b : List ℕ). FaultIs b c.in-Err-LongName.field-0) c.as_slice.ensures c.in-Err-LongName.ensures.fault in
    let fault : LexFault bytes (LongName c.in-Err-LongName.field-0-0) = subst (FaultIs bytes) c.in-Err-LongName.field-0-is told in
    subst (AreLexemes bytes) (ap view_tokens (sym c.new-in-Err-LongName.ensures.items))
    (fault_is_uncut bytes (LongName c.in-Err-LongName.field-0-0) fault)
