use Rattle.std.proofs.Common.{subst}
use Rattle.std.specs.Global.{Vec}
use Rattle.rotor_base.specs.declared.source.SourceFile.{SourceFile}
use Rattle.rotor_base.specs.declared.token.Token.{Token}
use Rattle.ml_lexer.specs.Lexed.{view_tokens}
use Rattle.rename_verify.specs.Candidate.{AreLexemes}
use Rattle.rename_verify.proofs.Cutting.{lexemes_more}
use Rattle.rename_verify.proofs.candidate.lex_all.Goals as goal

pub loop-source-preserved : goal.loop-source-preserved
loop-source-preserved c =
    let out = c.in_ok-lex_source.field-0 in
    lexemes_more (λ (t : Vec Token). view_tokens t.items) c.args.sources.now c.loop-source.source-index c.source-item.result
    c.loop-source.lists.items c.push.new.self.items out c.loop-source-test.true
    c.loop-source.invariant
    (subst (λ (s : SourceFile). AreLexemes s.bytes
    (view_tokens out.items)) c.source-item.is c.in_ok-lex_source.ensures) c.in_ok-push.ensures.items
