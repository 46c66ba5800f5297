use Rattle.std.proofs.Common.{◌≡◌, ◌<◌, List, length, ap, sym, subst, ◌∙◌, get_or, arith}
use Rattle.std.proofs.lemmas.Grind.{common_steps}
use Rattle.std.specs.Global.{Vec}
use Rattle.rotor_base.specs.declared.source.SourceFile.{SourceFile}
use Rattle.rotor_base.specs.declared.token.Token.{Token}
use Rattle.ml_lexer.specs.Lexed.{Lexed, Lexeme, view_tokens}
use Rattle.rename_project.proofs.Cuts.{within, lexed_at}
use Rattle.rename_files.proofs.Making.{made_more}
use Rattle.rename_files.proofs.judge.new_sources.Goals as goal

abbrev view : Vec Token → List Lexeme
view list = view_tokens list.items

pub bounds-lists-at : goal.bounds-lists-at
bounds-lists-at c =
    let n = c.loop-at.at in
    let w : n < length c.args.files.now.entries =
    subst (λ (l : List SourceFile). n < length l) c.entries-entries.ensures.entries c.loop-at-test.true in
    subst (λ (l : List (Vec Token)). n < length l) (sym c.as_slice-lists.ensures.value)
    (within view c.args.files.now.entries c.args.read.now.tokens.items c.requires.cut n w)

pub new_source-requires-clause-cut : goal.new_source-requires-clause-cut
new_source-requires-clause-cut c =
    let n = c.loop-at.at in
    let files = c.args.files.now.entries in
    let lists = c.args.read.now.tokens.items in
    let s = c.index-entries-at.result in
    let t = c.index-lists-at.result in
    let w : n < length files = subst (λ (l : List SourceFile). n < length l) c.entries-entries.ensures.entries c.loop-at-test.true in
    let here : s ≡ get_or files n s = c.index-entries-at.is ∙ ap (λ (l : List SourceFile). get_or l n s) c.entries-entries.ensures.entries in
    let there : t ≡ get_or lists n t = c.index-lists-at.is ∙ ap (λ (l : List (Vec Token)). get_or l n t) c.as_slice-lists.ensures.value in
    let cut : Lexed (get_or files n s).bytes (view (get_or lists n t)) = lexed_at view files lists c.requires.cut n s t w in
    subst (λ (xs : List Token). Lexed s.bytes (view_tokens xs)) (sym c.as_slice.ensures.value)
    (subst (λ (z : Vec Token). Lexed s.bytes (view z)) (sym there)
    (subst (λ (z : SourceFile). Lexed z.bytes (view (get_or lists n t))) (sym here) cut))

pub loop-at-preserved : goal.loop-at-preserved
loop-at-preserved c = record {
  count = grind (arith, common_steps, c.in_ok-push.ensures.items, c.loop-at.invariant.count);
  made =
      made_more c.args.set.now c.args.new.now c.entries-entries.result.now c.loop-at.at c.index-entries-at.result c.loop-at.sources.items
      c.push.new.self.items c.in_ok-source.source
      c.loop-at-test.true c.index-entries-at.is c.loop-at.invariant.made c.in_ok-source.ensures c.in_ok-push.ensures.items;
}
