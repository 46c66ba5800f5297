use Rattle.std.proofs.Common.{◌≡◌, ◌<◌, ℕ, List, map, length, get_or, ap, sym, subst, ◌∙◌, arith}
use Rattle.std.proofs.lemmas.Grind.{common_steps}
use Rattle.std.specs.Global.{Vec}
use Rattle.rotor_base.specs.declared.source.SourceFile.{SourceFile}
use Rattle.rotor_base.specs.declared.token.Token.{Token}
use Rattle.ml_lexer.specs.Lexed.{view_tokens}
use Rattle.rename_project.proofs.Cuts.{within}
use Rattle.rename_respell.specs.Respelled.{IsRespelledBytes}
use Rattle.rename_respell.specs.Tables.{words_in}
use Rattle.rename_respell.proofs.Listed.{bytes_more, cut_of, mapped_push, view}
use Rattle.rename_respell.proofs.calls.respell_all.Goals as goal

pub bounds-lists-at : goal.bounds-lists-at
bounds-lists-at c =
    let n = c.loop-at.at in
    let w : n < length c.args.files.now.entries =
    subst (λ (l : List SourceFile). n < length l) c.entries-entries.ensures.entries c.loop-at-test.true in
    subst (λ (l : List (Vec Token)). n < length l) (sym c.as_slice-lists.ensures.value)
    (within view c.args.files.now.entries c.args.read.now.tokens.items c.requires n w)

pub respell_source-requires-clause-cut : goal.respell_source-requires-clause-cut
respell_source-requires-clause-cut c =
    let n = c.loop-at.at in
    let files = c.args.files.now.entries in
    let lists = c.args.read.now.tokens.items in
    let s = c.index-entries-at.result in
    let t = c.index-lists-at.result in
    let w : n < length files = subst (λ (l : List SourceFile). n < length l) c.entries-entries.ensures.entries c.loop-at-test.true in
    let here : s ≡ get_or files n s = c.index-entries-at.is ∙ ap (λ (l : List SourceFile). get_or l n s) c.entries-entries.ensures.entries in
    let there : t ≡ get_or lists n t = c.index-lists-at.is ∙ ap (λ (l : List (Vec Token)). get_or l n t) c.as_slice-lists.ensures.value in
    cut_of files lists n s t c.as_slice-source.result.now c.as_slice-tokens.result.now c.requires w here there
    (c.as_slice-source.ensures ∙ ap (λ (f : SourceFile). f.bytes) (sym c.index-entries-at.is)) c.as_slice-tokens.ensures.value

pub loop-at-preserved : goal.loop-at-preserved
loop-at-preserved c =
    let n = c.loop-at.at in
    let files = c.args.files.now.entries in
    let lists = c.args.read.now.tokens.items in
    let s = c.index-entries-at.result in
    let t = c.index-lists-at.result in
    let w : n < length files = subst (λ (l : List SourceFile). n < length l) c.entries-entries.ensures.entries c.loop-at-test.true in
    let here : s ≡ get_or files n s = c.index-entries-at.is ∙ ap (λ (l : List SourceFile). get_or l n s) c.entries-entries.ensures.entries in
    let there : t ≡ get_or lists n t = c.index-lists-at.is ∙ ap (λ (l : List (Vec Token)). get_or l n t) c.as_slice-lists.ensures.value in
    let words = words_in c.args.words.now.names c.args.words.now.goals in
    let out = c.in_ok-respell_source.field-0 in
    let one : IsRespelledBytes words n c.as_slice-source.result.now out.items = record {
      lexemes = view_tokens c.as_slice-tokens.result.now;
      cut = cut_of files lists n s t c.as_slice-source.result.now c.as_slice-tokens.result.now c.requires w here there
          (c.as_slice-source.ensures ∙ ap (λ (f : SourceFile). f.bytes) (sym c.index-entries-at.is)) c.as_slice-tokens.ensures.value;
      bytes = c.in_ok-respell_source.ensures;
    } in
    record {
      count = grind (arith, common_steps, c.in_ok-push.ensures.items, c.loop-at.invariant.count);
      made =
          bytes_more words c.entries-entries.result.now n s (map (λ (b : Vec ℕ). b.items) c.loop-at.sources.items)
          (map (λ (b : Vec ℕ). b.items) c.push.new.self.items) out.items
          c.loop-at-test.true c.loop-at.invariant.made
          (subst (λ (b : List ℕ). IsRespelledBytes words n b out.items) c.as_slice-source.ensures one)
          (ap (map (λ (b : Vec ℕ). b.items)) c.in_ok-push.ensures.items ∙ mapped_push c.loop-at.sources.items out);
    }
