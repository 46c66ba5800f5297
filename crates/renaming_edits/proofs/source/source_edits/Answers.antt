use Rattle.std.proofs.Common.{◌≡◌, ◌∙◌, All, List, ap, sym, subst, length, map}
use Rattle.rotor_base.specs.declared.token.Token.{Token}
use Rattle.ml_lexer.specs.Lexed.{Lexeme, Lexed, view_tokens}
use Rattle.ml_lexer.specs.Respelled.{respelled}
use Rattle.edits.specs.Replaced.{AreInOrder, replaced}
use Rattle.rename_parts.specs.Hits.{hit_words}
use Rattle.source_edits.specs.declared.ranges.Span.{Span}
use Rattle.source_edits.specs.Edited.{IsEdited}
use Rattle.source_edits.specs.Renamed.{IsWord, edit_of}
use Rattle.renaming_edits.specs.Spans.{word_spans}
use Rattle.renaming_edits.proofs.Words.{spans_in_order, spans_are_words, edits_respell, if_ok_as}
use Rattle.renaming_edits.proofs.source.source_edits.Goals as goal

pub text_edits-requires-clause-spans : goal.text_edits-requires-clause-spans
text_edits-requires-clause-spans c =
    let source = c.args.source.now in
    let set = c.args.set.now in
    let ts = c.in_ok-tokens.tokens.items in
    let spans : c.deref-2.result.now ≡ word_spans set c.args.file 1 (view_tokens ts)
    = c.deref-2.ensures.value ∙ c.in_ok-spans.ensures ∙ ap (λ (l : List Token). word_spans set c.args.file 1 (view_tokens l)) c.deref.ensures.value in
    let P : List Span → Type 0 = λ ss. AreInOrder 0 (length source) (map (edit_of c.args.new.now) ss) in
    subst P (sym spans) (spans_in_order source (view_tokens ts) set c.args.file c.args.new.now c.in_ok-tokens.ensures.cut)

pub text_edits-requires-clause-words : goal.text_edits-requires-clause-words
text_edits-requires-clause-words c =
    let source = c.args.source.now in
    let set = c.args.set.now in
    let ts = c.in_ok-tokens.tokens.items in
    let spans : c.deref-2.result.now ≡ word_spans set c.args.file 1 (view_tokens ts)
    = c.deref-2.ensures.value ∙ c.in_ok-spans.ensures ∙ ap (λ (l : List Token). word_spans set c.args.file 1 (view_tokens l)) c.deref.ensures.value in
    let P : List Span → Type 0 = λ ss. All (IsWord source) ss in
    subst P (sym spans) (spans_are_words source (view_tokens ts) set c.args.file c.in_ok-tokens.ensures.cut)

pub returns : goal.returns
returns c =
    let source = c.args.source.now in
    let set = c.args.set.now in
    let new = c.args.new.now in
    let file = c.args.file in
    let ts = c.in_ok-tokens.tokens.items in
    let spans : c.deref-2.result.now ≡ word_spans set file 1 (view_tokens ts)
    = c.deref-2.ensures.value ∙ c.in_ok-spans.ensures ∙ ap (λ (l : List Token). word_spans set file 1 (view_tokens l)) c.deref.ensures.value in
    if_ok_as c.text_edits.result (λ list. IsEdited c.args.counting source list.items (replaced source (map (edit_of new) c.deref-2.result.now)))
    (λ list. (xs : List Lexeme) → Lexed source xs → IsEdited c.args.counting source list.items (respelled source xs (hit_words set file new 1 xs)))
    (λ list edited. edits_respell c.args.counting source (view_tokens ts) set file new list.items c.in_ok-tokens.ensures.cut
    (subst (λ (ss : List Span). IsEdited c.args.counting source list.items (replaced source (map (edit_of new) ss))) spans edited))
    c.text_edits.ensures.edited
