use Rattle.std.proofs.Common.{◌≡◌, ◌∙◌, All, true, false, ap, sym, subst}
use Rattle.rotor_base.specs.declared.source.SourceFile.{SourceFile}
use Rattle.std.specs.Str.{is_utf8}
use Rattle.std.proofs.lemmas.List.{take_all}
use Rattle.renaming_edits.specs.Edits.{IsText}
use Rattle.renaming_edits.proofs.Texts.{no_text, text_here, all_more}
use Rattle.renaming_edits.proofs.renaming.find_no_text.Goals as goal

pub returns-then-not-is_text-clause-found : goal.returns-then-not-is_text-clause-found
returns-then-not-is_text-clause-found c =
    let none : is_utf8 c.as_slice.result.now ≡ false = sym c.is_text.ensures ∙ c.if-not-is_text.true in
    no_text c.args.sources.now c.args.numbers.now c.loop-number.number-index 0 c.index-sources-number.result c.as_slice.result.now
    c.loop-number-test.true (c.requires c.loop-number.number-index 0 c.loop-number-test.true) c.index-sources-number.is
    (c.as_slice.ensures ∙ sym (ap (λ (s : SourceFile). s.bytes) c.index-sources-number.is)) none

pub loop-number-preserved : goal.loop-number-preserved
loop-number-preserved c =
    let text : is_utf8 c.as_slice.result.now ≡ true = sym c.is_text.ensures ∙ c.if-not-is_text.false in
    all_more (IsText c.args.sources.now) c.args.numbers.now c.loop-number.number-index 0 c.loop-number-test.true c.loop-number.invariant
    (text_here c.args.sources.now _ c.index-sources-number.result c.as_slice.result.now c.index-sources-number.is
    (c.as_slice.ensures ∙ sym (ap (λ (s : SourceFile). s.bytes) c.index-sources-number.is)) text)

pub returns-clause-none : goal.returns-clause-none
returns-clause-none c =
    subst (All (IsText c.args.sources.now)) (take_all c.loop-number.number-index c.args.numbers.now c.loop-number-test.false) c.loop-number.invariant
