use Rattle.std.proofs.Common.{List, ◌++◌, ap, map, refl, subst, ◌∙◌}
use Rattle.rotor_base.specs.declared.source.SourceFile.{SourceFile}
use Rattle.report.specs.Pieces.{Word}
use Rattle.refusal_words.specs.Cut.{AreCuts, view_cut}
use Rattle.refusal_words.specs.declared.cut.CutSource.{CutSource}
use Rattle.explain.specs.Diffs.{AreDiffs}
use Rattle.explain.specs.Says.{AreToolPlaces, declaration_lines, renamed_line}
use Rattle.explain.proofs.renamed.explain_done_renaming.Goals as goal

pub returns : goal.returns
returns c =
    let files = c.args.files.now in
    let done = c.args.done.now in
    let cuts = map view_cut c.in_ok-cuts.cuts.items in
    record {
      cuts = cuts;
      diffs = c.in_ok-diffs.diffs.items;
      count = c.in_ok-count.count;
      known = c.args.opened.now.resolved.facts;
      cut = subst (λ ss. AreCuts ss cuts) c.entries.ensures.entries c.in_ok-cuts.ensures;
      facts = c.requires.facts;
      counts = c.in_ok-count.ensures;
      are_diffs = subst (λ (news : List SourceFile). AreDiffs files.entries news done.changed c.in_ok-diffs.diffs.items) c.entries-3.ensures.entries
          (subst (λ (olds : List SourceFile). AreDiffs olds c.entries-3.result.now done.changed c.in_ok-diffs.diffs.items) c.entries-2.ensures.entries
          (subst (λ ns. AreDiffs c.entries-2.result.now c.entries-3.result.now ns c.in_ok-diffs.diffs.items) c.as_slice-changed.ensures
          c.in_ok-diffs.ensures));
      ending = refl;
      messages = c.new.ensures;
      text = c.in_ok-done_text.ensures
          ∙ ap (λ (cs : List CutSource). renamed_line done ++ declaration_lines (map view_cut cs)
          done ++ c.as_slice.result.now ++ c.deref-2.result.now)
          c.deref.ensures.value
          ∙ ap (λ (count : Word). renamed_line done ++ declaration_lines cuts done ++ count ++ c.deref-2.result.now) c.as_slice.ensures
          ∙ ap (λ (diffs : Word). renamed_line done ++ declaration_lines cuts done ++ c.in_ok-count.count ++ diffs) c.deref-2.ensures.value;
      places = subst (λ (cs : List CutSource). AreToolPlaces c.args.opened.now.resolved.facts (map view_cut cs) done.foot c.args.for_tools
          c.in_ok-tool_places.field-0)
          c.deref-3.ensures.value c.in_ok-tool_places.ensures;
    }
