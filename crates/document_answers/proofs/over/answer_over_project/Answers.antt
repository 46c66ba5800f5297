use Rattle.std.proofs.Common.{◌≡◌, ◌≤◌, List, All, ap, arith, length, map, subst, sym, ◌∙◌}
use Rattle.rotor_base.specs.declared.source.SourceFile.{SourceFile}
use Rattle.ml_trees.specs.View.{view_project}
use Rattle.ml_trees.specs.declared.module.Project.{Project}
use Rattle.kept_projects.specs.Kept.{IsKept}
use Rattle.refusal_words.specs.Cut.{AreCuts, view_cut}
use Rattle.refusal_words.specs.declared.cut.CutSource.{CutSource}
use Rattle.explain.proofs.Cutting.{few_tokens, same_count}
use Rattle.document_answers.proofs.over.answer_over_project.Goals as goal

pub answer_over_read-requires-clause-kept : goal.answer_over_read-requires-clause-kept
answer_over_read-requires-clause-kept c =
    subst (λ (p : Project). IsKept c.args.files.now (view_project p) c.args.resolved.now) (sym c.in_ok-read.ensures.project) c.requires.kept

pub answer_over_read-requires-clause-tokens : goal.answer_over_read-requires-clause-tokens
answer_over_read-requires-clause-tokens c =
    let files = c.args.files.now in
    let cut : AreCuts files.entries (map view_cut c.in_ok-cuts.cuts.items)
    = subst (λ (s : List SourceFile). AreCuts s (map view_cut c.in_ok-cuts.cuts.items)) c.entries.ensures.entries c.in_ok-cuts.ensures in
    c.in_ok-read.ensures.tokens files (view_project c.args.project)
    (subst (λ (l : List CutSource). AreCuts files.entries (map view_cut l)) (sym c.deref.ensures.value) cut) c.requires.kept.accepts.reads

pub answer_over_read-requires-clause-cut : goal.answer_over_read-requires-clause-cut
answer_over_read-requires-clause-cut c =
    let files = c.args.files.now in
    let cut : AreCuts files.entries (map view_cut c.in_ok-cuts.cuts.items)
    = subst (λ (s : List SourceFile). AreCuts s (map view_cut c.in_ok-cuts.cuts.items)) c.entries.ensures.entries c.in_ok-cuts.ensures in
    subst (λ (l : List CutSource). AreCuts files.entries (map view_cut l)) (sym c.deref-2.ensures.value) cut

pub answer_over_read-requires-clause-small : goal.answer_over_read-requires-clause-small
answer_over_read-requires-clause-small c =
    subst (λ (l : List CutSource). All (λ cut. length cut.tokens.items ≤ 1048576) l) (sym c.deref-2.ensures.value)
    (few_tokens c.entries.result.now c.in_ok-cuts.cuts.items c.in_ok-cuts.ensures c.entries.ensures.small)

pub answer_over_read-requires-clause-within : goal.answer_over_read-requires-clause-within
answer_over_read-requires-clause-within c =
    let same : length c.entries.result.now ≡ length c.deref-2.result.now
    = same_count c.entries.result.now c.in_ok-cuts.cuts.items c.in_ok-cuts.ensures
    ∙ ap (λ (l : List CutSource). length l) (sym c.deref-2.ensures.value) in
    let there : length c.entries.result.now ≡ length c.args.files.now.entries
    = ap (λ (s : List SourceFile). length s) c.entries.ensures.entries in
    omega (arith, same, there, c.requires.within)
