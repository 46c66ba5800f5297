use Rattle.std.proofs.Common.{List, ◌≤◌, All, length, subst, sym}
use Rattle.rotor_base.specs.Limits.{max_file_bytes}
use Rattle.refusal_words.specs.declared.cut.CutSource.{CutSource}
use Rattle.explain.proofs.Cutting.{few_tokens}
use Rattle.explain_verify.proofs.Judging.{judged_ok, judged_err}
use Rattle.explain_verify.proofs.judged.explain_versions.Goals as goal

pub explain_refused_project-requires : goal.explain_refused_project-requires
explain_refused_project-requires c =
    subst (λ (cs : List CutSource). All (λ cut. length cut.tokens.items ≤ max_file_bytes) cs) (sym c.deref-in-Err.ensures.value)
    (few_tokens c.entries.result.now c.in_ok-olds.olds.items c.in_ok-olds.ensures c.entries.ensures.small)

pub returns-in-Ok : goal.returns-in-Ok
returns-in-Ok c =
    judged_ok c.args.old.now c.args.new.now c.entries.result.now c.entries-2.result.now c.in_ok-olds.olds.items c.in_ok-news.news.items
    c.entries.ensures.entries c.entries-2.ensures.entries c.in_ok-olds.ensures c.in_ok-news.ensures c.deref.result.now c.deref-in-Ok.result.now
    c.in-Ok.verdict c.explain_verdict.result c.deref.ensures.value c.deref-in-Ok.ensures.value c.in-Ok.ensures.verdict c.explain_verdict.ensures

pub returns : goal.returns
returns c =
    judged_err c.args.old.now c.args.new.now c.entries.result.now c.entries-2.result.now c.in_ok-olds.olds.items c.in_ok-news.news.items
    c.entries.ensures.entries c.entries-2.ensures.entries c.in_ok-olds.ensures c.in_ok-news.ensures c.deref-in-Err.result.now c.in-Err.refusal
    c.verify.result c.explain_refused_project.result c.deref-in-Err.ensures.value c.in-Err.is c.verify.ensures.refused
    c.explain_refused_project.ensures.other
    c.explain_refused_project.ensures.explanation
