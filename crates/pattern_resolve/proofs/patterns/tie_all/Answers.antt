use Rattle.std.proofs.Common.{sym, ap, ◌∙◌, arith}
use Rattle.std.proofs.lemmas.List.{drop_all}
use Rattle.ml_trees.specs.View.{view_pat, pats}
use Rattle.shape_core.specs.Shape.{entries_in}
use Rattle.binding_model.specs.Taken.{taken, Going}
use Rattle.binding_model.specs.Variables.{variables}
use Rattle.pattern_resolve.proofs.Lists.{ties_from, ties_so}
use Rattle.pattern_resolve.proofs.patterns.tie_all.Goals as goal

pub returns : goal.returns
returns c =
    sym (ap (taken (Going c.args.found.now)) (ties_so c.args.file (variables (view_pat c.args.first.now)) (pats c.args.rest.now)))
    ∙ sym (ap (λ b. taken (Going c.args.found.now) (ties_from c.args.file b (pats c.args.rest.now)))
    (ap entries_in c.in_ok-before.ensures ∙ c.in_ok-values_of.ensures))
    ∙ sym c.loop-part.invariant
    ∙ ap (λ l. taken (Going c.loop-part.found) (ties_from c.args.file (entries_in c.loop-part.before) (pats l)))
    (drop_all c.loop-part.part-index c.args.rest.now (omega (arith, c.loop-part-test.false)))
