use Rattle.std.proofs.Common.{subst, sym, ◌∙◌}
use Rattle.std.proofs.lemmas.Option.{same_Some}
use Rattle.ml_trees.specs.View.{view_file}
use Rattle.project_reading.specs.Source.{ReadsAs}
use Rattle.project_reading.proofs.sources.find_tree.Goals as goal

pub returns-in-Some-clause-tree : goal.returns-in-Some-clause-tree
returns-in-Some-clause-tree c = λ sources known there.
    let tree = view_file c.in-Some.tree in
    let read = known c.args.number tree c.in-Some.ensures.taken in
    subst (λ source. ReadsAs c.args.number source tree) (same_Some read.source c.args.source.now (sym read.there ∙ there)) read.reads
