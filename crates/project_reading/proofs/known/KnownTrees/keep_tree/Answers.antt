use Rattle.std.proofs.Common.{Some, subst, sym}
use Rattle.std.specs.Prelude.{IfSome}
use Rattle.ml_trees.specs.View.{view_file}
use Rattle.project_reading.specs.Known.{IsReadAs, file_of}
use Rattle.project_reading.proofs.Knowing.{known_set, same_there}
use Rattle.project_reading.proofs.known.KnownTrees.keep_tree.Goals as goal

pub returns-then-is_same_at : goal.returns-then-is_same_at
returns-then-is_same_at c =
    let olds = c.args.olds.now in
    let news = c.args.news.now in
    let tree = c.in-Some.tree in
    let n = c.file_number-number.result in
    let read : IsReadAs olds (file_of (view_file tree)) (view_file tree) =
    subst (λ o. IfSome o (λ t. IsReadAs olds (file_of (view_file t)) (view_file t))) c.in-Some.is c.requires.read in
    known_set news c.args.self.now.trees.items n (Some tree) c.requires.known
    (same_there olds news n (view_file tree) (c.is_same_at.ensures c.if-is_same_at.true)
    (subst (λ k. IsReadAs olds k (view_file tree)) (sym c.file_number-number.ensures) read))
