use Rattle.std.proofs.Common.{subst, sym}
use Rattle.std.specs.Prelude.{IfSome}
use Rattle.ml_trees.specs.View.{view_file}
use Rattle.project_reading.specs.Known.{IsReadAs}
use Rattle.project_reading.proofs.Knowing.{known_set}
use Rattle.project_reading.proofs.known.KnownTrees.take.Goals as goal

pub returns-then-number-len-clause-known : goal.returns-then-number-len-clause-known
returns-then-number-len-clause-known c = λ sources known.
    known_set sources c.args.self.now.trees.items c.args.number c.take.new.self known
    (subst (λ o. IfSome o (λ tree. IsReadAs sources c.args.number (view_file tree))) (sym c.take.ensures.after) tt)
