use Rattle.std.proofs.Common.{refl}
use Rattle.known.specs.declared.kept.Kept.{Kept}
use Rattle.known.proofs.Fronts.{after_learning_fronts, after_learning_names}
use Rattle.known.proofs.known.Known.learn.Goals as goal

pub invariant_of-self-2 : goal.invariant_of-self-2
invariant_of-self-2 g c =
    let was = g.T.Tree.content c.args.self.now.tree in
    let now = g.T.Tree.content c.see_file.new.tree in
    let a : Kept = c.args.self.now.kept in
    let b : Kept = record { seen = c.see_file.new.seen; made = c.args.self.now.kept.made } in
    record {
      names =
          after_learning_names _ _ was now c.see_file.ensures.content a b refl c.see_file.result c.see_file.ensures.sees c.see_file.ensures.kept
          c.args.self.now.names;
      fronts = λ none.
          after_learning_fronts _ _ was now c.see_file.ensures.content a b refl c.see_file.result c.see_file.ensures.sees c.see_file.ensures.kept
          (c.args.self.now.fronts none);
    }
