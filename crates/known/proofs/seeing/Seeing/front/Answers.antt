use Rattle.known.proofs.Fronts.{after_fronts, after_names}
use Rattle.known.proofs.seeing.Seeing.front.Goals as goal

pub invariant_of-self : goal.invariant_of-self
invariant_of-self g c =
    let was = g.T.Tree.content c.args.self.now.tree in
    let now = g.T.Tree.content c.see_file.new.tree in
    record {
      names =
          after_names c.args.limit c.args.name.now was now c.see_file.ensures.content c.see_file.result c.args.self.now.seen c.see_file.new.seen
          c.see_file.ensures.sees c.see_file.ensures.kept c.args.self.now.names;
      fronts =
          after_fronts c.args.limit c.args.name.now was now c.see_file.ensures.content c.see_file.result c.args.self.now.seen c.see_file.new.seen
          c.see_file.ensures.sees c.see_file.ensures.kept c.args.self.now.fronts;
    }
