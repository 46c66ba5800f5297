use Rattle.std.proofs.Common.{refl}
use Rattle.known.specs.Kept.{kept_files}
use Rattle.known.proofs.Fronts.{rests_fronts, rests_names}
use Rattle.known.proofs.known.KnownTree.room.Goals as goal

pub invariant_of-self : goal.invariant_of-self
invariant_of-self g c =
    let was = g.T.Tree.content c.args.self.now.tree in
    let now = g.T.Tree.content c.room.new.self in
    record {
      names =
          rests_names was now (kept_files c.args.self.now.kept) (kept_files c.args.self.now.kept) c.room.ensures.content refl c.args.self.now.names;
      fronts = λ none.
          rests_fronts was now c.args.self.now.kept c.args.self.now.kept c.room.ensures.content refl (λ q n has. has) (c.args.self.now.fronts none);
    }

pub invariant_of-self-2 : goal.invariant_of-self-2
invariant_of-self-2 g c =
    let was = g.T.Tree.content c.args.self.now.tree in
    let now = g.T.Tree.content c.room.new.self in
    record {
      names =
          rests_names was now (kept_files c.args.self.now.kept) (kept_files c.room-2.new.self) c.room.ensures.content c.room-2.ensures.files
          c.args.self.now.names;
      fronts = λ none.
          rests_fronts was now c.args.self.now.kept c.room-2.new.self c.room.ensures.content c.room-2.ensures.files c.room-2.ensures.read
          (c.args.self.now.fronts none);
    }
