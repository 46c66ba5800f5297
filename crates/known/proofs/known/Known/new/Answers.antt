use Rattle.std.proofs.Common.{refl}
use Rattle.known.specs.Kept.{kept_files}
use Rattle.known.specs.Seen.{seen_files}
use Rattle.known.proofs.Fronts.{rests_names, starts_fronts}
use Rattle.known.proofs.known.Known.new.Goals as goal

pub invariant_of-result : goal.invariant_of-result
invariant_of-result g c =
    let content = g.T.Tree.content c.args.tree in
    record {
      names = rests_names content content (seen_files c.args.seen) (kept_files c.in-Ok.kept) refl c.in-Ok.ensures.files c.requires.names;
      fronts = λ none. starts_fronts content c.in-Ok.kept c.args.seen c.in-Ok.ensures.seen c.in-Ok.ensures.files c.requires.names c.requires.fronts;
    }
