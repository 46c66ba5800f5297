use Rattle.std.proofs.Common.{List, ℕ, IsPermutation, map, string_bytes, refl, subst}
use Rattle.known.specs.Kept.{kept_files}
use Rattle.known.specs.Known.{known_files}
use Rattle.known.proofs.Fronts.{has_seen, rests_fronts, rests_names}
use Rattle.known.proofs.Keeping.{keys_of}
use Rattle.known.proofs.known.KnownTree.list.Goals as goal

pub invariant_of-self : goal.invariant_of-self
invariant_of-self g c =
    let content = g.T.Tree.content c.args.self.now.tree in
    record {
      names =
          rests_names content content (kept_files c.args.self.now.kept) (kept_files c.names.new.self) refl c.names.ensures.files
          c.args.self.now.names;
      fronts = λ none.
          rests_fronts content content c.args.self.now.kept c.names.new.self refl c.names.ensures.files
          (has_seen c.args.self.now.kept c.names.new.self c.names.ensures.seen) (c.args.self.now.fronts none);
    }

pub returns-clause-names : goal.returns-clause-names
returns-clause-names g c =
    subst (λ (words : List (List ℕ)). IsPermutation words (map string_bytes c.in_ok-names.field-0.items))
    (keys_of (g.T.Tree.content c.args.self.now.tree) (known_files c.args.self.now) c.args.self.now.names) c.in_ok-names.ensures.names
