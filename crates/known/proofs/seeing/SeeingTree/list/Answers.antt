use Rattle.std.proofs.Common.{List, ℕ, IsPermutation, map, string_bytes, sym, subst}
use Rattle.std.specs.FinMap.{keys}
use Rattle.std.proofs.lemmas.List.Sorted.{IsPermutation-refl}
use Rattle.known.specs.Seen.{seen_files}
use Rattle.known.proofs.Keeping.{lists_held}
use Rattle.known.proofs.seeing.SeeingTree.list.Goals as goal

pub returns-clause-names : goal.returns-clause-names
returns-clause-names g c =
    let names = keys (seen_files c.args.self.now.seen) in
    lists_held (g.T.Tree.content c.args.self.now.tree) (seen_files c.args.self.now.seen) (map string_bytes c.in_ok-names.field-0.items)
    c.args.self.now.names (subst (λ (words : List (List ℕ)). IsPermutation names words) (sym c.in_ok-names.ensures) (IsPermutation-refl names))
