use Rattle.std.proofs.Common.{◌≡◌, inl, false, Bor, List, ℕ, Option, MatchOption, refl, subst}
use Rattle.std.specs.List.{list_any}
use Rattle.document_uris.specs.Places.{Splits, is_slash}
use Rattle.document_uris.proofs.Splitting.{split_by}
use Rattle.document_uris.proofs.place.split.Goals as goal

abbrev Cuts : List ℕ → Option (Bor (List ℕ) × Bor (List ℕ)) → Type 0
Cuts path found = MatchOption found (list_any is_slash path ≡ false) (λ x. Splits path x.0.now x.1.now)

pub returns-in-Some : goal.returns-in-Some
returns-in-Some c = subst (Cuts c.args.path.now) c.in-Some.is (split_by c.args.path.now c.rsplit_once.result c.rsplit_once.ensures.cases)

pub returns-in-None : goal.returns-in-None
returns-in-None c = record {
  last = subst (Cuts c.args.path.now) c.in-None.is (split_by c.args.path.now c.rsplit_once.result c.rsplit_once.ensures.cases);
  parts = inl (refl, refl);
}
