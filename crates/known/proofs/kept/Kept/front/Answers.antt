use Rattle.std.proofs.Common.{◌≡◌, Some, List, ℕ, length, min, take, option_map, sym, ap, ◌∙◌, arith}
use Rattle.std.specs.FinMap.{get}
use Rattle.std.proofs.lemmas.List.{take_min}
use Rattle.tree_io.specs.Outside.{IsFront}
use Rattle.known.specs.Kept.{kept_files}
use Rattle.known.specs.Seen.{seen_files}
use Rattle.known.proofs.Keeping.{as_kept, was_made, was_seen}
use Rattle.known.proofs.kept.Kept.front.Goals as goal

pub returns-then-has-clause-front : goal.returns-then-has-clause-front
returns-then-has-clause-front c =
    as_kept (get (seen_files c.args.self.now.seen) c.args.name.now) (get (kept_files c.args.self.now) c.args.name.now) c.front.result
    (IsFront c.args.limit) (sym (was_seen c.args.self.now c.args.name.now (sym c.has.ensures ∙ c.if-has.true))) c.front.ensures.front

pub returns-clause-front : goal.returns-clause-front
returns-clause-front c =
    let there : get (kept_files c.args.self.now) c.args.name.now ≡ Some c.in_ok-bytes.bytes.now =
    was_made c.args.self.now c.args.name.now (sym c.has.ensures ∙ c.if-has.false) ∙ c.in_ok-bytes.ensures.found in
    let count : c.min.result ≡ min c.args.limit (length c.in_ok-bytes.bytes.now) = omega (arith, c.min.ensures) in
    let cut : take c.min.result c.in_ok-bytes.bytes.now ≡ take c.args.limit c.in_ok-bytes.bytes.now =
    ap (λ (n : ℕ). take n c.in_ok-bytes.bytes.now) count ∙ take_min c.args.limit c.in_ok-bytes.bytes.now
    in
    ap (option_map (take c.args.limit)) there ∙ ap (λ (bytes : List ℕ). Some bytes) (sym cut)
