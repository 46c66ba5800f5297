use Rattle.std.proofs.Common.{◌≡◌, ℕ, List, Bor, Option, Some, option_map, take, min, length, sym, ap, ◌∙◌, arith}
use Rattle.std.specs.Option.{option_copied}
use Rattle.std.specs.FinMap.{get}
use Rattle.std.proofs.lemmas.List.{take_min}
use Rattle.known.specs.Seen.{seen_files}
use Rattle.known.specs.declared.held.Held.{Held}
use Rattle.known.proofs.Files.{seen_get, bytes_of}
use Rattle.known.proofs.seen.Seen.front.Goals as goal

pub returns-clause-front : goal.returns-clause-front
returns-clause-front c =
    let there : get (seen_files c.args.self.now) c.args.name.now ≡ Some c.in_ok-held.held.now.bytes.items =
    seen_get c.args.self.now c.args.name.now ∙ ap bytes_of (sym c.get.ensures.value)
    ∙ ap (λ (r : Option (Bor Held)). bytes_of (option_copied r)) c.in_ok-held.was
    in
    let count : c.min.result ≡ min c.args.limit (length c.in_ok-held.held.now.bytes.items) = omega (arith, c.min.ensures, c.len-count.ensures) in
    let cut : take c.min.result c.deref.result.now ≡ take c.args.limit c.in_ok-held.held.now.bytes.items =
    ap (λ (n : ℕ). take n c.deref.result.now) count
    ∙ ap (λ (bytes : List ℕ). take (min c.args.limit (length c.in_ok-held.held.now.bytes.items)) bytes) c.deref.ensures.value
    ∙ take_min c.args.limit c.in_ok-held.held.now.bytes.items
    in
    ap (option_map (take c.args.limit)) there ∙ ap (λ (bytes : List ℕ). Some bytes) (sym cut)
