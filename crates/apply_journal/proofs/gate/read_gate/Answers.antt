use Rattle.std.proofs.Common.{◌≡◌, Option, List, ℕ, Vec, IfSome, take, option_map, subst, ap, ◌∙◌}
use Rattle.std.specs.declared.alloc.Global.{Global}
use Rattle.std.specs.FinMap.{get}
use Rattle.std.specs.Str.{bytes_eq}
use Rattle.apply_journal.specs.Recovered.{gate_name, open_bytes}
use Rattle.apply_journal.proofs.Gates.{gate_read}
use Rattle.apply_journal.proofs.gate.read_gate.Goals as goal

pub returns-in-Some-clause-open : goal.returns-in-Some-clause-open
returns-in-Some-clause-open g c =
    let read = subst (λ (found : Option (Vec ℕ Global)). IfSome (g.T.Tree.content c.args.tree.now)
    (λ held. option_map (λ bytes. bytes.items) found ≡ option_map (take 6) (get held gate_name))) c.in-Some.is c.in_ok-read_listed.ensures.read in
    let same : c.eq.result ≡ bytes_eq c.in-Some.bytes.items open_bytes = c.eq.ensures
    ∙ ap (λ (bs : List ℕ). bytes_eq bs open_bytes) c.as_slice.ensures.value in
    gate_read (g.T.Tree.content c.args.tree.now) c.in-Some.bytes.items c.eq.result read same
