use Rattle.std.proofs.Common.{◌≡◌, ◌<◌, ◌-◌, ℕ, suc, List, [], ◌∷◌, ◌++◌, Result, Ok, Err, OnOk, ap, sym, ◌∙◌, arith}
use Rattle.std.specs.Option.{option_copied}
use Rattle.need_chains.specs.Chains.{chain}
use Rattle.need_chains.proofs.Leading.{chain_ends, chain_goes_on, chain_none, next_far}
use Rattle.need_chains.proofs.chain.+push_chain.Goals as goal

on_ok : {A E : Type 0} {P Q : Type 0} (r : Result A E) → (P → Q) → OnOk r P → OnOk r Q
on_ok (Ok x) f h = f h
on_ok (Err e) f h = tt

pub returns-then-needs-eq0 : goal.returns-then-needs-eq0
returns-then-needs-eq0 t c = λ to n le are none.
    chain_none c.args.needs c.args.sources.now to c.args.unit.now c.args.names.now.items (omega (arith, c.if-needs-eq0.true))

pub returns-in-None : goal.returns-in-None
returns-in-None t c =
    λ to n le are none.
    let k = c.args.needs - 1 in
    let more : c.args.needs ≡ suc k = omega (arith, c.if-needs-eq0.false) in
    chain_ends k c.args.needs c.args.sources.now to c.args.unit.now c.args.names.now.items (option_copied c.in_ok-next.field-0) more
    (c.in_ok-next.ensures to n (omega (arith, le, more)) are (λ d lt. none d (omega (arith, lt, more)))) (ap option_copied c.in-None.is)

pub returns-in_ok-push-in-Some : goal.returns-in_ok-push-in-Some
returns-in_ok-push-in-Some t c =
    on_ok c.push_chain.result (λ h to n le are none.
    let k = c.args.needs - 1 in
    let more : c.args.needs ≡ suc k = omega (arith, c.if-needs-eq0.false) in
    let sources = c.args.sources.now in
    let unit = c.args.unit.now in
    let name = c.in-Some.next.now in
    let names = c.args.names.now.items in
    let far = λ (d : ℕ) (lt : d < k). none d (omega (arith, lt, more)) in
    let next = c.in_ok-next.ensures to n (omega (arith, le, more)) are far in
    let is = ap option_copied c.in-Some.is in
    chain_goes_on k c.args.needs sources to unit name names c.push_chain.new.names.items
    (option_copied c.in_ok-next.field-0) more next is
    (h to n (omega (arith, le, more)) are (next_far k sources to unit name far (sym next ∙ is))
    ∙ ap (λ (x : List (List ℕ)). x ++ chain k sources to name)
    (c.in_ok-push-in-Some.ensures.items ∙ ap (λ (x : List ℕ). names ++ x ∷ []) c.in_ok-new-in-Some.ensures))) c.push_chain.ensures
