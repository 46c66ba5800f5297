use Rattle.name_tables.proofs.Updates.{updated}
use Rattle.std.proofs.Common.{◌≡◌, ◌∙◌, ℕ, List, ap, is_some, subst, sym, Some}
use Rattle.std.specs.Option.{option_copied_mut}
use Rattle.name_tables.specs.declared.names.Names.{Names}
use Rattle.name_tables.specs.Names.{at}
use Rattle.std.specs.Prelude.{bytes_eq, if◌then◌else◌}
use Rattle.name_tables.proofs.names.Names.put.Goals as goal

pub returns-in-Some-clause-put : goal.returns-in-Some-clause-put
returns-in-Some-clause-put g c =
    let new = c.get_mut.follows.lender c.replace.new.dest in
    let was : at c.args.self.now c.args.name.now ≡ Some c.in-Some.held.now = sym c.get_mut.ensures.value ∙ ap option_copied_mut c.in-Some.is in
    let h = updated c.args.self.now.map new c.args.name.now (Some c.replace.new.dest)
    ((c.get_mut.follows.holds c.replace.new.dest).3 (ap is_some was)) in
    subst (λ (v : g.row.V.Denot). (x : List ℕ)
    → at (record { map = new }) x ≡ (if bytes_eq c.args.name.now x then Some v else at c.args.self.now x)) c.replace.ensures.after h

pub returns-in_ok-insert-in-None-clause-put : goal.returns-in_ok-insert-in-None-clause-put
returns-in_ok-insert-in-None-clause-put g c =
    let same = c.get_mut.follows.holds-at-none in
    let h = updated c.get_mut.follows.lender-at-none c.insert.new.self c.in_ok-key-in-None.key.items (Some c.args.value)
    c.in_ok-insert-in-None.ensures.updates in
    subst (λ (old : Names g.row.V.Denot). (x : List ℕ)
    → at (record { map = c.insert.new.self }) x ≡ (if bytes_eq c.args.name.now x then Some c.args.value else at old x))
    (ap (λ m. record { map = m }) same)
    (subst (λ (z : List ℕ). (x : List ℕ)
    → at (record { map = c.insert.new.self }) x
    ≡ (if bytes_eq z x then Some c.args.value else at (record { map = c.get_mut.follows.lender-at-none }) x)) c.in_ok-key-in-None.ensures.items h)
