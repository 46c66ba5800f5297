use Rattle.std.proofs.Common.{◌≡◌, sym, Some, ℕ, List, subst, Option}
use Rattle.std.specs.Prelude.{bytes_eq, if◌then◌else◌}
use Rattle.name_tables.specs.Names.{at}
use Rattle.name_tables.proofs.Updates.{updated}
use Rattle.name_tables.proofs.names.Names.set.Goals as goal

pub returns-in-None : goal.returns-in-None
returns-in-None g c =
    let h = updated c.args.self.now.map c.remove.new.self c.args.name.now _ c.remove.ensures.updates in
    subst (λ (o : Option g.row.V.Denot). (x : List ℕ)
    → at (record { map = c.remove.new.self }) x ≡ (if bytes_eq c.args.name.now x then o else at c.args.self.now x)) (sym c.in-None.is) h

pub returns-in-Some-get_mut : goal.returns-in-Some-get_mut
returns-in-Some-get_mut g c =
    let h = updated c.args.self.now.map (c.get_mut.follows.lender c.in-Some.value) c.args.name.now (Some c.in-Some.value)
    ((c.get_mut.follows.holds c.in-Some.value).3 c.requires) in
    subst (λ (o : Option g.row.V.Denot). (x : List ℕ)
    → at (record { map = c.get_mut.follows.lender c.in-Some.value }) x ≡ (if bytes_eq c.args.name.now x then o else at c.args.self.now x))
    (sym c.in-Some.is) h
