use Rattle.std.proofs.Common.{ap, sym, subst}
use Rattle.std.proofs.Common.{IsSome}
use Rattle.std.specs.FinMap.{get}
use Rattle.std.specs.Option.{is_some}
use Rattle.apply_journal.proofs.Gates.{is_there, none_read}
use Rattle.folder_messages.proofs.Holding.{front_read}
use Rattle.folder_messages.proofs.listed.read_among.Goals as goal

pub returns-in_default-clause-bytes : goal.returns-in_default-clause-bytes
returns-in_default-clause-bytes g c =
    none_read (g.T.Tree.content c.args.tree.now) c.args.listed.now c.args.name.now 1048577 (is_some c.find_name.result) c.requires
    c.find_name.ensures.there (ap is_some c.in_default.is)

pub read-requires : goal.read-requires
read-requires g c = λ held is.
    subst (λ w. IsSome (get held w)) (sym (c.find_name.ensures.same c.in-Some.found c.in-Some.is))
    (is_there (g.T.Tree.content c.args.tree.now) c.args.listed.now c.args.name.now (is_some c.find_name.result) c.requires
    c.find_name.ensures.there (ap is_some c.in-Some.is) held is)

pub returns-clause-bytes : goal.returns-clause-bytes
returns-clause-bytes g c =
    front_read (g.T.Tree.content c.args.tree.now) c.args.name.now c.in-Some.found.now c.in_ok-read.field-0.items
    (c.find_name.ensures.same c.in-Some.found c.in-Some.is) c.in_ok-read.ensures.bytes
