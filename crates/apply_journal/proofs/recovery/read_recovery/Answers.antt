use Rattle.std.proofs.Common.{◌∙◌, Decides}
use Rattle.apply_journal.specs.declared.error.RecoverError.TheVariants.{BadPlan}
use Rattle.apply_journal.specs.Recovered.{IsOpen, HoldsPlan}
use Rattle.apply_journal.proofs.Recovering.{due_none, due_some, lost, carried, goes_on}
use Rattle.apply_journal.proofs.recovery.read_recovery.Goals as goal

pub returns-then-not-branch-clause-due : goal.returns-then-not-branch-clause-due
returns-then-not-branch-clause-due g c =
    let start = g.T.Tree.content c.args.tree.now in
    let r = c.in_ok-read_gate.field-0 in
    due_none start r c.if-not-branch.true
    (carried (λ held. Decides r (IsOpen held)) (g.T.Tree.content c.list_names.new.tree) start c.list_names.ensures.content
    c.in_ok-read_gate.ensures.open)

pub returns-in_err-files-clause-bad_plan : goal.returns-in_err-files-clause-bad_plan
returns-in_err-files-clause-bad_plan g c = λ is.
    let start = g.T.Tree.content c.args.tree.now in
    let r = c.in_ok-read_gate.field-0 in
    let e = c.from_residual-in_err-files in
    let gate = carried (λ held. Decides r (IsOpen held)) (g.T.Tree.content c.list_names.new.tree) start c.list_names.ensures.content
    c.in_ok-read_gate.ensures.open in
    let none = c.in_err-files.ensures.bad_plan (goes_on e.result c.in_err-files.field-0.0 BadPlan e.ensures.0 e.ensures.1 is) in
    lost start r c.if-not-branch.false gate (λ held at. none held (c.read_gate.ensures.content ∙ c.list_names.ensures.content ∙ at))

pub returns-clause-due : goal.returns-clause-due
returns-clause-due g c =
    let start = g.T.Tree.content c.args.tree.now in
    let r = c.in_ok-read_gate.field-0 in
    let gate = carried (λ held. Decides r (IsOpen held)) (g.T.Tree.content c.list_names.new.tree) start c.list_names.ensures.content
    c.in_ok-read_gate.ensures.open in
    let plan = carried (λ held. HoldsPlan held c.in_ok-files.files.items) (g.T.Tree.content c.read_gate.new.tree) start
    (c.read_gate.ensures.content ∙ c.list_names.ensures.content) c.in_ok-files.ensures.held in
    due_some start r c.in_ok-files.files.items c.in_ok-writes.writes.items c.if-not-branch.false gate plan c.in_ok-writes.ensures
