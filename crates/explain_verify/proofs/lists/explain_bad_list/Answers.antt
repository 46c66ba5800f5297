use Rattle.std.proofs.Common.{List, ℕ, ◌<◌, ◌≤◌, length, subst}
use Rattle.rotor_base.specs.Lines.{feed_lines}
use Rattle.explain_verify.specs.Lists.{IsAtLine}
use Rattle.explain_verify.proofs.Listing.{bad_read, missing_said}
use Rattle.explain_verify.proofs.lists.explain_bad_list.Goals as goal

pub returns-then-line-eq0-clause-bad : goal.returns-then-line-eq0-clause-bad
returns-then-line-eq0-clause-bad g c =
    missing_said (g.T.Tree.content c.args.tree.now) c.args.list.now c.args.line c.in_ok-explain_missing_list.field-0 c.if-line-eq0.true
    c.in_ok-explain_missing_list.ensures

pub returns-clause-bad : goal.returns-clause-bad
returns-clause-bad g c =
    bad_read (g.T.Tree.content c.args.tree.now) c.args.list.now c.in_ok-bytes.bytes.items c.args.line c.in_ok-explain_bad_line.field-0
    c.in_ok-bytes.ensures.bytes c.if-line-eq0.false
    (subst (λ (read : List ℕ). 0 < c.args.line → c.args.line ≤ length (feed_lines read)
    → IsAtLine c.args.list.now read c.args.line c.in_ok-explain_bad_line.field-0) c.deref.ensures.value c.in_ok-explain_bad_line.ensures)
