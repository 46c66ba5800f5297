use Rattle.std.proofs.Common.{◌<◌, ◌≤◌, Err, IfOk, IfErr, length, inr, sym, subst, arith}
use Rattle.std.specs.FinMap.{empty}
use Rattle.std.proofs.lemmas.Grind.{common_steps}
use Rattle.std.proofs.lemmas.Result.{IfOk-weaker, IfErr-weaker}
use Rattle.rotor_base.specs.Lines.{feed_lines}
use Rattle.rotor_base.specs.declared.refusal.LoadError.{LoadError}
use Rattle.tree_io.specs.Outside.{FileMap}
use Rattle.project_load.specs.Entries.{IsFolder, IsUnread, given_by, table_of}
use Rattle.project_load.specs.Listed.{Gives, Lists}
use Rattle.project_load.specs.declared.error.ListError.TheVariants.{Load}
use Rattle.project_load.proofs.Causes.{told, telling}
use Rattle.project_load.proofs.ListLoads.{lines_listed, not_lines, too_long}
use Rattle.project_load.proofs.listed.read_list.Goals as goal

pub returns-then-len-clause-refused : goal.returns-then-len-clause-refused
returns-then-len-clause-refused g c =
    let long : 1048576 < length c.in_ok-bytes.bytes.items = grind (arith, common_steps) in
    telling (g.T.Tree.content c.args.tree.now) _ (λ held e.
    inr (subst (λ (why : LoadError). Lists held c.args.list.now (Err (Load why))) (sym c.in_ok-too_large_file.ensures)
    (too_long c.args.folder.now held c.args.list.now c.in_ok-bytes.bytes.items
    (told (g.T.Tree.content c.args.tree.now) _ held e c.in_ok-bytes.ensures.bytes) long)))

pub returns-clause-entries : goal.returns-clause-entries
returns-clause-entries g c =
    let small : length c.in_ok-bytes.bytes.items ≤ 1048576 = grind (arith, common_steps) in
    let gives : IfOk c.read_entries.result (λ list. (held : FileMap) → IsFolder held c.args.folder.now → Gives held
    (feed_lines c.in_ok-bytes.bytes.items) empty (given_by held (table_of list))) =
    rw (← c.deref.ensures.value) c.read_entries.ensures.gives
    in
    IfOk-weaker c.read_entries.result _ _ (λ list h. telling (g.T.Tree.content c.args.tree.now) _ (λ held e.
    lines_listed c.args.folder.now held c.args.list.now c.in_ok-bytes.bytes.items
    (told (g.T.Tree.content c.args.tree.now) _ held e c.in_ok-bytes.ensures.bytes) small (table_of list) (c.requires held e) h))
    gives

pub returns-clause-refused : goal.returns-clause-refused
returns-clause-refused g c =
    let small : length c.in_ok-bytes.bytes.items ≤ 1048576 = grind (arith, common_steps) in
    let unread : IfErr c.read_entries.result (IsUnread c.args.folder.now (feed_lines c.in_ok-bytes.bytes.items)) = rw
    (← c.deref.ensures.value) c.read_entries.ensures.unread in
    IfErr-weaker c.read_entries.result _ _ (λ error h. telling (g.T.Tree.content c.args.tree.now) _ (λ held e.
    not_lines c.args.folder.now held c.args.list.now c.in_ok-bytes.bytes.items
    (told (g.T.Tree.content c.args.tree.now) _ held e c.in_ok-bytes.ensures.bytes) small error (c.requires held e) h))
    unread
