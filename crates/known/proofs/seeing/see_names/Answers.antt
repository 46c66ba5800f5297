use Rattle.std.proofs.Common.{map, string_bytes, refl}
use Rattle.known.specs.Seen.{seen_files}
use Rattle.known.proofs.Fronts.{rests_names, unread_fronts}
use Rattle.known.proofs.Keeping.{names_held}
use Rattle.known.proofs.seeing.see_names.Goals as goal

pub returns-clause-names : goal.returns-clause-names
returns-clause-names g c =
    rests_names (g.T.Tree.content c.args.tree.now) (g.T.Tree.content c.list.new.self) (seen_files c.in_ok-list_unread.field-0)
    (seen_files c.in_ok-list_unread.field-0) c.list.ensures.content refl
    (names_held (g.T.Tree.content c.args.tree.now) c.in_ok-list_unread.field-0 (map string_bytes c.in_ok-names.names.items)
    c.in_ok-names.ensures.names
    c.in_ok-list_unread.ensures.names)

pub returns-clause-fronts : goal.returns-clause-fronts
returns-clause-fronts g c =
    unread_fronts (g.T.Tree.content c.list.new.self) c.in_ok-list_unread.field-0 c.in_ok-list_unread.ensures.nothing (returns-clause-names g c)
