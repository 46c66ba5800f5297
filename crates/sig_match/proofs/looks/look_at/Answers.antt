use Rattle.std.proofs.Common.{refl, ◌+◌, ◌∙◌}
use Rattle.shape_core.specs.declared.shared.SharedEntry.TheVariants as e
use Rattle.shape_core.specs.Shape.{entries_in, entries_from}
use Rattle.sig_match.specs.Walk.{list_in}
use Rattle.sig_match.proofs.Firsts.{from_in, then_is}
use Rattle.sig_match.proofs.LookAnswers.{no_look, no_look_past, one_look}
use Rattle.sig_match.proofs.looks.look_at.Goals as goal

pub returns-then-meeting-list : goal.returns-then-meeting-list
returns-then-meeting-list c = no_look_past c.args.watch.now c.args.number (list_in c.args.meeting.now.source) c.entries-list.result.now
    (entries_in c.args.meeting.now.list.now) c.args.meeting.now.at c.entries-list.ensures c.if-meeting-list.true

pub returns-in-Mod : goal.returns-in-Mod
returns-in-Mod c = no_look c.args.watch.now c.args.number (list_in c.args.meeting.now.source)
    (entries_from c.args.meeting.now.at (entries_in c.args.meeting.now.list.now))
    _ (then_is (entries_from c.args.meeting.now.at (entries_in c.args.meeting.now.list.now))
    (entries_from (c.args.meeting.now.at + 1) (entries_in c.args.meeting.now.list.now)) c.index-list-meeting.result
    (e.Mod c.in-Mod.field-0 c.in-Mod.field-1)
    (from_in c.entries-list.result.now (entries_in c.args.meeting.now.list.now) c.args.meeting.now.at c.index-list-meeting.result
    c.entries-list.ensures c.if-meeting-list.false c.index-list-meeting.is) c.in-Mod.is) refl

pub returns-in-Mty : goal.returns-in-Mty
returns-in-Mty c = no_look c.args.watch.now c.args.number (list_in c.args.meeting.now.source)
    (entries_from c.args.meeting.now.at (entries_in c.args.meeting.now.list.now))
    _ (then_is (entries_from c.args.meeting.now.at (entries_in c.args.meeting.now.list.now))
    (entries_from (c.args.meeting.now.at + 1) (entries_in c.args.meeting.now.list.now)) c.index-list-meeting.result
    (e.Mty c.in-Mty.field-0 c.in-Mty.field-1)
    (from_in c.entries-list.result.now (entries_in c.args.meeting.now.list.now) c.args.meeting.now.at c.index-list-meeting.result
    c.entries-list.ensures c.if-meeting-list.false c.index-list-meeting.is) c.in-Mty.is) refl

pub returns-in-Dark : goal.returns-in-Dark
returns-in-Dark c = no_look c.args.watch.now c.args.number (list_in c.args.meeting.now.source)
    (entries_from c.args.meeting.now.at (entries_in c.args.meeting.now.list.now))
    _ (then_is (entries_from c.args.meeting.now.at (entries_in c.args.meeting.now.list.now))
    (entries_from (c.args.meeting.now.at + 1) (entries_in c.args.meeting.now.list.now)) c.index-list-meeting.result (e.Dark c.in-Dark.field-0)
    (from_in c.entries-list.result.now (entries_in c.args.meeting.now.list.now) c.args.meeting.now.at c.index-list-meeting.result
    c.entries-list.ensures c.if-meeting-list.false c.index-list-meeting.is) c.in-Dark.is) refl

pub returns-in-Val : goal.returns-in-Val
returns-in-Val c =
    c.look_before.ensures
    ∙ one_look c.args.watch.now c.args.number (list_in c.args.meeting.now.source)
    (entries_from c.args.meeting.now.at (entries_in c.args.meeting.now.list.now))
    (entries_from (c.args.meeting.now.at + 1) (entries_in c.args.meeting.now.list.now)) c.in-Val.x _ c.in-Val.goal
    (then_is (entries_from c.args.meeting.now.at (entries_in c.args.meeting.now.list.now))
    (entries_from (c.args.meeting.now.at + 1) (entries_in c.args.meeting.now.list.now)) c.index-list-meeting.result
    (e.Val c.in-Val.x c.in-Val.goal)
    (from_in c.entries-list.result.now (entries_in c.args.meeting.now.list.now) c.args.meeting.now.at c.index-list-meeting.result
    c.entries-list.ensures c.if-meeting-list.false c.index-list-meeting.is) c.in-Val.is) c.as_bytes.ensures
