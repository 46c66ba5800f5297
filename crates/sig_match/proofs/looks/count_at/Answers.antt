use Rattle.std.proofs.Common.{refl, ◌+◌}
use Rattle.shape_core.specs.declared.shared.SharedEntry.TheVariants as e
use Rattle.shape_core.specs.Shape.{entries_in, entries_from}
use Rattle.sig_match.specs.Walk.{list_in}
use Rattle.sig_match.proofs.Firsts.{from_in, then_is}
use Rattle.sig_match.proofs.LookAnswers.{no_count, no_count_past, one_count}
use Rattle.sig_match.proofs.looks.count_at.Goals as goal

pub returns-then-meeting-list-clause-number : goal.returns-then-meeting-list-clause-number
returns-then-meeting-list-clause-number c = no_count_past (list_in c.args.meeting.now.source) c.entries-list.result.now
    (entries_in c.args.meeting.now.list.now) c.args.meeting.now.at c.entries-list.ensures c.if-meeting-list.true

pub returns-in-Mod-clause-number : goal.returns-in-Mod-clause-number
returns-in-Mod-clause-number c =
    no_count (list_in c.args.meeting.now.source) (entries_from c.args.meeting.now.at (entries_in c.args.meeting.now.list.now))
    _ (then_is (entries_from c.args.meeting.now.at (entries_in c.args.meeting.now.list.now))
    (entries_from (c.args.meeting.now.at + 1) (entries_in c.args.meeting.now.list.now)) c.index-list-meeting.result
    (e.Mod c.in-Mod.field-0 c.in-Mod.field-1)
    (from_in c.entries-list.result.now (entries_in c.args.meeting.now.list.now) c.args.meeting.now.at c.index-list-meeting.result
    c.entries-list.ensures c.if-meeting-list.false c.index-list-meeting.is) c.in-Mod.is) refl

pub returns-in-Mty-clause-number : goal.returns-in-Mty-clause-number
returns-in-Mty-clause-number c =
    no_count (list_in c.args.meeting.now.source) (entries_from c.args.meeting.now.at (entries_in c.args.meeting.now.list.now))
    _ (then_is (entries_from c.args.meeting.now.at (entries_in c.args.meeting.now.list.now))
    (entries_from (c.args.meeting.now.at + 1) (entries_in c.args.meeting.now.list.now)) c.index-list-meeting.result
    (e.Mty c.in-Mty.field-0 c.in-Mty.field-1)
    (from_in c.entries-list.result.now (entries_in c.args.meeting.now.list.now) c.args.meeting.now.at c.index-list-meeting.result
    c.entries-list.ensures c.if-meeting-list.false c.index-list-meeting.is) c.in-Mty.is) refl

pub returns-in-Dark-clause-number : goal.returns-in-Dark-clause-number
returns-in-Dark-clause-number c =
    no_count (list_in c.args.meeting.now.source) (entries_from c.args.meeting.now.at (entries_in c.args.meeting.now.list.now))
    _ (then_is (entries_from c.args.meeting.now.at (entries_in c.args.meeting.now.list.now))
    (entries_from (c.args.meeting.now.at + 1) (entries_in c.args.meeting.now.list.now)) c.index-list-meeting.result (e.Dark c.in-Dark.field-0)
    (from_in c.entries-list.result.now (entries_in c.args.meeting.now.list.now) c.args.meeting.now.at c.index-list-meeting.result
    c.entries-list.ensures c.if-meeting-list.false c.index-list-meeting.is) c.in-Dark.is) refl

pub returns-in-Val-clause-number : goal.returns-in-Val-clause-number
returns-in-Val-clause-number c =
    one_count (list_in c.args.meeting.now.source) (entries_from c.args.meeting.now.at (entries_in c.args.meeting.now.list.now))
    (entries_from (c.args.meeting.now.at + 1) (entries_in c.args.meeting.now.list.now)) c.in-Val.field-0 c.in-Val.field-1
    (then_is (entries_from c.args.meeting.now.at (entries_in c.args.meeting.now.list.now))
    (entries_from (c.args.meeting.now.at + 1) (entries_in c.args.meeting.now.list.now)) c.index-list-meeting.result
    (e.Val c.in-Val.field-0 c.in-Val.field-1)
    (from_in c.entries-list.result.now (entries_in c.args.meeting.now.list.now) c.args.meeting.now.at c.index-list-meeting.result
    c.entries-list.ensures c.if-meeting-list.false c.index-list-meeting.is) c.in-Val.is)
