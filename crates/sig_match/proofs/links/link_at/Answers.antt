use Rattle.std.proofs.Common.{refl, ◌+◌, ◌∙◌, ap}
use Rattle.shape_core.specs.Links as links
use Rattle.shape_core.specs.declared.shared.SharedEntry.TheVariants as e
use Rattle.shape_core.specs.Shape.{entries_in, entries_from}
use Rattle.sig_match.specs.Walk.{list_in}
use Rattle.sig_match.proofs.Firsts.{from_in, then_is}
use Rattle.sig_match.proofs.LinkAnswers.{no_link, no_link_past, one_link, shown_source, hidden_source}
use Rattle.sig_match.proofs.links.link_at.Goals as goal
use Rattle.sig_match.proofs.links.link_at.Goals.{then-is_shown, else-is_shown}

pub returns-then-meeting-list : goal.returns-then-meeting-list
returns-then-meeting-list c =
    no_link_past (list_in c.args.meeting.now.source) c.entries-list.result.now _ c.args.meeting.now.at c.entries-list.ensures c.if-meeting-list.true

pub returns-in-Mod : goal.returns-in-Mod
returns-in-Mod c =
    let es = entries_in c.args.meeting.now.list.now in
    no_link (list_in c.args.meeting.now.source) _ _
    (then_is _ (entries_from (c.args.meeting.now.at + 1) es) c.index-list-meeting.result (e.Mod c.in-Mod.field-0 c.in-Mod.field-1)
    (from_in c.entries-list.result.now es c.args.meeting.now.at c.index-list-meeting.result c.entries-list.ensures c.if-meeting-list.false
    c.index-list-meeting.is) c.in-Mod.is) refl

pub returns-in-Mty : goal.returns-in-Mty
returns-in-Mty c =
    let es = entries_in c.args.meeting.now.list.now in
    no_link (list_in c.args.meeting.now.source) _ _
    (then_is _ (entries_from (c.args.meeting.now.at + 1) es) c.index-list-meeting.result (e.Mty c.in-Mty.field-0 c.in-Mty.field-1)
    (from_in c.entries-list.result.now es c.args.meeting.now.at c.index-list-meeting.result c.entries-list.ensures c.if-meeting-list.false
    c.index-list-meeting.is) c.in-Mty.is) refl

pub returns-in-Dark : goal.returns-in-Dark
returns-in-Dark c =
    let es = entries_in c.args.meeting.now.list.now in
    no_link (list_in c.args.meeting.now.source) _ _
    (then_is _ (entries_from (c.args.meeting.now.at + 1) es) c.index-list-meeting.result (e.Dark c.in-Dark.field-0)
    (from_in c.entries-list.result.now es c.args.meeting.now.at c.index-list-meeting.result c.entries-list.ensures c.if-meeting-list.false
    c.index-list-meeting.is) c.in-Dark.is) refl

pub returns-after-is_shown : goal.returns-after-is_shown
returns-after-is_shown c =
    let es = entries_in c.args.meeting.now.list.now in
    let src = list_in c.args.meeting.now.source in
    let h = then_is (entries_from c.args.meeting.now.at es) (entries_from (c.args.meeting.now.at + 1) es) c.index-list-meeting.result
    (e.Val c.in-Val.x c.in-Val.goal)
    (from_in c.entries-list.result.now es c.args.meeting.now.at c.index-list-meeting.result c.entries-list.ensures c.if-meeting-list.false
    c.index-list-meeting.is) c.in-Val.is in
    one_link src (entries_from c.args.meeting.now.at es) (entries_from (c.args.meeting.now.at + 1) es) c.in-Val.x c.in-Val.goal c.if-is_shown.source h
    (elim c.if-is_shown.branch [
      | then-is_shown w ↦ shown_source src (entries_from c.args.meeting.now.at es) (entries_from (c.args.meeting.now.at + 1) es) c.in-Val.x
          c.in-Val.goal c.if-is_shown.source c.is_shown.result h c.is_shown.ensures w.if-is_shown.true
          (w.source-is ∙ w.source_of-source.ensures ∙ ap (links.source_of src) w.as_bytes.ensures)
      | else-is_shown w ↦ hidden_source src (entries_from c.args.meeting.now.at es) (entries_from (c.args.meeting.now.at + 1) es) c.in-Val.x
          c.in-Val.goal c.if-is_shown.source c.is_shown.result h c.is_shown.ensures w.if-is_shown.false w.source-is
    ])
