use Rattle.std.proofs.Common.{◌∙◌, ap}
use Rattle.sig_match.proofs.LinkAnswers.{links_some, links_none}
use Rattle.sig_match.proofs.links.links_of.Goals as goal
use Rattle.sig_match.proofs.links.links_of.Goals.{in-Some+in_ok-push-in-Some, in-None}

pub loop-meeting-preserved : goal.loop-meeting-preserved
loop-meeting-preserved c =
    elim c.match-link_at.branch [
      | in-Some+in_ok-push-in-Some w ↦ ap (λ v. v.items) w.links-is
          ∙ links_some c.loop-meeting.links.items _ w.in-Some.link c.args.meetings.now c.loop-meeting.meeting-index c.meeting-item.result
          c.loop-meeting-test.true c.meeting-item.is c.loop-meeting.invariant w.in-Some.ensures w.in_ok-push-in-Some.ensures.items
      | in-None w ↦ ap (λ v. v.items) w.links-is
          ∙ links_none c.loop-meeting.links.items c.args.meetings.now c.loop-meeting.meeting-index c.meeting-item.result c.loop-meeting-test.true
          c.meeting-item.is c.loop-meeting.invariant w.in-None.ensures
    ]
