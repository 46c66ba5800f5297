use Rattle.std.proofs.Common.{◌∙◌, []}
use Rattle.sig_match.proofs.LookAnswers.{looks_more, same_list}
use Rattle.sig_match.proofs.looks.looks_of.Goals as goal
use Rattle.sig_match.proofs.looks.looks_of.Goals.{in-Some+in_ok-push-in-Some, in-None}

pub loop-meeting-preserved : goal.loop-meeting-preserved
loop-meeting-preserved c =
    elim c.match-look_at.branch [
      | in-Some+in_ok-push-in-Some w ↦
          looks_more c.args.watch.now c.args.meetings.now c.loop-meeting.meeting-index c.meeting-item.result c.loop-meeting.links
          c.match-look_at.links _ c.loop-meeting.passed c.count_at-passed.result
          c.loop-meeting-test.true c.meeting-item.is c.loop-meeting.invariant.0 c.loop-meeting.invariant.1 c.loop-meeting.invariant.2
          w.in-Some.ensures
          (w.links-is ∙ w.in_ok-push-in-Some.ensures.ok) c.count_at-passed.ensures.number c.count_at-passed.ensures.bound
      | in-None w ↦
          looks_more c.args.watch.now c.args.meetings.now c.loop-meeting.meeting-index c.meeting-item.result c.loop-meeting.links
          c.match-look_at.links [] c.loop-meeting.passed c.count_at-passed.result
          c.loop-meeting-test.true c.meeting-item.is c.loop-meeting.invariant.0 c.loop-meeting.invariant.1 c.loop-meeting.invariant.2
          w.in-None.ensures
          (w.links-is ∙ same_list c.loop-meeting.links) c.count_at-passed.ensures.number c.count_at-passed.ensures.bound
    ]
