use Rattle.sig_match.specs.Walk.{met_at, trace_of}
use Rattle.sig_match.proofs.Walks.{met_taken, met_refused, left}
use Rattle.sig_match.proofs.found.meet.Goals as goal

pub returns-in_err-spend : goal.returns-in_err-spend
returns-in_err-spend c =
    left c.from_residual.result _ c.args.room _ _ _ c.from_residual.ensures.0 c.from_residual.ensures.1
    (met_refused _ c.args.room (trace_of c.args.found.now) (trace_of c.spend.new.found) (trace_of c.spend.new.found)
    (met_at c.args.meeting) c.in_err-spend.ensures)

pub returns : goal.returns
returns c = met_taken c.args.room c.args.found.now.meetings.items c.spend.new.found.meetings.items c.push.new.self.items c.args.meeting
    c.args.found.now.work c.spend.new.found.work c.in_ok-push.ensures.items c.in_ok-spend.ensures
