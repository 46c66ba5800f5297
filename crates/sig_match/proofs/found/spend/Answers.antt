use Rattle.sig_match.specs.Walk.{mets}
use Rattle.sig_match.proofs.Walks.{step_taken, step_refused}
use Rattle.sig_match.proofs.found.spend.Goals as goal

pub returns-then-found-room : goal.returns-then-found-room
returns-then-found-room c = step_refused c.args.room (mets c.args.found.now.meetings.items) c.args.found.now.work c.if-found-room.true

pub returns : goal.returns
returns c = step_taken c.args.room (mets c.args.found.now.meetings.items) c.args.found.now.work c.if-found-room.false
