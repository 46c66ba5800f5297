use Rattle.std.proofs.Common.{refl}
use Rattle.known.proofs.Fronts.{has_back}
use Rattle.known.proofs.Keeping.{seen_same}
use Rattle.known.proofs.kept.Kept.room.Goals as goal

pub returns-then-has-clause-files : goal.returns-then-has-clause-files
returns-then-has-clause-files c =
    seen_same c.args.self.now (record { seen = c.reserve.new.self; made = c.args.self.now.made }) c.reserve.ensures.files refl

pub returns-then-has-clause-read : goal.returns-then-has-clause-read
returns-then-has-clause-read c = has_back c.args.self.now.seen c.reserve.new.self c.reserve.ensures.files c.reserve.ensures.read
