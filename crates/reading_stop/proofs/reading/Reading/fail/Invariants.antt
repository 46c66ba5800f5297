use Rattle.std.proofs.Common.{vec_len}
use Rattle.reading_stop.proofs.reading.Reading.fail.Given as goal

-- the frames that are left
abbrev pub decreases-loop-frame : goal.decreases-loop-frame
decreases-loop-frame l = vec_len l.self.frames
