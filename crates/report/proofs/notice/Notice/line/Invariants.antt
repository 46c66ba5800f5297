use Rattle.std.proofs.Common.{◌≡◌, ◌++◌, [], ◌∷◌, take, codes}
use Rattle.std.specs.Prelude.{flat_map}
use Rattle.report.specs.Pieces.{join}
use Rattle.report.specs.Notice.{part_text, subject_text}
use Rattle.report.proofs.notice.Notice.line.Given as goal

-- the front, and the parts so far
abbrev pub invariant-loop-part : goal.invariant-loop-part
invariant-loop-part l = l.line.items ≡ join (subject_text l.self.subject ∷ codes ":" ∷ []) ++ flat_map part_text (take l.part-index l.parts)
