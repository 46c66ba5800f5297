use Rattle.std.proofs.Common.{◌-◌, map}
use Rattle.ml_trees.specs.Tree as pure
use Rattle.ml_trees.specs.View.{view_pat_field}
use Rattle.token_reading.specs.Steps.{many, always}
use Rattle.token_reading.specs.PatReading as r
use Rattle.token_reading.specs.PatReading.{read_pat}
use Rattle.token_reading.specs.Tokens.{from}
use Rattle.token_reading.proofs.Turns.{Left}
use Rattle.pattern_reading.proofs.patterns.Grammar.more_fields.Given as goal

abbrev pub invariant-loop-turn : goal.invariant-loop-turn
invariant-loop-turn g l =
    let part = r.next_field (read_pat l.self.depth) l.self.depth in
    Left pure.no_pat_field pure.more_pat_field always part (map view_pat_field l.found.items) (l._turn-end - l._turn) (from l.tokens l.at)
    (many pure.no_pat_field pure.more_pat_field always part l.self.depth (from l.tokens l.fn.at))
