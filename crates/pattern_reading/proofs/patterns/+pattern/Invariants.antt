use Rattle.pattern_reading.proofs.patterns.+pattern.Given as goal

abbrev pub decreases-pattern : goal.decreases-pattern
decreases-pattern l = l.depth
