use Rattle.parse_expr.proofs.reading.+read_nested.Given as goal

abbrev pub decreases-read_nested : goal.decreases-read_nested
decreases-read_nested l = l.depth
