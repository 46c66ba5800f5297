use Rattle.std.proofs.Common.{◌≡◌, drop}
use Rattle.ml_trees.specs.Tok.{fixed_among}
use Rattle.ml_trees.proofs.fixed.find_fixed.Given as goal

abbrev pub invariant-loop-text : goal.invariant-loop-text
invariant-loop-text l = fixed_among (λ s. s.0.now) (λ s. s.1) l.bytes (drop l.text-index l.spellings) ≡ fixed_among (λ s. s.0.now)
    (λ s. s.1) l.bytes l.spellings
