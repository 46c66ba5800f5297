use Rattle.std.proofs.Common.{◌≡◌, ◌+◌, drop}
use Rattle.parse_base.specs.Forms.{first_form}
use Rattle.parse_base.proofs.forms.scan_forms.Given as goal

abbrev pub invariant-loop-at : goal.invariant-loop-at
invariant-loop-at l = first_form (l.at + 1) (drop l.at l.tokens) ≡ first_form 1 l.tokens
