use Rattle.rotor_base.proofs.Kept.{few_files, small_files, total_fits}
use Rattle.rotor_base.proofs.files.Files.entries.Goals as goal

pub returns-clause-few : goal.returns-clause-few
returns-clause-few c = rw c.deref.ensures.value (few_files _ c.self.invariant)

pub returns-clause-small : goal.returns-clause-small
returns-clause-small c = rw c.deref.ensures.value (small_files _ c.self.invariant)

pub returns-clause-total : goal.returns-clause-total
returns-clause-total c = rw c.deref.ensures.value (total_fits _ c.self.invariant)
