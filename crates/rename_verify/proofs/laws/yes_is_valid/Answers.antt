use Rattle.rename_verify.proofs.Trimming.{valid_is_yes}
use Rattle.rename_verify.proofs.Said.{valid_says_yes}
use Rattle.rename_verify.proofs.Valid.{yes_is_valid, yes_keeps_runs}
use Rattle.rename_verify.proofs.laws.yes_is_valid.Goals as goal

pub returns : goal.returns
returns c = record { valid = yes_is_valid; yes = valid_is_yes; said = valid_says_yes; runs = yes_keeps_runs }
