use Rattle.rotor_base.proofs.BadLines.{answers_bad_line, depends_on_names}
use Rattle.rotor_base.proofs.manifest.bad_lines_are_exact.Goals as goal

pub returns : goal.returns
returns c = record { exact = answers_bad_line; names = depends_on_names }
