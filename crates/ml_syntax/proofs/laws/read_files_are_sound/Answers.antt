use Rattle.ml_syntax.proofs.SoundFiles.{read_files_are_sound, parts_are_numbered}
use Rattle.ml_syntax.proofs.laws.read_files_are_sound.Goals as goal

pub returns-clause-files : goal.returns-clause-files
returns-clause-files c = read_files_are_sound

pub returns-clause-parts : goal.returns-clause-parts
returns-clause-parts c = parts_are_numbered
