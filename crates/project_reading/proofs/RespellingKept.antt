-- Respelled files are read as the respelled project: the law, since files have one reading.
use Rattle.module_laws.proofs.LawsMod.{one_file_reading}
use Rattle.project_reading.specs.Respelled.{RespellingKeepsTheReading}
use Rattle.project_reading.proofs.ReadingKept.{reading_kept}

pub respelling_keeps_the_reading : RespellingKeepsTheReading
respelling_keeps_the_reading = reading_kept one_file_reading
