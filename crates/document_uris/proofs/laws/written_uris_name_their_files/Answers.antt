use Rattle.document_uris.proofs.Reread.{written_again}
use Rattle.document_uris.proofs.laws.written_uris_name_their_files.Goals as goal

pub returns : goal.returns
returns c = written_again
