use Rattle.tests_calls.proofs.Pair.{are_sources}
use Rattle.tests_calls.proofs.folder.read_pair.Goals as goal

pub make_files-requires : goal.make_files-requires
make_files-requires c = are_sources c.in_ok-a.a c.in_ok-b.b c.in_ok-vec.field-0.items c.in_ok-a.ensures.name c.in_ok-b.ensures.name
    c.in_ok-vec.ensures.items
