use Rattle.std.proofs.Common.{ap}
use Rattle.std.specs.Option.{option_map}
use Rattle.rotor_base.proofs.Loads.{is_short}
use Rattle.rotor_base.proofs.files.make_files.Goals as goal

pub check_manifest-requires : goal.check_manifest-requires
check_manifest-requires c = λ bytes e. is_short _ c.in_ok-check_manifest_size.ensures.passed bytes.items (ap (option_map (λ bytes. bytes.items)) e)
