use Rattle.std.proofs.Common.{◌≡◌, take}
use Rattle.shape_core.specs.Shape as pure
use Rattle.shape_core.specs.View.{found_shape}
use Rattle.shape_core.proofs.shape.step_inside.Given as goal

abbrev pub invariant-loop-name : goal.invariant-loop-name
invariant-loop-name l = found_shape l.at ≡ pure.inside (found_shape l.start) (take l.name-index l.path)
