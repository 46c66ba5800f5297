use Rattle.dependency_kernel.proofs.Fixed.{NoneFixed}
use Rattle.dependency_kernel.proofs.outside.find_least_fixed.Given as goal

-- none of the declarations so far is fixed
abbrev pub invariant-loop-place : goal.invariant-loop-place
invariant-loop-place l = NoneFixed l.place-index l.decls l.fixed
