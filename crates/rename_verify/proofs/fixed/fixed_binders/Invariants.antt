use Rattle.std.proofs.Common.{◌≡◌, ◌++◌, flat_map, take}
use Rattle.rename_verify.specs.Fixed.{fixed_by_link, fixed_by_ref}
use Rattle.rename_verify.proofs.fixed.fixed_binders.Given as goal

-- what the references so far fix
abbrev pub invariant-loop-reference : goal.invariant-loop-reference
invariant-loop-reference l = l.list.items ≡ flat_map (fixed_by_ref l.uses) (take l.reference-index l.reference-items)

-- what all references and the links so far fix
abbrev pub invariant-loop-link : goal.invariant-loop-link
invariant-loop-link l = l.list.items ≡ flat_map (fixed_by_ref l.uses) l.facts.refs ++ flat_map fixed_by_link (take l.link-index l.link-items)
