use Rattle.std.proofs.Common.{◌≡◌, ◌++◌, take}
use Rattle.name_resolve.proofs.linked.add_links.Given as goal

abbrev pub invariant-loop-link : goal.invariant-loop-link
invariant-loop-link l = l.found ≡ record l.fn.found { links = l.fn.found.links ++ take l.link-index l.links }
