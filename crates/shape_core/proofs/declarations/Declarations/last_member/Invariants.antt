use Rattle.std.proofs.Common.{◌≡◌, List, length, take}
use Rattle.shape_core.specs.declared.shared.SharedEntry.{SharedEntry}
use Rattle.shape_core.specs.Declarations.{HasDeclarations}
use Rattle.shape_core.specs.Looks as looks
use Rattle.shape_core.specs.Node.{entries_of}
use Rattle.shape_core.specs.Shape.{darks}
use Rattle.shape_core.proofs.Declaring.{watching}
use Rattle.shape_core.proofs.declarations.Declarations.last_member.Given as goal

-- the last value that is one of the first declarations
abbrev pub invariant-loop-decl : goal.invariant-loop-decl
invariant-loop-decl l =
    (list : List SharedEntry) → HasDeclarations l.self list → l.darks ≡ length (darks (entries_of list))
    → l.last ≡ looks.last_where (looks.in_foot (watching (take l.decl-index l.decls))) (entries_of list)
