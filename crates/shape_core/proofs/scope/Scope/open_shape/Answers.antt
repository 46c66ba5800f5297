use Rattle.std.proofs.Common.{◌≡◌, ◌++◌, List, subst}
use Rattle.std.specs.Prelude.{OnOk}
use Rattle.shape_core.specs.declared.shared.SharedEntry.{SharedEntry}
use Rattle.shape_core.specs.Shape.{entries_in}
use Rattle.shape_core.proofs.Opening.{items_are}
use Rattle.shape_core.proofs.scope.Scope.open_shape.Goals as goal

pub returns-clause-opened : goal.returns-clause-opened
returns-clause-opened c =
    subst (λ (l : List SharedEntry). OnOk c.extend.result (c.extend.new.self ≡ c.args.self.now ++ l))
    (items_are c.entries-2.result.now (entries_in c.args.shape) c.entries-2.ensures) c.extend.ensures.added
