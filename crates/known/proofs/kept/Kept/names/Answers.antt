use Rattle.std.proofs.Common.{◌≡◌, [], sym, ap, ◌∙◌}
use Rattle.std.specs.FinMap.{keys}
use Rattle.tree_io.specs.Outside.{FileMap}
use Rattle.known.proofs.Keeping.{none_made, no_items, named_as}
use Rattle.known.proofs.kept.Kept.names.Goals as goal

pub returns-in-Ok-clause-names : goal.returns-in-Ok-clause-names
returns-in-Ok-clause-names c =
    let empty : c.in-Ok.made.items ≡ [] = no_items c.in-Ok.made (sym c.is_empty.ensures ∙ c.if-is_empty.true) in
    named_as c.names.result (ap (λ (files : FileMap). keys files) (sym (none_made c.args.self.now c.in-Ok.made.items c.in-Ok.ensures.names empty)))
    c.names.ensures
