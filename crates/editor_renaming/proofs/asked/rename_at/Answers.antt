use Rattle.std.proofs.Common.{refl, subst}
use Rattle.ml_trees.specs.View.{view_project}
use Rattle.value_at.specs.Value.{IsValueAt}
use Rattle.editor_renaming.specs.Asked.{IsAnswer, IsRenamedTo, renamed, no_value}
use Rattle.editor_renaming.proofs.Accepting.{if_ok_as}
use Rattle.editor_renaming.proofs.asked.rename_at.Goals as goal

pub returns-in-Value : goal.returns-in-Value
returns-in-Value c =
    let us = view_project c.args.read.now.project in
    let found = subst (IsValueAt us c.args.place) c.in-Value.is c.in_ok-found.ensures in
    if_ok_as c.rename_value.result (IsRenamedTo c.args.counting c.args.files.now c.in-Value.declaration c.args.name.now)
    (IsAnswer c.args.counting c.args.files.now us c.args.place c.args.name.now) (λ given is. renamed c.in-Value.declaration found is)
    c.rename_value.ensures

pub returns-in_default : goal.returns-in_default
returns-in_default c = no_value c.in_ok-found.found c.in_ok-found.ensures c.in_default.not-Value refl
