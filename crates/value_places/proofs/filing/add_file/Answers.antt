use Rattle.std.proofs.Common.{◌++◌, ◌∙◌, ap, filter, map, List}
use Rattle.rotor_base.specs.declared.place.Place.{Place}
use Rattle.ml_syntax.specs.declared.sites.Site.{Site}
use Rattle.ml_trees.specs.View.{view_file}
use Rattle.binding_model.specs.Scopes.{here}
use Rattle.value_places.proofs.FileSites.{file_binders}
use Rattle.value_places.proofs.filing.add_file.Goals as goal

pub returns-clause-binders : goal.returns-clause-binders
returns-clause-binders c =
    let number = c.number_of_file-number.result in
    let spots : List Site → List Place = λ xs. map (λ (x : Site). here number x.token) (filter (λ (x : Site). x.binds) xs) in
    c.in_ok-add_binders.ensures
    ∙ ap (λ (l : List Place). c.args.filed.now.binders.items ++ l)
    (ap spots c.deref.ensures.value ∙ file_binders (view_file c.args.tree.now) number c.in_ok-sites.sites.items c.number_of_file-number.ensures
    c.in_ok-sites.ensures)
