use Rattle.std.proofs.Common.{◌∙◌, List, ap}
use Rattle.rotor_base.specs.declared.place.Facts.{Facts}
use Rattle.rotor_base.specs.declared.place.Ref.{Ref}
use Rattle.rotor_base.specs.declared.place.Place.{Place}
use Rattle.value_sites.specs.Places.{Site}
use Rattle.value_places.specs.Placed.{name_in}
use Rattle.ml_trees.specs.View.{view_project}
use Rattle.binding_model.specs.Facts.{facts}
use Rattle.binding_model.specs.Renaming.{at_place, goal_at}
use Rattle.rename_respell.specs.Respelled.{changed, changed_from, mapped_words}
use Rattle.rename_respell.specs.Tables.{words_in}
use Rattle.rename_respell.proofs.Given.{bytes_same, ok_more, words_are}
use Rattle.rename_respell.proofs.calls.respell_read.Goals as goal

pub returns : goal.returns
returns c =
    let us = view_project c.args.read.now.project in
    let r = c.args.map.now in
    let names = c.in_ok-new_names.field-0 in
    let goals = c.in_ok-goal_table.field-0 in
    let words = words_are names goals (changed us r) (facts us).refs
    (λ p. c.in_ok-new_names.ensures p ∙ ap (λ (ls : List (Place × Site)). at_place (changed_from (name_in ls) r) p) c.requires.placed)
    (λ p. c.in_ok-goal_table.ensures p ∙ ap (λ (l : List Ref). goal_at l p) (c.as_slice.ensures ∙ ap (λ (fs : Facts). fs.refs) c.requires.facts)) in
    ok_more c.respell_all.result _ _ (λ sources h. bytes_same (words_in names goals) (mapped_words us r) words 0 c.args.files.now.entries _ h)
    c.respell_all.ensures
