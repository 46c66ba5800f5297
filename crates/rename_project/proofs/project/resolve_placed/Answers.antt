use Rattle.std.proofs.Common.{◌≡◌, ap, sym, ◌∙◌, List}
use Rattle.rotor_base.specs.declared.place.Link.{Link}
use Rattle.rotor_base.specs.declared.place.Facts.{Facts}
use Rattle.ml_trees.specs.View.{view_project}
use Rattle.binding_model.specs.Facts.{facts, least, unmatched_items}
use Rattle.rename_model.specs.Project.{refusals_of_project}
use Rattle.rename_project.specs.Steps.{IsRefusedFor}
use Rattle.rename_project.proofs.Refusals.{stopped, unmatched_is}
use Rattle.rename_project.proofs.project.resolve_placed.Goals as goal

pub returns-in_err-check_links-clause-refused : goal.returns-in_err-check_links-clause-refused
returns-in_err-check_links-clause-refused c =
    let us = view_project c.args.project.now in
    let same : c.as_slice.result.now ≡ (facts us).links = c.as_slice.ensures ∙ ap (λ (fs : Facts). fs.links) c.in_ok-resolved.ensures.facts in
    let said = c.in_err-check_links.ensures.refused in
    stopped c.from_residual-in_err-check_links.result c.in_err-check_links.field-0.0 (IsRefusedFor (refusals_of_project us))
    c.from_residual-in_err-check_links.ensures
    (unmatched_is us c.in_err-check_links.field-0.0 c.in_ok-check_groups.ensures.passed c.in_ok-resolved.ensures.light
    (said.0, sym (ap (λ (ls : List Link). least (unmatched_items ls)) same) ∙ said.1, said.2))
