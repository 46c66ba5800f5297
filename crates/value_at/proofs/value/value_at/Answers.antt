use Rattle.std.proofs.Common.{◌≡◌, ◌∙◌, List, ap, sym, subst}
use Rattle.rotor_base.specs.declared.place.Facts.{Facts}
use Rattle.rotor_base.specs.declared.place.Ref.{Ref}
use Rattle.ml_trees.specs.View.{view_project}
use Rattle.binding_model.specs.Facts.{facts}
use Rattle.binding_model.specs.Renaming.{IsBinder}
use Rattle.binding_model.specs.Renaming.{goal_at}
use Rattle.rename_parts.specs.Binders.{IsMarkAt}
use Rattle.value_at.specs.Value.{IsValueAt}
use Rattle.value_at.proofs.Uses.{no_binder}
use Rattle.value_at.proofs.value.value_at.Goals as goal

pub returns : goal.returns
returns c =
    let us = view_project c.args.project.now in
    let p = c.args.place in
    let not_bound : IsBinder us p → ⊥ = subst (IsMarkAt us p) c.in_default.is c.in_ok-_binder.ensures in
    let refs : c.as_slice.result.now ≡ (facts us).refs = c.as_slice.ensures ∙ ap (λ (f : Facts). f.refs) c.requires.facts in
    let found : goal_at (facts us).refs p ≡ c.goal_at.result = sym (c.goal_at.ensures ∙ ap (λ (rs : List Ref). goal_at rs p) refs) in
    subst (IsValueAt us p) (sym c.used_value.ensures) (no_binder us p c.goal_at.result c.requires.sound not_bound found)
