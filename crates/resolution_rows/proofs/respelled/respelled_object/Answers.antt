use Rattle.std.proofs.Common.{ap, map, sym, subst, List, ◌∙◌}
use Rattle.rotor_base.specs.declared.place.Place.{Place}
use Rattle.value_sites.specs.Each.{Each}
use Rattle.shape_core.specs.Shape.{Name}
use Rattle.binding_model.specs.Renaming.{IsBinder}
use Rattle.rename_survey.specs.declared.answer.Binder.{Binder}
use Rattle.resolution_rows.proofs.Named.{named}
use Rattle.resolution_rows.proofs.respelled.respelled_object.Goals as goal

pub respell-requires : goal.respell-requires
respell-requires c = record {
  binders = λ us reads.
      subst (Each (λ (e : Place × Name). IsBinder us e.0)) (sym c.deref-2.ensures.value)
      (named (λ (p : Place). IsBinder us p) c.in_ok-survey.survey.binders.items c.in_ok-map.map.items
      (c.in_ok-map.ensures ∙ ap (λ (bs : List Binder). map (λ (b : Binder). b.at) bs) c.deref.ensures.value)
      (c.listed_are_binders.ensures c.args.files.now c.in_ok-survey.survey us c.in_ok-survey.ensures.surveyed reads));
}
