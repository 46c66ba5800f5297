-- What a survey of files has (own).
use Rattle.std.specs.Prelude.{◌≡◌, List, Option, Some, None, Result, Ok, Err, map}
use Rattle.rotor_base.specs.declared.place.Place.{Place}
use Rattle.rotor_base.specs.declared.refusal.Refusal.{Refusal}
use Rattle.rotor_base.specs.Files.{FileSet}
use Rattle.value_sites.specs.Places.{Site}
use Rattle.value_sites.specs.Sound.{IsSound}
use Rattle.ml_trees.specs.Tree.{UnitTree}
use Rattle.ml_trees.specs.View.{view_project}
use Rattle.binding_model.specs.Facts.{facts, in_order}
use Rattle.binding_model.specs.Renaming.{places}
use Rattle.capture_check.specs.Fault.{IsMet, before}
use Rattle.rename_model.specs.Ladder.{no_more}
use Rattle.rename_model.specs.Project.{IsDuplicate, IsUnmatched}
use Rattle.value_places.specs.Binders.{binding}
use Rattle.rename_survey.specs.declared.answer.Binder.{Binder}
use Rattle.rename_survey.specs.declared.answer.Survey.{Survey}
use Rattle.rename_survey.specs.Resolved.{Resolves, Unresolved}

-- a place that binds, as a survey lists it
abbrev pub binder_of : Place × Site → Binder
binder_of e = record { at = e.0; name = e.1.name; operator = e.1.operator; pun = e.1.pun }

-- all places that bind, in their order
abbrev pub binders_of : List UnitTree → List Binder
binders_of us = in_order (λ b. b.at) (map binder_of (binding (places us)))

-- the refusals of a project that do not keep it from being surveyed, in their order (7 and 10)
abbrev pub bad_of : List UnitTree → Refusal → Type 0
bad_of us =
    before (IsDuplicate us)
    (before (IsUnmatched us)
    no_more)

-- the first of them, or none holds
abbrev pub IsFirstBad : List UnitTree → Option Refusal → Type 0
IsFirstBad us None = IsMet (bad_of us) → ⊥
IsFirstBad us (Some why) = bad_of us why

-- the survey of files
pub record IsSurvey (files : FileSet) (survey : Survey) : Type 0 where
  pub resolves : Resolves files (view_project survey.project)
  pub sound : IsSound (view_project survey.project)
  pub binders : survey.binders.items ≡ binders_of (view_project survey.project)
  pub facts : survey.facts ≡ facts (view_project survey.project)
  pub bad : IsFirstBad (view_project survey.project) survey.bad

-- `survey`: the survey, or the first refusal
abbrev pub Surveys : FileSet → Result Survey Refusal → Type 0
Surveys files (Ok survey) = IsSurvey files survey
Surveys files (Err why) = Unresolved files why
