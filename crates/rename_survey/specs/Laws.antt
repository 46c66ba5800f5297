-- The law of surveys (own).
use Rattle.std.specs.Prelude.{List}
use Rattle.rotor_base.specs.Files.{FileSet}
use Rattle.value_sites.specs.Each.{Each}
use Rattle.ml_trees.specs.Tree.{UnitTree}
use Rattle.binding_model.specs.Renaming.{IsBinder}
use Rattle.project_reading.specs.Reads.{Reads}
use Rattle.rename_survey.specs.declared.answer.Survey.{Survey}
use Rattle.rename_survey.specs.Survey.{IsSurvey}

-- Law: the binders that a survey lists are binders of the project that its files are read as
abbrev pub ListedAreBinders : Type 0
ListedAreBinders = (files : FileSet) (survey : Survey) (us : List UnitTree) → IsSurvey files survey → Reads files us
    → Each (λ b. IsBinder us b.at) survey.binders.items
