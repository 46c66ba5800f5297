use Rattle.std.proofs.Common.{◌≡◌, ◌∙◌, List, Err, ap, subst}
use Rattle.rotor_base.specs.declared.source.SourceFile.{SourceFile}
use Rattle.rotor_base.specs.declared.target.Target.{Target}
use Rattle.ml_trees.specs.View.{view_project}
use Rattle.rename_files.specs.Answer.{Renames}
use Rattle.rename_project.specs.Steps.{IsRefusedFor}
use Rattle.editor_renaming.specs.Asked.{target_of}
use Rattle.editor_renaming.proofs.Accepting.{facts_of_each}
use Rattle.editor_renaming.proofs.asked.rename_value.Goals as goal

pub accepted_edits-requires-clause-facts : goal.accepted_edits-requires-clause-facts
accepted_edits-requires-clause-facts c =
    facts_of_each c.args.files.now c.args.resolved.now.facts (view_project c.args.read.now.project) c.requires.reads c.requires.facts

pub returns-in-Err : goal.returns-in-Err
returns-in-Err c =
    let files = c.args.files.now in
    let there : c.in_ok-target.target ≡ target_of files.entries c.args.declaration
    = c.in_ok-target.ensures ∙ ap (λ (l : List SourceFile). target_of l c.args.declaration) c.entries.ensures.entries in
    let P : Target → Type 0 = λ t. IsRefusedFor (λ w. Renames files t c.args.name.now (Err w)) c.in-Err.why in
    subst P there c.in-Err.ensures.refused
