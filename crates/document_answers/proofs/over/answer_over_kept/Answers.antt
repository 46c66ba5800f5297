use Rattle.std.proofs.Common.{◌<◌, Some, length, string_bytes, subst, sym, ◌≡◌}
use Rattle.rotor_base.specs.Files.{FileSet}
use Rattle.rename_model.specs.Target.{number_of}
use Rattle.document_answers.specs.Asked.{RepliesTo}
use Rattle.document_answers.proofs.over.answer_over_kept.Goals as goal

pub answer_over_project-requires-clause-number : goal.answer_over_project-requires-clause-number
answer_over_project-requires-clause-number c =
    subst (λ (f : FileSet). number_of f.entries (string_bytes c.args.asked.file.now.name) ≡ Some c.args.number) (sym c.into_parts-files.ensures.files)
    c.requires.number

pub answer_over_project-requires-clause-within : goal.answer_over_project-requires-clause-within
answer_over_project-requires-clause-within c =
    subst (λ (f : FileSet). c.args.number < length f.entries) (sym c.into_parts-files.ensures.files) c.requires.within

pub returns-clause-reply : goal.returns-clause-reply
returns-clause-reply c =
    subst (λ (f : FileSet). RepliesTo c.args.asked f c.in_ok-project.reply) c.into_parts-files.ensures.files c.in_ok-project.ensures.reply
