use Rattle.std.proofs.Common.{◌≡◌, ◌∙◌, Err, ap, subst, sym}
use Rattle.rotor_base.specs.declared.target.Target.{Target}
use Rattle.rename_files.specs.Answer.{Renames}
use Rattle.editor_renaming.specs.Asked.{target_of}
use Rattle.query_failures.specs.Renaming.{IsRenamingFailure}
use Rattle.document_answers.proofs.Declaring.{is_met}
use Rattle.document_answers.proofs.renaming.refused_renaming.Goals as goal

pub returns-clause-refused : goal.returns-clause-refused
returns-clause-refused c =
    is_met (λ w. Renames c.args.files.now (target_of c.args.files.now.entries c.args.declared) c.args.name.now (Err w)) c.args.why.now c.requires
    (sym c.is_memory.ensures ∙ c.if-is_memory.false)

pub returns-clause-reply : goal.returns-clause-reply
returns-clause-reply c =
    let same : c.in_ok-target.target ≡ target_of c.args.files.now.entries c.args.declared
    = c.in_ok-target.ensures ∙ ap (λ s. target_of s c.args.declared) c.entries.ensures.entries in
    subst (λ (t : Target). IsRenamingFailure c.args.files.now t c.args.name.now c.args.why.now c.in_ok-renaming_failure.field-0) same
    c.in_ok-renaming_failure.ensures
