use Rattle.std.proofs.Common.{◌∙◌, ap, subst, map, string_bytes, List, ℕ, Ok, Err, IfErr}
use Rattle.rotor_base.specs.Files.{names_of}
use Rattle.rename_files.specs.Answer.{Renames}
use Rattle.rename_project.specs.Steps.{IsRefusedFor}
use Rattle.command_replies.specs.Said.{renaming_reply}
use Rattle.command_replies.proofs.Saying.{answer_made, refusal_made}
use Rattle.command_replies.proofs.rename.renaming_reply.Goals as goal

pub renamed_reply-requires : goal.renamed_reply-requires
renamed_reply-requires c =
    c.changes_are_listed.ensures c.args.files.now c.args.target.now c.as_bytes.result.now c.in-Ok.done c.entries.ensures.project c.in-Ok.ensures.done

pub returns-in-Ok : goal.returns-in-Ok
returns-in-Ok c =
    answer_made (Renames c.args.files.now c.args.target.now c.args.name.now) (renaming_reply c.args.writing c.args.as_json) _ _ c.in-Ok.done
    c.renamed_reply.result
    (ap (map string_bytes) c.deref.ensures.value ∙ c.in_ok-names.ensures ∙ ap names_of c.entries.ensures.entries)
    (subst (λ (name : List ℕ). Renames c.args.files.now c.args.target.now name (Ok c.in-Ok.done)) c.as_bytes.ensures c.in-Ok.ensures.done)
    c.renamed_reply.ensures

pub returns : goal.returns
returns c =
    refusal_made (Renames c.args.files.now c.args.target.now c.args.name.now) (renaming_reply c.args.writing c.args.as_json) _ _ c.in-Err.refusal
    c.rename.result c.refused_reply.result
    (ap (map string_bytes) c.deref-in-Err.ensures.value ∙ c.in_ok-names.ensures ∙ ap names_of c.entries.ensures.entries) c.in-Err.is
    (subst (λ (name : List ℕ). IfErr c.rename.result (IsRefusedFor (λ why. Renames c.args.files.now c.args.target.now name (Err why))))
    c.as_bytes.ensures c.rename.ensures.refused)
    c.refused_reply.ensures.other c.refused_reply.ensures.reply
