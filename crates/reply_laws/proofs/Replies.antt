-- There is a reply.
use Rattle.std.proofs.Common.{ℕ, List, Bool, false, Some, None, refl}
use Rattle.rotor_base.specs.Files.{FileSet}
use Rattle.rotor_base.specs.declared.target.Target.{Target}
use Rattle.tree_io.specs.Outside.{FileMap}
use Rattle.cli_words.specs.declared.command.Command.TheVariants as command
use Rattle.answer_laws.proofs.Answered.{checks_are_answered, footprints_are_answered, renamings_are_answered}
use Rattle.command_replies.specs.declared.reply.Reply.{Reply}
use Rattle.command_replies.specs.declared.writing.Writing.{Writing}
use Rattle.command_replies.specs.Writing.{is_writing, writing_of}
use Rattle.command_replies.specs.Said.{Says, SaysBatch, SaysChecked, SaysFound, SaysPermitted, SaysRename, SaysRenaming, SaysShown, batch_in, usage_reply}
use Rattle.reply_laws.specs.Laws.{RepliesAreGiven}
use Rattle.reply_laws.proofs.Commands.{found_replied, loaded_replied, permitted_replied}
use Rattle.reply_laws.proofs.Listed.{recovery_replied, sample_replied, verify_replied}

rename_replied : (target : Target) (name : List ℕ) (writing : Writing) (json : Bool) (held : FileMap)
    → (reply : Reply) × SaysRename target name writing json held reply
rename_replied target name writing json held =
    loaded_replied json (λ (files : FileSet). SaysPermitted (is_writing writing) json held (SaysRenaming target name writing json files)) held
    (λ files. permitted_replied (is_writing writing) json held (SaysRenaming target name writing json files)
    (let a = renamings_are_answered files target name in (_, (a.0, a.1, refl))))

batch_replied : (file : List ℕ) (write : Bool) (held : FileMap) → (reply : Reply) × SaysBatch file write held reply
batch_replied file write held =
    loaded_replied false (λ (files : FileSet). SaysPermitted write false held (SaysFound file write (batch_in held file) files)) held (λ files.
    permitted_replied write false held (SaysFound file write (batch_in held file) files) (found_replied file write files (batch_in held file)))

pub replies_are_given : RepliesAreGiven
unfolding Says
replies_are_given None held = (usage_reply, refl)
replies_are_given (Some command.Check) held =
    loaded_replied false SaysChecked held (λ files. let a = checks_are_answered files in (_, (a.0, a.1, refl)))
replies_are_given (Some (command.Shape target)) held =
    loaded_replied false (SaysShown target) held (λ files. let a = footprints_are_answered files target in (_, (a.0, a.1, refl)))
replies_are_given (Some (command.Rename target name write safe json)) held = rename_replied target name (writing_of write safe) json held
replies_are_given (Some (command.Sample units)) held = sample_replied units
replies_are_given (Some (command.Verify old new)) held = verify_replied held old new
replies_are_given (Some (command.Batch file write)) held = batch_replied file write held
replies_are_given (Some command.Recover) held = recovery_replied held
