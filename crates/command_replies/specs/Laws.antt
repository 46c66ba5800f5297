-- The laws of the crates below that the contract of the top call rests on, and the law of replies
-- (own).
use Rattle.std.specs.Prelude.{◌≡◌, Option}
use Rattle.tree_io.specs.Outside.{FileMap}
use Rattle.cli_words.specs.declared.command.Command.{Command}
use Rattle.project_load.specs.Listed.{ListsAreOne}
use Rattle.project_load.specs.Rewritten.{LoadedFilesAreAProject, NewSourcesAreLoaded, OldSourcesAreRestored}
use Rattle.cli_words.specs.Laws.{UndosAreRead}
use Rattle.rename_laws.specs.Laws.{ChangesAreListed, RenamingsRewrite, RenamingsAreUndone, RenamingsAreValid, UndosHavePlaces, RenamingsKeepFacts}
use Rattle.rename_laws.specs.Laws.{RenamingsKeepRuns, FootprintsAreLeast, ShownAreLeast, ShownOutsideIsKept}
use Rattle.rename_batch.specs.Laws.{BatchesRewrite, BatchesAreUndone, BatchesKeepRuns, UndosAreRead as BatchUndosAreRead}
use Rattle.rename_verify.specs.Laws.{ValidSaysYes, YesIsValid, YesKeepsRuns}
use Rattle.command_replies.specs.declared.reply.Reply.{Reply}
use Rattle.command_replies.specs.Said.{Says}

pub record HasLaws : Type 0 where
  pub project : LoadedFilesAreAProject
  pub loaded_new : NewSourcesAreLoaded
  pub old_back : OldSourcesAreRestored
  pub undos : UndosAreRead
  pub rewrite : RenamingsRewrite
  pub undone : RenamingsAreUndone
  pub places : UndosHavePlaces
  pub valid : RenamingsAreValid
  pub facts : RenamingsKeepFacts
  pub runs : RenamingsKeepRuns
  pub least : FootprintsAreLeast
  pub shown_least : ShownAreLeast
  pub shown_kept : ShownOutsideIsKept
  pub changes : ChangesAreListed
  pub batch_sources : BatchesRewrite
  pub batch_undone : BatchesAreUndone
  pub batch_asked : BatchUndosAreRead
  pub batch_runs : BatchesKeepRuns
  pub verified : YesIsValid
  pub verified_runs : YesKeepsRuns
  pub verified_all : ValidSaysYes
  pub lists : ListsAreOne

-- Law: a command over a folder has at most one reply
abbrev pub RepliesAreOne : Type 0
RepliesAreOne = (request : Option Command) (held : FileMap) (one other : Reply) → Says request held one → Says request held other → one ≡ other
