use Rattle.editor_renaming.proofs.Accepting.{is_done}
use Rattle.editor_renaming.proofs.accepted.accepted_edits.Goals as goal

pub edits_of-requires : goal.edits_of-requires
edits_of-requires c =
    is_done c.args.files.now c.args.facts.now c.args.target.now c.args.done.now c.entries-sources.ensures.project c.requires.facts c.requires.renames
