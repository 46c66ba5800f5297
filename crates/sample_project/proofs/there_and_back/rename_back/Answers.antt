use Rattle.sample_project.proofs.Back.{given_back_by}
use Rattle.sample_project.proofs.there_and_back.rename_back.Goals as goal

pub returns-in-Ok : goal.returns-in-Ok
returns-in-Ok c =
    given_back_by c.answers_are_one.ensures.renaming c.args.files.now c.args.done.now c.in-Ok.back c.in_ok-undo.undo c.as_bytes.result.now
    c.entries.result.now
    c.in_ok-undo.ensures c.entries.ensures.entries c.as_bytes.ensures c.requires c.in-Ok.ensures.done
