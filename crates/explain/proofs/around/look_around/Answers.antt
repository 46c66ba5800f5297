use Rattle.explain.proofs.Answered.{if_ok_both}
use Rattle.explain.proofs.Known.{unread_around}
use Rattle.explain.proofs.around.look_around.Goals as goal

pub returns-in-Err : goal.returns-in-Err
returns-in-Err c =
    if_ok_both c.nothing_unless_memory.result _ _ (λ m around e.
    unread_around c.args.files.now c.args.target.now c.in-Err.refusal around c.in-Err.ensures.refused m e)
    c.nothing_unless_memory.ensures.memory c.nothing_unless_memory.ensures.nothing
