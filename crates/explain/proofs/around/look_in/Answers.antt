use Rattle.ml_trees.specs.View.{view_project}
use Rattle.explain.proofs.Answered.{if_ok_both, if_ok_more}
use Rattle.explain.proofs.Known.{heavy_around, known_around}
use Rattle.explain.proofs.around.look_in.Goals as goal

pub returns-in-Ok : goal.returns-in-Ok
returns-in-Ok c =
    if_ok_more c.look_among.result _ _ (λ around h.
    known_around c.args.files.now c.args.target.now (view_project c.args.read.now.project) around h) c.look_among.ensures

pub returns-in-Err : goal.returns-in-Err
returns-in-Err c =
    if_ok_both c.nothing_unless_memory.result _ _ (λ m around e.
    heavy_around c.args.files.now c.args.target.now (view_project c.args.read.now.project) c.in-Err.refusal around c.requires.reads
    c.in-Err.ensures.refused m e) c.nothing_unless_memory.ensures.memory c.nothing_unless_memory.ensures.nothing
