use Rattle.std.proofs.Common.{codes}
use Rattle.sample_project.specs.Sample.{sample_target}
use Rattle.sample_project.specs.Sources.{sample_files}
use Rattle.sample_project.proofs.Back.{same_done, same_refused, done_is_undone, sample_is_undone}
use Rattle.sample_project.proofs.there_and_back.rename_sample.Goals as goal

pub returns-clause-done : goal.returns-clause-done
returns-clause-done c =
    same_done c.args.files.now (sample_files c.args.units) c.in_ok-target.target sample_target (codes "renamed") c.rename.result c.requires
    c.in_ok-target.ensures c.rename.ensures.done

pub returns-clause-undone : goal.returns-clause-undone
returns-clause-undone c =
    sample_is_undone c.renamings_are_undone.ensures c.undos_have_places.ensures c.args.units c.args.files.now c.in_ok-target.target
    (codes "renamed") c.rename.result c.requires
    c.rename.ensures.done

pub returns-clause-back : goal.returns-clause-back
returns-clause-back c =
    done_is_undone c.renamings_are_undone.ensures c.undos_have_places.ensures c.args.units c.args.files.now c.in_ok-target.target
    (codes "renamed") c.rename.result c.requires
    c.rename.ensures.done

pub returns-clause-refused : goal.returns-clause-refused
returns-clause-refused c =
    same_refused c.args.files.now (sample_files c.args.units) c.in_ok-target.target sample_target (codes "renamed") c.rename.result c.requires
    c.in_ok-target.ensures
    c.rename.ensures.refused
