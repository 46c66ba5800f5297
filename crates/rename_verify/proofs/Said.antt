-- Each answer to a valid respelling is yes.
use Rattle.std.proofs.Common.{List, Ok, Err, subst}
use Rattle.ml_trees.specs.Tree.{UnitTree}
use Rattle.project_reading.proofs.OneReading.{one_project}
use Rattle.rename_verify.specs.declared.verdict.Verdict.TheVariants.{Yes, No}
use Rattle.rename_verify.specs.Laws.{ValidSaysYes}
use Rattle.rename_verify.specs.Verdict.{reasons}
use Rattle.rename_verify.proofs.Trimming.{valid_is_yes}
use Rattle.rename_verify.proofs.One.{accepted_or_not}

pub valid_says_yes : ValidSaysYes
valid_says_yes old new (Ok (Yes list)) p q v h = tt
valid_says_yes old new (Ok (No why)) p q v h =
    let yes = valid_is_yes old new v.project v.renaming p q v.accepts v.single v.valid v.respelled in
    let same = one_project old h.0 v.project h.1.reads v.accepts.reads in
    yes.none (why, subst (λ (us : List UnitTree). reasons us old new why) same h.2)
valid_says_yes old new (Err why) p q v h = accepted_or_not old v.project why v.accepts h
