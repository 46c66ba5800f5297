use Rattle.std.proofs.Common.{refl}
use Rattle.ml_trees.specs.View.{view_project}
use Rattle.explain.proofs.Answered.{if_ok_both}
use Rattle.explain.proofs.Known.{named_declarations, nameless_declarations}
use Rattle.explain.proofs.around.declarations.Goals as goal

pub returns-in-Ok : goal.returns-in-Ok
returns-in-Ok c =
    named_declarations c.args.files.now c.args.target.now (view_project c.args.read.now.project) c.args.facts.now c.in-Ok.aim.place
    c.in_ok-footprint-in-Ok.field-0 c.in_ok-footprint-in-Ok.field-0.decls c.requires.facts c.in-Ok.ensures.aims
    c.in_ok-footprint-in-Ok.ensures.foot refl

pub returns : goal.returns
returns c =
    if_ok_both c.no_declarations.result _ _ (λ m decls e.
    nameless_declarations c.args.files.now c.args.target.now (view_project c.args.read.now.project) c.in-Err.refusal decls
    c.in-Err.ensures.refused m e) c.no_declarations.ensures.memory c.no_declarations.ensures.none
