use Rattle.std.proofs.Common.{◌+◌, ◌∙◌, sym, refl, length-drop, arith}
use Rattle.std.proofs.lemmas.List.{take_all}
use Rattle.rotor_base.proofs.SpaceCuts.{if_none, is_cut, is_whole}
use Rattle.rotor_base.proofs.spaces.cut_space.Goals as goal

pub returns-in_err-at-clause-none : goal.returns-in_err-at-clause-none
returns-in_err-at-clause-none c = if_none c.from_residual.result _ (is_whole c.args.line.now (sym c.space_in.ensures ∙ c.in_err-at.was))

pub returns-clause-found : goal.returns-clause-found
returns-clause-found c = is_cut _ _ _ _ c.in_ok-at.ensures refl (take_all _ _ (omega (arith, length-drop (c.in_ok-at.at + 1) c.args.line.now)))
