use Rattle.std.specs.Prelude.{option_copied}
use Rattle.shape_core.specs.Parts.{opened_list}
use Rattle.shape_core.proofs.Both.{mod_later, mod_earlier}
use Rattle.shape_core.proofs.part.Part.module.Goals as goal

pub returns-in-Some : goal.returns-in-Some
returns-in-Some c =
    let p = c.args.self.now in mod_later p.own (opened_list p.opened) c.args.name.now c.in-Some.shape.now c.in-Some.ensures

pub returns-in-None : goal.returns-in-None
returns-in-None c =
    let p = c.args.self.now in
    mod_earlier p.own (opened_list p.opened) c.args.name.now (option_copied c.module-in-None.result) c.in-None.ensures
    c.module-in-None.ensures
