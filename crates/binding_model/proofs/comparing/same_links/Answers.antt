use Rattle.std.proofs.lemmas.Slice.Eq.{slice_eq-Decides}
use Rattle.binding_model.proofs.Decided.{link_decided}
use Rattle.binding_model.proofs.comparing.same_links.Goals as goal

pub returns : goal.returns
returns c = slice_eq-Decides link_decided c.args.old.now c.args.new.now c.eq.result c.eq.ensures
