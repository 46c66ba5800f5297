use Rattle.std.proofs.Common.{◌+◌, ◌∙◌, ap, sym, arith, take}
use Rattle.shape_core.specs.Members.{spots_of}
use Rattle.shape_core.proofs.Noted.{noted_more}
use Rattle.shape_core.proofs.members.Members.note_next.Goals as goal

pub returns-clause-has : goal.returns-clause-has
returns-clause-has c =
    let m = c.args.self.now in
    let list = c.args.entries.now in
    let two = noted_more m.decls.items list m.noted m.darks c.add.new.self.darks c.index-entries-position.result m.spots.items
    c.add.new.self.spots.items c.requires.more c.index-entries-position.is c.requires.has.spots c.requires.has.darks
    c.in_ok-add.ensures.spots c.in_ok-add.ensures.darks in
    record {
      few = omega (arith, c.requires.more);
      spots = two.0 ∙ ap (λ v. spots_of v.items (take (m.noted + 1) list)) (sym c.in_ok-add.ensures.decls);
      darks = two.1;
    }
