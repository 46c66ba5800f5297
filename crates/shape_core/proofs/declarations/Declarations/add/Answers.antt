use Rattle.std.proofs.Common.{◌∙◌, sym}
use Rattle.shape_core.proofs.Declaring.{kept_with, kept_without}
use Rattle.shape_core.proofs.declarations.Declarations.add.Goals as goal

pub returns-in_ok-insert-in-Some : goal.returns-in_ok-insert-in-Some
returns-in_ok-insert-in-Some c list position darks has =
    kept_with c.args.self.now (record { last_values = c.insert.new.self }) list c.args.entry.now c.in-Some.place
    (record { position = c.args.position; darks = c.args.darks }) (sym c.declaration_in.ensures ∙ c.in-Some.is) (sym position) (sym darks)
    c.in_ok-insert-in-Some.ensures.updates.0 has

pub returns-in-None : goal.returns-in-None
returns-in-None c list position darks has =
    kept_without c.args.self.now list c.args.entry.now (sym c.declaration_in.ensures ∙ c.in-None.is) has
