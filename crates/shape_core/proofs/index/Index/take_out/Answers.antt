use Rattle.std.proofs.Common.{◌∙◌, arith, length}
use Rattle.shape_core.specs.Node.{entries_of}
use Rattle.shape_core.specs.Shape.{values_from}
use Rattle.shape_core.proofs.Telling.{befores_less, some_before, values-split}
use Rattle.shape_core.proofs.index.Index.take_out.Goals as goal

pub returns-in-Some : goal.returns-in-Some
returns-in-Some c list h =
    let less = befores_less _ c.pop.new.self.items list c.args.entry.now c.in-Some.before c.in-Some.ensures.items h.befores in
    record {
      tables = c.forget.ensures list h.tables less.1;
      befores = less.0;
      values = c.take_value_out.ensures (values_from 0 (entries_of list)) (length list) (h.values ∙ values-split list c.args.entry.now);
    }

pub returns-in_default : goal.returns-in_default
returns-in_default c list h =
    let some = some_before c.args.self.now.befores list c.args.entry.now h.befores in
    let none = c.in_default.ensures.cases.0 in
    absurd (omega (arith, some, none))
