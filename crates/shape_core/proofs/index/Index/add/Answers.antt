use Rattle.std.proofs.Common.{◌∙◌, sym}
use Rattle.shape_core.proofs.Telling.{befores_more, befores_length, values_more}
use Rattle.shape_core.proofs.index.Index.add.Goals as goal

pub forget-requires : goal.forget-requires
forget-requires c =
    let h = c.requires.1 in (
      c.requires.0,
      c.in_ok-before.ensures.noted c.requires.0
          (befores_length c.args.self.now.befores c.requires.0 h.befores ∙ sym c.len-position.ensures) h.tables,
    )

pub returns-in-Ok-clause-added : goal.returns-in-Ok-clause-added
returns-in-Ok-clause-added c list h =
    let here = befores_length c.args.self.now.befores list h.befores ∙ sym c.len-position.ensures in
    record {
      tables = c.in_ok-before.ensures.noted list here h.tables;
      befores = befores_more _ _ list c.args.entry.now _ c.in-Ok.ensures.befores h.befores (c.in_ok-before.ensures.before list h.tables);
      values = values_more _ _ list c.args.entry.now _ c.in-Ok.ensures.values h.values here;
    }

pub returns-in-Err-clause-kept : goal.returns-in-Err-clause-kept
returns-in-Err-clause-kept c list h = record {
  tables = c.forget.ensures list
      (c.in_ok-before.ensures.noted list (befores_length c.args.self.now.befores list h.befores ∙ sym c.len-position.ensures) h.tables)
      (c.in_ok-before.ensures.before list h.tables);
  befores = c.in-Err.ensures.befores_kept ∙ h.befores;
  values = c.in-Err.ensures.values_kept ∙ h.values;
}
