use Rattle.std.proofs.Common.{List, ℕ, Some, option_map, string_bytes, sym, ap, ◌∙◌}
use Rattle.project_load.proofs.Tables.{table_get}
use Rattle.project_load.proofs.entries.Entries.file_of.Goals as goal

pub returns-in-None : goal.returns-in-None
returns-in-None c = sym (table_get c.args.self.now c.args.source.now ∙ ap (option_map string_bytes) (sym c.in-None.ensures.value))

pub returns-in-Some : goal.returns-in-Some
returns-in-Some c =
    ap (λ (v : List ℕ). Some v) c.as_str.ensures.value
    ∙ sym (table_get c.args.self.now c.args.source.now ∙ ap (option_map string_bytes) (sym c.in-Some.ensures.value))
