use Rattle.std.proofs.Common.{◌≡◌, Bor, List, ℕ, true, is_some, sym, ap, ◌∙◌}
use Rattle.std.specs.FinMap.{get}
use Rattle.project_load.specs.Entries.{table_of}
use Rattle.project_load.proofs.ListLines.{map_some, taken_entry}
use Rattle.project_load.proofs.entries.new_entry.Goals as goal

pub returns-then-is_some-clause-none : goal.returns-then-is_some-clause-none
returns-then-is_some-clause-none c =
    let found : is_some (get (table_of c.args.entries.now) c.in_ok-source.source.now) ≡ true =
    ap is_some (sym c.file_of.ensures) ∙ map_some (λ (x : Bor (List ℕ)). x.now) c.file_of.result ∙ (sym c.is_some.ensures ∙ c.if-is_some.true)
    in
    taken_entry c.args.folder.now (table_of c.args.entries.now) c.args.line.now _ _ c.in_ok-source.ensures.entry found
