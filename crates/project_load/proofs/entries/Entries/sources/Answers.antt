use Rattle.std.proofs.Common.{◌≡◌, ◌++◌, List, String, Global, map, string_bytes, sym, ap, ◌∙◌}
use Rattle.std.specs.BTreeMap.{keys}
use Rattle.std.proofs.lemmas.List.{append-nil}
use Rattle.project_load.proofs.Tables.{table_keys}
use Rattle.project_load.proofs.entries.Entries.sources.Goals as goal

pub returns : goal.returns
returns c =
    let all : map string_bytes c.loop-source.sources.items ≡ map string_bytes (keys c.args.self.now.files) =
    sym (append-nil (map string_bytes c.loop-source.sources.items))
    ∙ ap (λ (rest : List (String Global)). map string_bytes c.loop-source.sources.items ++ map string_bytes rest) (sym c.in-None.ensures.steps.0)
    ∙ c.loop-source.invariant
    in
    all ∙ sym (table_keys c.args.self.now c.keys-source-items.ensures.ordered)
