use Rattle.std.proofs.Common.{◌≡◌, ◌++◌, List, String, Global, map, string_bytes, sym, ap, ◌∙◌}
use Rattle.std.specs.BTreeMap.{keys}
use Rattle.std.proofs.lemmas.List.{append-nil}
use Rattle.open_documents.proofs.Gathered.{held_keys}
use Rattle.open_documents.proofs.documents.Documents.names.Goals as goal

pub returns : goal.returns
returns c =
    let all : map string_bytes c.loop-name.names.items ≡ map string_bytes (keys c.args.self.now.held) =
    sym (append-nil (map string_bytes c.loop-name.names.items))
    ∙ ap (λ (rest : List (String Global)). map string_bytes c.loop-name.names.items ++ map string_bytes rest) (sym c.in-None.ensures.steps.0)
    ∙ c.loop-name.invariant
    in
    all ∙ sym (held_keys c.args.self.now c.keys-name-items.ensures.ordered)
