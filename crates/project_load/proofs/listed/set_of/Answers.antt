use Rattle.std.proofs.Common.{◌∷◌, [], ℕ, List, map, string_bytes, sym, ap, ◌∙◌}
use Rattle.std.specs.List.{list_any}
use Rattle.std.specs.Str.{bytes_eq}
use Rattle.std.specs.BTreeSet.{contains_text}
use Rattle.std.proofs.lemmas.List.{map-append}
use Rattle.std.proofs.lemmas.Map.Text.{btree_set_updates_text}
use Rattle.project_load.proofs.ListLoads.{set_more}
use Rattle.project_load.proofs.listed.set_of.Goals as goal

pub loop-name-preserved : goal.loop-name-preserved
loop-name-preserved c = λ name.
    let new : List ℕ = string_bytes c.in-Some.name in
    let old : List (List ℕ) = map string_bytes c.loop-name.yielded in
    set_more new name old (contains_text c.loop-name.folder name) (contains_text c.insert.new.self name) (c.loop-name.invariant name)
    (btree_set_updates_text new c.loop-name.folder c.insert.new.self _ c.in_ok-insert.ensures.updates name)
    ∙ ap (list_any (bytes_eq name)) (sym (map-append string_bytes c.loop-name.yielded (c.in-Some.name ∷ [])))
