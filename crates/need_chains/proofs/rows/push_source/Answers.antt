use Rattle.std.proofs.Common.{◌≡◌, ◌||◌, ℕ, List, Some, Vec, Global, get_or, map, [], ap, sym, ◌∙◌, arith}
use Rattle.std.proofs.lemmas.List.{get_or-map, length-map, map-set}
use Rattle.std.specs.List.{list_any}
use Rattle.name_tables.specs.Names.{at}
use Rattle.need_chains.specs.Rows.{hits, is_hit, row_at}
use Rattle.need_chains.proofs.Rowing.{source_pushed}
use Rattle.need_chains.proofs.rows.push_source.Goals as goal

pub returns-in_ok-push_needs-clause-row : goal.returns-in_ok-push_needs-clause-row
returns-in_ok-push_needs-clause-row c sources are size one u n number =
    let out = λ (row : Vec ℕ Global). row.items in
    let places = c.args.places.now in
    let unit = c.args.source.now.unit in
    let user = c.in-Some.user in
    let rows = c.args.rows.now in
    let there : at places unit ≡ Some user = ap (at places) (sym c.as_bytes-unit.ensures) ∙ sym c.get.ensures ∙ c.in-Some.is in
    let old : get_or (map out rows) user [] ≡ (get_or rows user c.index-rows-user.result).items
    = get_or-map out rows user c.index-rows-user.result [] c.if-user-rows.true in
    ap (λ (l : List (List ℕ)). hits sources n number (row_at l (at places u))) (map-set out rows user c.push_needs.new.row)
    ∙ source_pushed places sources unit (map out rows) user c.push_needs.new.row.items c.args.source.now.heads are there
    (omega (arith, c.if-user-rows.true, length-map rows out)) (λ m number'.
    c.in_ok-push_needs.ensures sources are m number'
    ∙ ap (λ (l : List ℕ). hits sources m number' l || list_any (is_hit sources c.as_bytes-unit.result.now m number') c.as_slice.result.now) (sym old)
    ∙ ap (λ (l : List ℕ). hits sources m number' (get_or (map out rows) user []) || list_any (is_hit sources l m number') c.as_slice.result.now)
    c.as_bytes-unit.ensures
    ∙ ap (λ (l : List (List ℕ)). hits sources m number' (get_or (map out rows) user []) || list_any (is_hit sources unit m number') l)
    c.as_slice.ensures) u n number

pub returns-else-user-rows-clause-row : goal.returns-else-user-rows-clause-row
returns-else-user-rows-clause-row c sources are size one u n number =
    let there : at c.args.places.now c.as_bytes-unit.result.now ≡ Some c.in-Some.user = sym c.get.ensures ∙ c.in-Some.is in
    absurd (omega (arith, (are.name c.as_bytes-unit.result.now c.in-Some.user there).0, size, c.if-user-rows.false))
