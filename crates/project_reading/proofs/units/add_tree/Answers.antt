use Rattle.std.proofs.Common.{◌≡◌, ap, sym, ◌∙◌, true, false, Some, None}
use Rattle.std.specs.Str.{bytes_eq}
use Rattle.ml_trees.specs.View.{view_file, view_unit}
use Rattle.unit_order.specs.Positions.{views}
use Rattle.project_reading.specs.Gathered.{with_part}
use Rattle.project_reading.proofs.Putting.{put_last, put_between, put_at, placed}
use Rattle.project_reading.proofs.units.add_tree.Goals as goal

pub returns-in_ok-push-in-None : goal.returns-in_ok-push-in-None
returns-in_ok-push-in-None c =
    let us = c.args.units.now.items in
    let name = c.args.name in
    let o = c.place_of.result in
    let place = placed name c.as_bytes.result.now us c.deref.result.now o None c.place_of.ensures c.as_bytes.ensures c.deref.ensures.value
    c.in-None.is in
    ap views c.in_ok-push-in-None.ensures.items
    ∙ put_last c.args.is_body name (view_file c.args.tree) us c.unit_with.result place c.unit_with.ensures

pub returns-then-eq : goal.returns-then-eq
returns-then-eq c =
    let us = c.args.units.now.items in
    let name = c.args.name in
    let at = c.in-Some.at in
    let o = c.place_of.result in
    let place = placed name c.as_bytes.result.now us c.deref.result.now o (Some at) c.place_of.ensures c.as_bytes.ensures c.deref.ensures.value
    c.in-Some.is in
    let named : bytes_eq c.index.result.now.name name ≡ true = cc in
    put_at c.args.is_body name (view_file c.args.tree) us at c.index.result.now c.index_mut.result.now c.set_part.new.unit place
    (ap (λ u. bytes_eq u.name name) (sym c.index.ensures) ∙ named)
    (c.set_part.ensures ∙ ap (λ u. with_part c.args.is_body (view_file c.args.tree) (view_unit u)) c.index_mut.ensures.value)

pub returns-in_ok-insert-in-Some : goal.returns-in_ok-insert-in-Some
returns-in_ok-insert-in-Some c =
    let us = c.args.units.now.items in
    let name = c.args.name in
    let at = c.in-Some.at in
    let o = c.place_of.result in
    let place = placed name c.as_bytes.result.now us c.deref.result.now o (Some at) c.place_of.ensures c.as_bytes.ensures c.deref.ensures.value
    c.in-Some.is in
    let named : bytes_eq c.index.result.now.name name ≡ false = cc in
    ap views c.in_ok-insert-in-Some.ensures.items
    ∙ put_between c.args.is_body name (view_file c.args.tree) us at c.index.result.now c.unit_with-else-eq.result place
    (ap (λ u. bytes_eq u.name name) (sym c.index.ensures) ∙ named)
    c.unit_with-else-eq.ensures
