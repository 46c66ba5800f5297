use Rattle.std.proofs.Common.{◌≡◌, ◌+◌, ℕ, Vec, Global, cond, count_by, length, map, nat_eq, take, ap, sym, ◌∙◌, arith}
use Rattle.std.proofs.lemmas.List.{length-map, with_items_is}
use Rattle.unit_order.specs.Needs.{times}
use Rattle.unit_order.proofs.Spread.{list_is}
use Rattle.unit_order.proofs.Users.{times_more}
use Rattle.unit_order.proofs.need_lists.user_lists.Goals as goal

pub loop-user-preserved : goal.loop-user-preserved
loop-user-preserved c =
    let out = λ (list : Vec ℕ Global). list.items in
    let users = c.loop-user.users in
    let later = c.add_user.new.users in
    let needs = map out c.args.needs.now in
    let user = c.loop-user.user in
    let size : length later ≡ length users.items = c.add_user.ensures.size ∙ ap length c.deref_mut.ensures.value in
    let list = list_is out c.args.needs.now user c.index-needs-user.result c.deref.result.now
    (omega (arith, c.loop-user-test.true)) c.index-needs-user.is c.deref.ensures.value in
    rw (with_items_is users later (size ∙ sym users.ok.0)) (record {
      size = size ∙ c.loop-user.invariant.size;
      turned = λ i j.
          c.in_ok-add_user.ensures.each i j
          ∙ ap (λ l. times (map out l) j i + cond (nat_eq i user) (count_by (nat_eq j) c.deref.result.now) 0) c.deref_mut.ensures.value
          ∙ ap (λ n. n + cond (nat_eq i user) (count_by (nat_eq j) c.deref.result.now) 0) (c.loop-user.invariant.turned i j)
          ∙ ap (λ l. times (take user needs) i j + cond (nat_eq i user) (count_by (nat_eq j) l) 0) list
          ∙ sym (times_more needs user i j (omega (arith, c.loop-user-test.true, length-map c.args.needs.now out)));
    })
