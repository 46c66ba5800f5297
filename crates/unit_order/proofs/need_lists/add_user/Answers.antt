use Rattle.std.proofs.Common.{◌≡◌, ◌<◌, ℕ, [], ◌∷◌, ◌++◌, Vec, Global, get_or, length, map, set, ap, sym, ◌∙◌, arith, length-set}
use Rattle.std.proofs.lemmas.List.{map-set, get_or-map, length-map}
use Rattle.unit_order.specs.Needs.{times}
use Rattle.unit_order.proofs.Users.{user_added}
use Rattle.unit_order.proofs.need_lists.add_user.Goals as goal

pub loop-needed-preserved : goal.loop-needed-preserved
loop-needed-preserved c =
    let out = λ (list : Vec ℕ Global). list.items in
    let users = c.loop-needed.users in
    let k = c.loop-needed.needed-index in
    let needed = get_or c.args.needs.now k 0 in
    let within : needed < length users = omega (arith, c.requires k 0 c.loop-needed-test.true, c.loop-needed.invariant.size) in
    let pushed : map out (set users needed c.push.new.self) ≡ set (map out users) needed (get_or (map out users) needed [] ++ c.args.user ∷ []) =
    map-set out users needed c.push.new.self
    ∙ ap (set (map out users) needed)
    (c.in_ok-push.ensures.items ∙ ap (λ l. l ++ c.args.user ∷ []) (sym (get_or-map out users needed c.index-users-needed.result [] within))) in
    record {
      size = length-set users needed c.push.new.self ∙ c.loop-needed.invariant.size;
      each = λ i j.
          ap (λ lists. times lists j i) pushed
          ∙ user_added (map out c.args.users.now) (map out users) c.args.needs.now k c.args.user i j c.loop-needed-test.true
          (omega (arith, within, length-map users out)) (c.loop-needed.invariant.each i j);
    }
