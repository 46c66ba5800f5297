use Rattle.std.proofs.Common.{◌∙◌, ap, sym, refl, ◌-◌, ◌<◌, slice_get, length, arith}
use Rattle.shape_core.specs.Shape as pure
use Rattle.shape_core.specs.Node.{entries_of}
use Rattle.shape_core.proofs.Shown.{last_get}
use Rattle.shape_core.proofs.Telling.{len_of, sees_none, sees_some, none_left, some_left}
use Rattle.shape_core.proofs.index.Tables.find_seen.Goals as goal

pub returns-in-None : goal.returns-in-None
returns-in-None c list t =
    sees_none (entries_of list) c.args.name.now _ (sym (t.vals c.args.name.now) ∙ sym c.get.ensures ∙ c.in-None.is) refl
    (c.copied.ensures ∙ c.last.ensures.value ∙ ap (λ l. slice_get l (length l - 1)) (c.deref.ensures.value ∙ t.darks)
    ∙ last_get (pure.darks (entries_of list)))
    (c.len.ensures ∙ len_of c.args.self.now.darks ∙ ap length t.darks)

pub returns-then-passed-eq0 : goal.returns-then-passed-eq0
returns-then-passed-eq0 c list t =
    let n = c.saturating_sub-passed.ensures
    ∙ ap (λ k. k - c.in-Some.spot.darks) (c.len-in-Some.ensures ∙ len_of c.args.self.now.darks ∙ ap length t.darks) in
    sees_some (entries_of list) c.args.name.now _ c.in-Some.spot (sym (t.vals c.args.name.now) ∙ sym c.get.ensures ∙ c.in-Some.is) refl
    (sym (none_left c.in-Some.spot.darks (pure.darks (entries_of list)) (sym n ∙ c.if-passed-eq0.true)))
    n

pub returns-else-passed-eq0 : goal.returns-else-passed-eq0
returns-else-passed-eq0 c list t =
    let n = c.saturating_sub-passed.ensures
    ∙ ap (λ k. k - c.in-Some.spot.darks) (c.len-in-Some.ensures ∙ len_of c.args.self.now.darks ∙ ap length t.darks) in
    let some : 0 < length (pure.darks (entries_of list)) - c.in-Some.spot.darks = omega (arith, n, c.if-passed-eq0.false) in
    sees_some (entries_of list) c.args.name.now _ c.in-Some.spot (sym (t.vals c.args.name.now) ∙ sym c.get.ensures ∙ c.in-Some.is) refl
    (c.copied-else-passed-eq0.ensures ∙ c.last-else-passed-eq0.ensures.value
    ∙ ap (λ l. slice_get l (length l - 1)) (c.deref-else-passed-eq0.ensures.value ∙ t.darks)
    ∙ sym (some_left c.in-Some.spot.darks (pure.darks (entries_of list)) some))
    n
