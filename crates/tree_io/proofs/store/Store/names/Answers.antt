use Rattle.std.proofs.Common.{◌++◌, ◌∷◌, [], List, ℕ, map, cond, sym, ap, subst, ◌∙◌, arith, length, string_bytes, append-nil}
use Rattle.std.proofs.lemmas.List.{map-append, take_all}
use Rattle.std.specs.List.Sorted.{IsPermutation}
use Rattle.std.specs.Ordering.{nat_cmp}
use Rattle.std.specs.Cmp.Lexicographic.{slice_cmp}
use Rattle.std.specs.FinMap.{keys, from_entries}
use Rattle.tree_io.specs.Slots.{files_in}
use Rattle.tree_io.proofs.Slots.{names_in, names_step, keys_listed}
use Rattle.tree_io.proofs.store.Store.names.Goals as goal
use Rattle.tree_io.proofs.store.Store.names.Goals.{then-slot+in_ok-from_str+in_ok-push, else-slot}

pub loop-slot-preserved : goal.loop-slot-preserved
loop-slot-preserved c =
    let slot = c.slot-item.result in
    let before : List (List ℕ) = map string_bytes c.loop-slot.names.items in
    names_step c.args.self.now.slots.items c.deref-slot-items.result.now c.loop-slot.slot-index slot before (map string_bytes c.if-slot.names.items)
    c.deref-slot-items.ensures.value c.loop-slot-test.true c.slot-item.is c.loop-slot.invariant
    (elim c.if-slot.branch [
      | then-slot+in_ok-from_str+in_ok-push w ↦
          ap (λ v. map string_bytes v.items) w.names-is
          ∙ ap (map string_bytes) w.in_ok-push.ensures.items
          ∙ map-append string_bytes c.loop-slot.names.items _
          ∙ (λ i. before ++ ((w.in_ok-from_str.ensures.ok ∙ w.as_str.ensures) i ∷ []))
          ∙ ap (λ b. before ++ cond b (slot.name ∷ []) []) (sym w.if-slot.true)
      | else-slot w ↦
          ap (λ v. map string_bytes v.items) w.names-is
          ∙ sym (append-nil before)
          ∙ ap (λ b. before ++ cond b (slot.name ∷ []) []) (sym w.if-slot.false)
    ])

pub returns : goal.returns
returns c =
    let slots = c.args.self.now.slots.items in
    let all = take_all c.loop-slot.slot-index slots (omega (arith, ap length c.deref-slot-items.ensures.value)) in
    subst (λ names. IsPermutation (keys (from_entries {R = slice_cmp nat_cmp} (files_in slots))) names)
    (sym (c.loop-slot.invariant ∙ ap names_in all)) (keys_listed slots c.args.self.now.distinct)
