use Rattle.std.proofs.Common.{◌≡◌, ◌∙◌, sym, ap, refl, subst, inl, inr, List, [], ◌++◌, Contains, ℕ, ◌-◌, take}
use Rattle.std.proofs.lemmas.List.{append-nil}
use Rattle.std.specs.Prelude.{Result, Ok, Err, IfOk}
use Rattle.std.specs.Vec.{vec_len}
use Rattle.std.specs.Global.{Vec}
use Rattle.rotor_base.specs.declared.place.Place.{Place}
use Rattle.dependency_kernel.specs.Foot.{Path}
use Rattle.rotor_base.proofs.Places.{listed, found_listed}
use Rattle.dependency_kernel.proofs.Table.{taken_has, taken_only}
use Rattle.dependency_kernel.proofs.Worklist.{Works, works_begin, works_on, all_taken, falls}
use Rattle.dependency_kernel.proofs.reached.find_reached.Goals as goal
use Rattle.dependency_kernel.proofs.reached.find_reached.Goals.{in-Some-remove+in_ok-extend_from_slice, in_default-remove}

-- the items of a vector
abbrev items : Vec Place → List Place
items list = list.items

-- what follows of an `Ok`
if_ok : {T E : Type 0} (P Q : T → Type 0) (r : Result T E) → ((x : T) → P x → Q x) → IfOk r P → IfOk r Q
if_ok P Q (Ok x) f h = f x h
if_ok P Q (Err e) f h = tt

-- a stack that gave no item has none
no_items : (before after : List Place) (n : ℕ) → before ≡ after ++ [] → after ≡ take (n - 1) before → n ≡ 0 → before ≡ []
no_items before after n was rest none = was ∙ (append-nil after ∙ (rest ∙ ap (λ (k : ℕ). take (k - 1) before) none))

pub loop-place-init : goal.loop-place-init
loop-place-init c =
    works_begin c.args.links.now c.args.d c.in_ok-neighbors.neighbors c.new-decls.result c.push.new.self.items c.new-todo.result.items
    c.new-decls.ensures.empty c.new-todo.ensures.items c.in_ok-push.ensures.items c.in_ok-neighbors.ensures.joined c.in_ok-neighbors.ensures.all

pub loop-place-smaller : goal.loop-place-smaller
loop-place-smaller c =
    elim c.match-remove.branch [
      | in-Some-remove+in_ok-extend_from_slice w ↦
          falls c.loop-place.neighbors c.remove.new.self c.in-Some.place c.remove.result c.loop-place.todo.items c.pop.new.self.items
          c.match-remove.todo.items w.in-Some-remove.next.items
          c.remove.ensures.entries c.remove.ensures.value (inl (w.in-Some-remove.next, w.in-Some-remove.is, refl)) c.in-Some.ensures.items
          (ap items w.todo-is ∙ (w.in_ok-extend_from_slice.ensures.items
          ∙ ap (λ (xs : List Place). c.pop.new.self.items ++ xs) w.deref.ensures.value))
      | in_default-remove w ↦
          falls c.loop-place.neighbors c.remove.new.self c.in-Some.place c.remove.result c.loop-place.todo.items c.pop.new.self.items
          c.match-remove.todo.items []
          c.remove.ensures.entries c.remove.ensures.value (inr (w.in_default-remove.is, refl)) c.in-Some.ensures.items
          (ap items w.todo-is ∙ sym (append-nil c.pop.new.self.items))
    ]

pub loop-place-preserved : goal.loop-place-preserved
loop-place-preserved c =
    elim c.match-remove.branch [
      | in-Some-remove+in_ok-extend_from_slice w ↦
          works_on c.args.links.now c.args.d c.loop-place.neighbors c.remove.new.self c.loop-place.decls c.insert.new.self
          c.loop-place.todo.items c.pop.new.self.items c.match-remove.todo.items w.in-Some-remove.next.items c.in-Some.place c.in-Some.ensures.items
          (ap items w.todo-is ∙ (w.in_ok-extend_from_slice.ensures.items
          ∙ ap (λ (xs : List Place). c.pop.new.self.items ++ xs) w.deref.ensures.value))
          c.remove.ensures.updates.0
          (taken_has c.loop-place.neighbors c.in-Some.place c.remove.result w.in-Some-remove.next.items c.remove.ensures.value
          (inl (w.in-Some-remove.next, w.in-Some-remove.is, refl)))
          (taken_only c.loop-place.neighbors c.in-Some.place c.remove.result w.in-Some-remove.next.items c.remove.ensures.value
          (inl (w.in-Some-remove.next, w.in-Some-remove.is, refl)))
          c.in_ok-insert.ensures.updates.0 c.loop-place.invariant
      | in_default-remove w ↦
          works_on c.args.links.now c.args.d c.loop-place.neighbors c.remove.new.self c.loop-place.decls c.insert.new.self
          c.loop-place.todo.items c.pop.new.self.items c.match-remove.todo.items [] c.in-Some.place c.in-Some.ensures.items
          (ap items w.todo-is ∙ sym (append-nil c.pop.new.self.items))
          c.remove.ensures.updates.0
          (taken_has c.loop-place.neighbors c.in-Some.place c.remove.result [] c.remove.ensures.value (inr (w.in_default-remove.is, refl)))
          (taken_only c.loop-place.neighbors c.in-Some.place c.remove.result [] c.remove.ensures.value (inr (w.in_default-remove.is, refl)))
          c.in_ok-insert.ensures.updates.0 c.loop-place.invariant
    ]

pub returns-clause-reached : goal.returns-clause-reached
returns-clause-reached c =
    if_ok (λ (list : Vec Place). list.items ≡ c.loop-place.decls.keys)
    (λ (list : Vec Place). (p : Place) → Contains list.items p → Path c.args.links.now c.args.d p) c.list_in_order.result
    (λ list is p h. let P : List Place → Type 0 = λ ps. Contains ps p in
    c.loop-place.invariant.sound p (inl (found_listed c.loop-place.decls.keys p (subst P is h))))
    c.list_in_order.ensures.same

pub returns-clause-all : goal.returns-clause-all
returns-clause-all c =
    if_ok (λ (list : Vec Place). list.items ≡ c.loop-place.decls.keys)
    (λ (list : Vec Place). (p : Place) → Path c.args.links.now c.args.d p → Contains list.items p) c.list_in_order.result
    (λ list is p h. let P : List Place → Type 0 = λ ps. Contains ps p in
    subst P (sym is) (listed c.loop-place.decls.keys p (all_taken c.args.links.now c.args.d c.loop-place.neighbors c.loop-place.decls
    (let W : List Place → Type 0 = Works c.args.links.now c.args.d c.loop-place.neighbors c.loop-place.decls in
    subst W (no_items c.loop-place.todo.items c.pop.new.self.items (vec_len c.loop-place.todo) c.in_default.ensures.items c.in_default.ensures.rest
    c.in_default.ensures.cases.0) c.loop-place.invariant) p h)))
    c.list_in_order.ensures.same
