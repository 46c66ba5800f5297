use Rattle.std.proofs.Common.{◌≡◌, ◌≤◌, ◌+◌, [], ◌∷◌, ◌++◌, append_assoc, drop, take, sym, ap, ◌∙◌, length, arith}
use Rattle.std.proofs.lemmas.List.{drop_more, drop_all}
use Rattle.ml_trees.specs.declared.module.Item.{Item}
use Rattle.ml_trees.specs.declared.module.SigItem.{SigItem}
use Rattle.ml_trees.specs.declared.module.ModArgument.{ModArgument}
use Rattle.ml_trees.specs.declared.module.FunctorParam.{FunctorParam}
use Rattle.ml_trees.specs.View.{view_mod, view_module_name, view_functor_param, view_item, view_sig_item, mod_arguments, functor_params, signature}
use Rattle.ml_trees.specs.View.{items, sig_items}
use Rattle.ml_trees.proofs.Variants.{at_item_module}
use Rattle.shape_core.specs.Shape.{◌⊕◌}
use Rattle.shape_core.specs.Node.{entries_of}
use Rattle.binding_model.specs.Scopes.{here, named, applied, mod_shape, params_in, param_in, adds, opens, entries, sig_adds, sig_opens, sig_entries}
use Rattle.binding_model.specs.Steps.{◌⨾◌}
use Rattle.binding_model.specs.Taken.{taken, Going}
use Rattle.binding_model.specs.Walk.{mod_steps, mod_arguments_steps, functor_steps, item_steps, items_steps, sig_items_steps}
use Rattle.binding_model.proofs.Takings.{heavy_stays}
use Rattle.name_resolve.specs.Opened.{brings_any}
use Rattle.name_resolve.proofs.Lemmas.{entries_appended, joined, joined_none}
use Rattle.expr_resolve.proofs.Fronts.{front_of_front}
use Rattle.expr_resolve.proofs.Forms.{passed}
use Rattle.module_entries.specs.Given.{functors_to, given_in, given_shape, given_shapes, optional_shape, optional_type_steps, seal_shape, site_steps}
use Rattle.module_entries.proofs.Parameters.{in_given, module_item, module_added}
use Rattle.mod_resolve.proofs.modules.+modules.Goals as goal

pub all_items-returns-in_err-added-clause-heavy : goal.all_items-returns-in_err-added-clause-heavy
all_items-returns-in_err-added-clause-heavy t c =
    let file = c.args.file in
    let rest = drop (c.loop-part.part-index + 1) c.args.list.now in
    let d = drop_more c.args.list.now c.loop-part.part-index c.part-item.result (omega (arith, c.loop-part-test.true))
    ∙ ap (λ (x : Item). x ∷ rest) (sym c.part-item.is) in
    let sc = entries_of c.loop-part.scope in
    let i = view_item c.part-item.result in
    let more = items_steps file (sc ⊕ adds file sc i ⊕ opens file sc i) (items rest) in
    passed c.from_residual.result c.in_err-added.field-0.0 c.args.found.now (items_steps file (entries_of c.args.scope.now) (items c.args.list.now))
    c.from_residual.ensures.0 c.from_residual.ensures.1
    (λ at h. sym c.loop-part.invariant.0 ∙ ap (λ l. taken (Going c.loop-part.found) (items_steps file sc (items l))) d
    ∙ ap (λ s. taken s more) (c.in_err-added.ensures.heavy at h) ∙ heavy_stays more at)

pub all_items-loop-part-preserved : goal.all_items-loop-part-preserved
all_items-loop-part-preserved t c =
    let file = c.args.file in
    let rest = drop (c.loop-part.part-index + 1) c.args.list.now in
    let d = drop_more c.args.list.now c.loop-part.part-index c.part-item.result (omega (arith, c.loop-part-test.true))
    ∙ ap (λ (x : Item). x ∷ rest) (sym c.part-item.is) in
    let sc = entries_of c.loop-part.scope in
    let i = view_item c.part-item.result in
    let A = adds file sc i in
    let O = opens file sc i in
    let a = c.deref.result.now in
    let b = c.in_ok-added.added.opened in
    let s1 = c.item.new.scope in
    let s2 = c.go_on_with.new.scope in
    let s3 = c.open_any.new.scope in
    let hA : entries_of a ≡ A = ap entries_of c.deref.ensures.value ∙ c.in_ok-added.ensures.shown in
    let hO : brings_any b ≡ O = c.in_ok-added.ensures.opened in
    let e : entries_of s3 ≡ sc ⊕ A ⊕ O =
    c.in_ok-open_any.ensures.added ∙ ap (λ x. x ⊕ brings_any b) c.in_ok-go_on_with.ensures.added
    ∙ ap (λ s. entries_of s ⊕ entries_of a ⊕ brings_any b) c.in_ok-added.ensures.scope
    ∙ ap (λ x. sc ⊕ x ⊕ brings_any b) hA ∙ ap (λ x. sc ⊕ A ⊕ x) hO in
    let M = entries_of c.loop-part.made.items in
    let m : entries_of c.append.new.made.items ≡ M ⊕ A =
    ap entries_of c.in_ok-append.ensures ∙ entries_appended c.loop-part.made.items c.in_ok-added.added.shown.items
    ∙ ap (λ x. M ⊕ x) c.in_ok-added.ensures.shown in
    let E = entries file (sc ⊕ A ⊕ O) (items rest) in
    let front = c.loop-part.invariant.2 in
    let long = c.loop-part.invariant.3 in
    let same = c.in_ok-added.ensures.scope in
    let first = c.in_ok-go_on_with.ensures.long in
    let second = c.in_ok-open_any.ensures.long in
    let less : length c.args.scope.now ≤ length s2 = omega (arith, long, first, ap length same) in (
      ap (λ x. taken (Going c.item.new.found) (items_steps file x (items rest))) e
          ∙ ap (λ k. taken k (items_steps file (sc ⊕ A ⊕ O) (items rest))) (sym c.in_ok-added.ensures.taken)
          ∙ sym (ap (λ l. taken (Going c.loop-part.found) (items_steps file sc (items l))) d) ∙ c.loop-part.invariant.0,
      ap (λ x. x ⊕ entries file (entries_of s3) (items rest)) m ∙ ap (λ x. (M ⊕ A) ⊕ entries file x (items rest)) e ∙ joined M A E
          ∙ sym (ap (λ l. M ⊕ entries file sc (items l)) d) ∙ c.loop-part.invariant.1,
      front_of_front c.args.scope.now s2 s3
          (front_of_front c.args.scope.now s1 s2 (ap (take (length c.args.scope.now)) same ∙ front)
          (omega (arith, long, ap length same)) c.in_ok-go_on_with.ensures.front)
          less c.in_ok-open_any.ensures.front,
      omega (arith, less, second),
    )

pub all_items-returns-clause-entries : goal.all_items-returns-clause-entries
all_items-returns-clause-entries t c =
    let M = entries_of c.loop-part.made.items in
    sym (joined_none M)
    ∙ sym (ap (λ l. M ⊕ entries c.args.file (entries_of c.loop-part.scope) (items l))
    (drop_all c.loop-part.part-index c.args.list.now (omega (arith, c.loop-part-test.false))))
    ∙ c.loop-part.invariant.1

pub all_sig_items-returns-in_err-added-clause-heavy : goal.all_sig_items-returns-in_err-added-clause-heavy
all_sig_items-returns-in_err-added-clause-heavy t c =
    let file = c.args.file in
    let rest = drop (c.loop-part.part-index + 1) c.args.list.now in
    let d = drop_more c.args.list.now c.loop-part.part-index c.part-item.result (omega (arith, c.loop-part-test.true))
    ∙ ap (λ (x : SigItem). x ∷ rest) (sym c.part-item.is) in
    let sc = entries_of c.loop-part.scope in
    let i = view_sig_item c.part-item.result in
    let more = sig_items_steps file (sc ⊕ sig_adds file sc i ⊕ sig_opens file sc i) (sig_items rest) in
    passed c.from_residual.result c.in_err-added.field-0.0 c.args.found.now
    (sig_items_steps file (entries_of c.args.scope.now) (sig_items c.args.list.now)) c.from_residual.ensures.0 c.from_residual.ensures.1
    (λ at h. sym c.loop-part.invariant.0 ∙ ap (λ l. taken (Going c.loop-part.found) (sig_items_steps file sc (sig_items l))) d
    ∙ ap (λ s. taken s more) (c.in_err-added.ensures.heavy at h) ∙ heavy_stays more at)

pub all_sig_items-loop-part-preserved : goal.all_sig_items-loop-part-preserved
all_sig_items-loop-part-preserved t c =
    let file = c.args.file in
    let rest = drop (c.loop-part.part-index + 1) c.args.list.now in
    let d = drop_more c.args.list.now c.loop-part.part-index c.part-item.result (omega (arith, c.loop-part-test.true))
    ∙ ap (λ (x : SigItem). x ∷ rest) (sym c.part-item.is) in
    let sc = entries_of c.loop-part.scope in
    let i = view_sig_item c.part-item.result in
    let A = sig_adds file sc i in
    let O = sig_opens file sc i in
    let a = c.deref.result.now in
    let b = c.in_ok-added.added.opened in
    let s1 = c.sig_item.new.scope in
    let s2 = c.go_on_with.new.scope in
    let s3 = c.open_any.new.scope in
    let hA : entries_of a ≡ A = ap entries_of c.deref.ensures.value ∙ c.in_ok-added.ensures.shown in
    let hO : brings_any b ≡ O = c.in_ok-added.ensures.opened in
    let e : entries_of s3 ≡ sc ⊕ A ⊕ O =
    c.in_ok-open_any.ensures.added ∙ ap (λ x. x ⊕ brings_any b) c.in_ok-go_on_with.ensures.added
    ∙ ap (λ s. entries_of s ⊕ entries_of a ⊕ brings_any b) c.in_ok-added.ensures.scope
    ∙ ap (λ x. sc ⊕ x ⊕ brings_any b) hA ∙ ap (λ x. sc ⊕ A ⊕ x) hO in
    let M = entries_of c.loop-part.made.items in
    let m : entries_of c.append.new.made.items ≡ M ⊕ A =
    ap entries_of c.in_ok-append.ensures ∙ entries_appended c.loop-part.made.items c.in_ok-added.added.shown.items
    ∙ ap (λ x. M ⊕ x) c.in_ok-added.ensures.shown in
    let E = sig_entries file (sc ⊕ A ⊕ O) (sig_items rest) in
    let front = c.loop-part.invariant.2 in
    let long = c.loop-part.invariant.3 in
    let same = c.in_ok-added.ensures.scope in
    let first = c.in_ok-go_on_with.ensures.long in
    let second = c.in_ok-open_any.ensures.long in
    let less : length c.args.scope.now ≤ length s2 = omega (arith, long, first, ap length same) in (
      ap (λ x. taken (Going c.sig_item.new.found) (sig_items_steps file x (sig_items rest))) e
          ∙ ap (λ k. taken k (sig_items_steps file (sc ⊕ A ⊕ O) (sig_items rest))) (sym c.in_ok-added.ensures.taken)
          ∙ sym (ap (λ l. taken (Going c.loop-part.found) (sig_items_steps file sc (sig_items l))) d) ∙ c.loop-part.invariant.0,
      ap (λ x. x ⊕ sig_entries file (entries_of s3) (sig_items rest)) m ∙ ap (λ x. (M ⊕ A) ⊕ sig_entries file x (sig_items rest)) e ∙ joined M A E
          ∙ sym (ap (λ l. M ⊕ sig_entries file sc (sig_items l)) d) ∙ c.loop-part.invariant.1,
      front_of_front c.args.scope.now s2 s3
          (front_of_front c.args.scope.now s1 s2 (ap (take (length c.args.scope.now)) same ∙ front)
          (omega (arith, long, ap length same)) c.in_ok-go_on_with.ensures.front)
          less c.in_ok-open_any.ensures.front,
      omega (arith, less, second),
    )

pub all_sig_items-returns-clause-entries : goal.all_sig_items-returns-clause-entries
all_sig_items-returns-clause-entries t c =
    let M = entries_of c.loop-part.made.items in
    sym (joined_none M)
    ∙ sym (ap (λ l. M ⊕ sig_entries c.args.file (entries_of c.loop-part.scope) (sig_items l))
    (drop_all c.loop-part.part-index c.args.list.now (omega (arith, c.loop-part-test.false))))
    ∙ c.loop-part.invariant.1

pub applications-returns-in_err-shape-clause-heavy : goal.applications-returns-in_err-shape-clause-heavy
applications-returns-in_err-shape-clause-heavy t c =
    let file = c.args.file in
    let rest = drop (c.loop-part.part-index + 1) c.args.list.now in
    let d = drop_more c.args.list.now c.loop-part.part-index c.part-item.result (omega (arith, c.loop-part-test.true))
    ∙ ap (λ (x : ModArgument). x ∷ rest) (sym c.part-item.is) in
    let sc = entries_of c.loop-part.scope in
    let f = c.loop-part.shape in
    let more = mod_arguments_steps file sc (applied f) (mod_arguments rest) in
    passed c.from_residual.result c.in_err-shape.field-0.0 c.args.found.now
    (mod_arguments_steps file (entries_of c.args.scope.now) c.args.function (mod_arguments c.args.list.now)) c.from_residual.ensures.0
    c.from_residual.ensures.1
    (λ at h. sym c.loop-part.invariant.0 ∙ ap (λ l. taken (Going c.loop-part.found) (mod_arguments_steps file sc f (mod_arguments l))) d
    ∙ ap (λ s. taken s more) (c.in_err-shape.ensures.heavy at h) ∙ heavy_stays more at)

pub functor_params-returns-in_err-shape-clause-heavy : goal.functor_params-returns-in_err-shape-clause-heavy
functor_params-returns-in_err-shape-clause-heavy t c =
    let file = c.args.file in
    let rest = drop (c.loop-part.part-index + 1) c.args.list.now in
    let d = drop_more c.args.list.now c.loop-part.part-index c.part-item.result (omega (arith, c.loop-part-test.true))
    ∙ ap (λ (x : FunctorParam). x ∷ rest) (sym c.part-item.is) in
    let sc = entries_of c.loop-part.scope in
    let p = view_functor_param c.part-item.result in
    let more = functor_steps file (sc ⊕ param_in file sc p) (functor_params rest) in
    passed c.from_residual.result c.in_err-shape.field-0.0 c.args.found.now
    (functor_steps file (entries_of c.args.scope.now) (functor_params c.args.list.now)) c.from_residual.ensures.0 c.from_residual.ensures.1
    (λ at h. sym c.loop-part.invariant.0 ∙ ap (λ l. taken (Going c.loop-part.found) (functor_steps file sc (functor_params l))) d
    ∙ ap (λ s. taken s more) (c.in_err-shape.ensures.heavy at h) ∙ heavy_stays more at)

pub functor_params-loop-part-preserved : goal.functor_params-loop-part-preserved
functor_params-loop-part-preserved t c =
    let file = c.args.file in
    let rest = drop (c.loop-part.part-index + 1) c.args.list.now in
    let d = drop_more c.args.list.now c.loop-part.part-index c.part-item.result (omega (arith, c.loop-part-test.true))
    ∙ ap (λ (x : FunctorParam). x ∷ rest) (sym c.part-item.is) in
    let sc = entries_of c.loop-part.scope in
    let p = view_functor_param c.part-item.result in
    let o = c.in_ok-shape.shape in
    let s1 = c.functor_param.new.scope in
    let s2 = c.go_on_with.new.scope in
    let b = c.deref.result.now in
    let G = c.loop-part.given.items in
    let N = sc ⊕ param_in file sc p in
    let k = given_shape file sc p in
    let ho : o ≡ k = c.in_ok-shape.ensures.given in
    let hb : entries_of b ≡ param_in file sc p = ap entries_of c.deref.ensures.value ∙ c.in_ok-entries.ensures ∙ ap (given_in p) ho
    ∙ in_given file sc p in
    let same = c.in_ok-shape.ensures.scope in
    let e : entries_of s2 ≡ N = c.in_ok-go_on_with.ensures.added ∙ ap (λ s. entries_of s ⊕ entries_of b) same ∙ ap (λ x. sc ⊕ x) hb in
    let front = c.loop-part.invariant.3 in
    let long = c.loop-part.invariant.4 in
    let more = c.in_ok-go_on_with.ensures.long in (
      ap (λ x. taken (Going c.functor_param.new.found) (functor_steps file x (functor_params rest))) e
          ∙ ap (λ j. taken j (functor_steps file N (functor_params rest))) (sym c.in_ok-shape.ensures.taken)
          ∙ sym (ap (λ l. taken (Going c.loop-part.found) (functor_steps file sc (functor_params l))) d) ∙ c.loop-part.invariant.0,
      ap (λ g. g ++ given_shapes file (entries_of s2) (functor_params rest)) c.in_ok-push.ensures.items
          ∙ ap (λ x. (G ++ o ∷ []) ++ given_shapes file x (functor_params rest)) e
          ∙ ap (λ j. (G ++ j ∷ []) ++ given_shapes file N (functor_params rest)) ho
          ∙ append_assoc G (k ∷ []) (given_shapes file N (functor_params rest))
          ∙ sym (ap (λ l. G ++ given_shapes file sc (functor_params l)) d) ∙ c.loop-part.invariant.1,
      ap (λ x. x ⊕ params_in file x (functor_params rest)) e ∙ joined sc (param_in file sc p) (params_in file N (functor_params rest))
          ∙ sym (ap (λ l. sc ⊕ params_in file sc (functor_params l)) d) ∙ c.loop-part.invariant.2,
      front_of_front c.args.scope.now s1 s2 (ap (take (length c.args.scope.now)) same ∙ front)
          (omega (arith, long, ap length same)) c.in_ok-go_on_with.ensures.front,
      omega (arith, long, more, ap length same),
    )

pub functor_params-returns-clause-grown : goal.functor_params-returns-clause-grown
functor_params-returns-clause-grown t c =
    let S = entries_of c.loop-part.scope in
    sym (joined_none S)
    ∙ sym (ap (λ l. S ⊕ params_in c.args.file S (functor_params l))
    (drop_all c.loop-part.part-index c.args.list.now (omega (arith, c.loop-part-test.false))))
    ∙ c.loop-part.invariant.2

pub item-returns-in_err-given-in-Module-clause-heavy : goal.item-returns-in_err-given-in-Module-clause-heavy
item-returns-in_err-given-in-Module-clause-heavy t c =
    let file = c.args.file in
    let sc = entries_of c.args.scope.now in
    let at = c.in-Module.at in
    let x = view_module_name c.in-Module.name in
    let ps = functor_params c.in-Module.params.items in
    let s = signature c.in-Module.signature in
    let m = view_mod c.in-Module.body in
    let P = sc ⊕ params_in file sc ps in
    let f0 = c.args.found.now in
    let A = functor_steps file sc ps in
    let B = optional_type_steps file P s in
    let C = mod_steps file P m in
    let G = given_shapes file sc ps in
    let M = mod_shape file P m in
    let T = optional_shape file P s in
    let D = site_steps (here file at) G M T in
    let read = c.deref-in-Module.ensures.value in
    let shape = ap view_item c.in-Module.is ∙ at_item_module at c.in-Module.name c.in-Module.params c.in-Module.signature c.in-Module.equals
    c.in-Module.body in
    let all = ap (λ i. taken (Going f0) (item_steps file sc i)) shape ∙ module_item (Going f0) file at sc x ps s c.in-Module.equals m in
    let pA = ap (λ l. functor_steps file sc (functor_params l)) read in
    let r = c.from_residual-in_err-given-in-Module in
    passed r.result c.in_err-given-in-Module.field-0.0 f0 (item_steps file sc (view_item c.args.part.now)) r.ensures.0 r.ensures.1
    (λ at' h. all ∙ ap (λ t. taken (taken (taken t B) C) D) (ap (taken (Going f0)) (sym pA) ∙ c.in_err-given-in-Module.ensures.heavy at' h)
    ∙ heavy_stays (B ⨾ C ⨾ D) at')

pub item-returns-in_err-target-in-Module-clause-heavy : goal.item-returns-in_err-target-in-Module-clause-heavy
item-returns-in_err-target-in-Module-clause-heavy t c =
    let file = c.args.file in
    let sc = entries_of c.args.scope.now in
    let at = c.in-Module.at in
    let x = view_module_name c.in-Module.name in
    let ps = functor_params c.in-Module.params.items in
    let s = signature c.in-Module.signature in
    let m = view_mod c.in-Module.body in
    let P = sc ⊕ params_in file sc ps in
    let f0 = c.args.found.now in
    let A = functor_steps file sc ps in
    let B = optional_type_steps file P s in
    let C = mod_steps file P m in
    let G = given_shapes file sc ps in
    let M = mod_shape file P m in
    let T = optional_shape file P s in
    let D = site_steps (here file at) G M T in
    let read = c.deref-in-Module.ensures.value in
    let shape = ap view_item c.in-Module.is ∙ at_item_module at c.in-Module.name c.in-Module.params c.in-Module.signature c.in-Module.equals
    c.in-Module.body in
    let all = ap (λ i. taken (Going f0) (item_steps file sc i)) shape ∙ module_item (Going f0) file at sc x ps s c.in-Module.equals m in
    let pA = ap (λ l. functor_steps file sc (functor_params l)) read in
    let f1 = c.functor_params.new.found in
    let h1 = ap (taken (Going f0)) (sym pA) ∙ c.in_ok-given-in-Module.ensures.taken in
    let eP : entries_of c.functor_params.new.scope ≡ P = c.in_ok-given-in-Module.ensures.grown
    ∙ ap (λ l. sc ⊕ params_in file sc (functor_params l)) read in
    let until1 = all ∙ ap (λ t. taken (taken (taken t B) C) D) h1 in
    let r = c.from_residual-in_err-target-in-Module in
    passed r.result c.in_err-target-in-Module.field-0.0 f0 (item_steps file sc (view_item c.args.part.now)) r.ensures.0 r.ensures.1
    (λ at' h. until1 ∙ ap (λ t. taken (taken t C) D)
    (ap (λ e. taken (Going f1) (optional_type_steps file e s)) (sym eP) ∙ c.in_err-target-in-Module.ensures.heavy at' h)
    ∙ heavy_stays (C ⨾ D) at')

pub item-returns-in_err-source-in-Module-clause-heavy : goal.item-returns-in_err-source-in-Module-clause-heavy
item-returns-in_err-source-in-Module-clause-heavy t c =
    let file = c.args.file in
    let sc = entries_of c.args.scope.now in
    let at = c.in-Module.at in
    let x = view_module_name c.in-Module.name in
    let ps = functor_params c.in-Module.params.items in
    let s = signature c.in-Module.signature in
    let m = view_mod c.in-Module.body in
    let P = sc ⊕ params_in file sc ps in
    let f0 = c.args.found.now in
    let A = functor_steps file sc ps in
    let B = optional_type_steps file P s in
    let C = mod_steps file P m in
    let G = given_shapes file sc ps in
    let M = mod_shape file P m in
    let T = optional_shape file P s in
    let D = site_steps (here file at) G M T in
    let read = c.deref-in-Module.ensures.value in
    let shape = ap view_item c.in-Module.is ∙ at_item_module at c.in-Module.name c.in-Module.params c.in-Module.signature c.in-Module.equals
    c.in-Module.body in
    let all = ap (λ i. taken (Going f0) (item_steps file sc i)) shape ∙ module_item (Going f0) file at sc x ps s c.in-Module.equals m in
    let pA = ap (λ l. functor_steps file sc (functor_params l)) read in
    let f1 = c.functor_params.new.found in
    let h1 = ap (taken (Going f0)) (sym pA) ∙ c.in_ok-given-in-Module.ensures.taken in
    let eP : entries_of c.functor_params.new.scope ≡ P = c.in_ok-given-in-Module.ensures.grown
    ∙ ap (λ l. sc ⊕ params_in file sc (functor_params l)) read in
    let until1 = all ∙ ap (λ t. taken (taken (taken t B) C) D) h1 in
    let f2 = c.optional_type.new.found in
    let h2 = ap (λ e. taken (Going f1) (optional_type_steps file e s)) (sym eP) ∙ c.in_ok-target-in-Module.ensures.taken in
    let eP2 : entries_of c.optional_type.new.scope ≡ P = ap entries_of c.in_ok-target-in-Module.ensures.scope ∙ eP in
    let until2 = until1 ∙ ap (λ t. taken (taken t C) D) h2 in
    let r = c.from_residual-in_err-source-in-Module in
    passed r.result c.in_err-source-in-Module.field-0.0 f0 (item_steps file sc (view_item c.args.part.now)) r.ensures.0 r.ensures.1
    (λ at' h. until2 ∙ ap (λ t. taken t D) (ap (λ e. taken (Going f2) (mod_steps file e m)) (sym eP2) ∙ c.in_err-source-in-Module.ensures.heavy at' h)
    ∙ heavy_stays D at')

pub item-returns-in_err-shape-in-Module-clause-heavy : goal.item-returns-in_err-shape-in-Module-clause-heavy
item-returns-in_err-shape-in-Module-clause-heavy t c =
    let file = c.args.file in
    let sc = entries_of c.args.scope.now in
    let at = c.in-Module.at in
    let x = view_module_name c.in-Module.name in
    let ps = functor_params c.in-Module.params.items in
    let s = signature c.in-Module.signature in
    let m = view_mod c.in-Module.body in
    let P = sc ⊕ params_in file sc ps in
    let f0 = c.args.found.now in
    let A = functor_steps file sc ps in
    let B = optional_type_steps file P s in
    let C = mod_steps file P m in
    let G = given_shapes file sc ps in
    let M = mod_shape file P m in
    let T = optional_shape file P s in
    let D = site_steps (here file at) G M T in
    let read = c.deref-in-Module.ensures.value in
    let shape = ap view_item c.in-Module.is ∙ at_item_module at c.in-Module.name c.in-Module.params c.in-Module.signature c.in-Module.equals
    c.in-Module.body in
    let all = ap (λ i. taken (Going f0) (item_steps file sc i)) shape ∙ module_item (Going f0) file at sc x ps s c.in-Module.equals m in
    let pA = ap (λ l. functor_steps file sc (functor_params l)) read in
    let f1 = c.functor_params.new.found in
    let h1 = ap (taken (Going f0)) (sym pA) ∙ c.in_ok-given-in-Module.ensures.taken in
    let eP : entries_of c.functor_params.new.scope ≡ P = c.in_ok-given-in-Module.ensures.grown
    ∙ ap (λ l. sc ⊕ params_in file sc (functor_params l)) read in
    let until1 = all ∙ ap (λ t. taken (taken (taken t B) C) D) h1 in
    let f2 = c.optional_type.new.found in
    let h2 = ap (λ e. taken (Going f1) (optional_type_steps file e s)) (sym eP) ∙ c.in_ok-target-in-Module.ensures.taken in
    let eP2 : entries_of c.optional_type.new.scope ≡ P = ap entries_of c.in_ok-target-in-Module.ensures.scope ∙ eP in
    let until2 = until1 ∙ ap (λ t. taken (taken t C) D) h2 in
    let f3 = c.module.new.found in
    let h3 = ap (λ e. taken (Going f2) (mod_steps file e m)) (sym eP2) ∙ c.in_ok-source-in-Module.ensures.taken in
    let until3 = until2 ∙ ap (λ t. taken t D) h3 in
    let g = c.in_ok-given-in-Module.given.items in
    let source = c.in_ok-source-in-Module.source in
    let target = c.in_ok-target-in-Module.target in
    let hg : g ≡ G = c.in_ok-given-in-Module.ensures.given ∙ ap (λ l. given_shapes file sc (functor_params l)) read in
    let hs : source ≡ M = c.in_ok-source-in-Module.ensures.shape ∙ ap (λ e. mod_shape file e m) eP2 in
    let ht : target ≡ T = c.in_ok-target-in-Module.ensures.shape ∙ ap (λ e. optional_shape file e s) eP in
    let pD = ap (λ k. site_steps (here file at) k source target) hg ∙ ap (λ k. site_steps (here file at) G k target) hs
    ∙ ap (site_steps (here file at) G M) ht in
    let r = c.from_residual-in_err-shape-in-Module in
    passed r.result c.in_err-shape-in-Module.field-0.0 f0 (item_steps file sc (view_item c.args.part.now)) r.ensures.0 r.ensures.1
    (λ at' h. until3 ∙ sym (ap (taken (Going f3)) pD) ∙ c.in_err-shape-in-Module.ensures.heavy at' h)

pub item-returns-in_ok-named_module-in-Module-clause-taken : goal.item-returns-in_ok-named_module-in-Module-clause-taken
item-returns-in_ok-named_module-in-Module-clause-taken t c =
    let file = c.args.file in
    let sc = entries_of c.args.scope.now in
    let at = c.in-Module.at in
    let x = view_module_name c.in-Module.name in
    let ps = functor_params c.in-Module.params.items in
    let s = signature c.in-Module.signature in
    let m = view_mod c.in-Module.body in
    let P = sc ⊕ params_in file sc ps in
    let f0 = c.args.found.now in
    let A = functor_steps file sc ps in
    let B = optional_type_steps file P s in
    let C = mod_steps file P m in
    let G = given_shapes file sc ps in
    let M = mod_shape file P m in
    let T = optional_shape file P s in
    let D = site_steps (here file at) G M T in
    let read = c.deref-in-Module.ensures.value in
    let shape = ap view_item c.in-Module.is ∙ at_item_module at c.in-Module.name c.in-Module.params c.in-Module.signature c.in-Module.equals
    c.in-Module.body in
    let all = ap (λ i. taken (Going f0) (item_steps file sc i)) shape ∙ module_item (Going f0) file at sc x ps s c.in-Module.equals m in
    let pA = ap (λ l. functor_steps file sc (functor_params l)) read in
    let f1 = c.functor_params.new.found in
    let h1 = ap (taken (Going f0)) (sym pA) ∙ c.in_ok-given-in-Module.ensures.taken in
    let eP : entries_of c.functor_params.new.scope ≡ P = c.in_ok-given-in-Module.ensures.grown
    ∙ ap (λ l. sc ⊕ params_in file sc (functor_params l)) read in
    let until1 = all ∙ ap (λ t. taken (taken (taken t B) C) D) h1 in
    let f2 = c.optional_type.new.found in
    let h2 = ap (λ e. taken (Going f1) (optional_type_steps file e s)) (sym eP) ∙ c.in_ok-target-in-Module.ensures.taken in
    let eP2 : entries_of c.optional_type.new.scope ≡ P = ap entries_of c.in_ok-target-in-Module.ensures.scope ∙ eP in
    let until2 = until1 ∙ ap (λ t. taken (taken t C) D) h2 in
    let f3 = c.module.new.found in
    let h3 = ap (λ e. taken (Going f2) (mod_steps file e m)) (sym eP2) ∙ c.in_ok-source-in-Module.ensures.taken in
    let until3 = until2 ∙ ap (λ t. taken t D) h3 in
    let g = c.in_ok-given-in-Module.given.items in
    let source = c.in_ok-source-in-Module.source in
    let target = c.in_ok-target-in-Module.target in
    let hg : g ≡ G = c.in_ok-given-in-Module.ensures.given ∙ ap (λ l. given_shapes file sc (functor_params l)) read in
    let hs : source ≡ M = c.in_ok-source-in-Module.ensures.shape ∙ ap (λ e. mod_shape file e m) eP2 in
    let ht : target ≡ T = c.in_ok-target-in-Module.ensures.shape ∙ ap (λ e. optional_shape file e s) eP in
    let pD = ap (λ k. site_steps (here file at) k source target) hg ∙ ap (λ k. site_steps (here file at) G k target) hs
    ∙ ap (site_steps (here file at) G M) ht in
    until3 ∙ sym (ap (taken (Going f3)) pD) ∙ c.in_ok-shape-in-Module.ensures.taken

pub item-returns-in_ok-named_module-in-Module-clause-shown : goal.item-returns-in_ok-named_module-in-Module-clause-shown
item-returns-in_ok-named_module-in-Module-clause-shown t c =
    let file = c.args.file in
    let sc = entries_of c.args.scope.now in
    let at = c.in-Module.at in
    let x = view_module_name c.in-Module.name in
    let ps = functor_params c.in-Module.params.items in
    let s = signature c.in-Module.signature in
    let m = view_mod c.in-Module.body in
    let P = sc ⊕ params_in file sc ps in
    let f0 = c.args.found.now in
    let A = functor_steps file sc ps in
    let B = optional_type_steps file P s in
    let C = mod_steps file P m in
    let G = given_shapes file sc ps in
    let M = mod_shape file P m in
    let T = optional_shape file P s in
    let D = site_steps (here file at) G M T in
    let read = c.deref-in-Module.ensures.value in
    let shape = ap view_item c.in-Module.is ∙ at_item_module at c.in-Module.name c.in-Module.params c.in-Module.signature c.in-Module.equals
    c.in-Module.body in
    let all = ap (λ i. taken (Going f0) (item_steps file sc i)) shape ∙ module_item (Going f0) file at sc x ps s c.in-Module.equals m in
    let pA = ap (λ l. functor_steps file sc (functor_params l)) read in
    let f1 = c.functor_params.new.found in
    let h1 = ap (taken (Going f0)) (sym pA) ∙ c.in_ok-given-in-Module.ensures.taken in
    let eP : entries_of c.functor_params.new.scope ≡ P = c.in_ok-given-in-Module.ensures.grown
    ∙ ap (λ l. sc ⊕ params_in file sc (functor_params l)) read in
    let until1 = all ∙ ap (λ t. taken (taken (taken t B) C) D) h1 in
    let f2 = c.optional_type.new.found in
    let h2 = ap (λ e. taken (Going f1) (optional_type_steps file e s)) (sym eP) ∙ c.in_ok-target-in-Module.ensures.taken in
    let eP2 : entries_of c.optional_type.new.scope ≡ P = ap entries_of c.in_ok-target-in-Module.ensures.scope ∙ eP in
    let until2 = until1 ∙ ap (λ t. taken (taken t C) D) h2 in
    let f3 = c.module.new.found in
    let h3 = ap (λ e. taken (Going f2) (mod_steps file e m)) (sym eP2) ∙ c.in_ok-source-in-Module.ensures.taken in
    let until3 = until2 ∙ ap (λ t. taken t D) h3 in
    let g = c.in_ok-given-in-Module.given.items in
    let source = c.in_ok-source-in-Module.source in
    let target = c.in_ok-target-in-Module.target in
    let hg : g ≡ G = c.in_ok-given-in-Module.ensures.given ∙ ap (λ l. given_shapes file sc (functor_params l)) read in
    let hs : source ≡ M = c.in_ok-source-in-Module.ensures.shape ∙ ap (λ e. mod_shape file e m) eP2 in
    let ht : target ≡ T = c.in_ok-target-in-Module.ensures.shape ∙ ap (λ e. optional_shape file e s) eP in
    let to = ap (λ k. functors_to k (seal_shape source target)) hg ∙ ap (λ k. functors_to G (seal_shape k target)) hs
    ∙ ap (λ k. functors_to G (seal_shape M k)) ht in
    ap entries_of c.add_shown-in-Module.ensures.shown ∙ c.in_ok-named_module-in-Module.ensures
    ∙ ap (named x) (c.in_ok-shape-in-Module.ensures.shape ∙ to)
    ∙ sym (ap (adds file sc) shape ∙ module_added file at sc x ps s c.in-Module.equals m)
