use Rattle.std.proofs.Common.{◌-◌, ◌∙◌, ◌++◌, length, take, refl, ap, sym, arith, append-nil, length-append}
use Rattle.std.proofs.Math.ListN.{set}
use Rattle.std.proofs.lemmas.List.{length-take-le}
use Rattle.shape_core.specs.declared.part.Part.{Part}
use Rattle.shape_core.specs.Parts.{parts_list, opened_list}
use Rattle.shape_core.proofs.Split.{last_of_all, last_cut, last_same, last_total, last_gone}
use Rattle.shape_core.proofs.parts.cut_last.Goals as goal

pub overflow_sub-before : goal.overflow_sub-before
overflow_sub-before c =
    let i = c.len-last.result - 1 in
    let p = c.index_mut-part.result.now in
    let last = last_of_all c.args.parts.now c.len-last.result c.args.number c.args.len p c.len-last.ensures c.requires.number c.requires.more
    c.index_mut-part.ensures.value in
    let front = parts_list (take i c.args.parts.now.items) in
    let total = last.total in
    omega (arith, total, c.len.ensures, length-append front (p.own ++ opened_list p.opened), length-append p.own (opened_list p.opened))

pub returns-then-before-len-clause-counted : goal.returns-then-before-len-clause-counted
returns-then-before-len-clause-counted c =
    let ps = c.args.parts.now.items in
    let i = c.len-last.result - 1 in
    let p = c.index_mut-part.result.now in
    let last = last_of_all c.args.parts.now c.len-last.result c.args.number c.args.len p c.len-last.ensures c.requires.number c.requires.more
    c.index_mut-part.ensures.value in
    let q : Part = record { own = p.own; opened = c.cut.new.self } in
    let cut = last_cut ps i c.args.number p last q c.args.len (c.args.number - c.len.result) refl c.cut.ensures
    (ap (λ k. c.args.number - k) c.len.ensures) c.if-before-len.true c.requires.more in
    sym (ap length cut ∙ length-take-le c.args.len (parts_list ps) (omega (arith, c.requires.number, c.requires.more)))

pub returns-then-before-len-clause-cut : goal.returns-then-before-len-clause-cut
returns-then-before-len-clause-cut c =
    let ps = c.args.parts.now.items in
    let i = c.len-last.result - 1 in
    let p = c.index_mut-part.result.now in
    let last = last_of_all c.args.parts.now c.len-last.result c.args.number c.args.len p c.len-last.ensures c.requires.number c.requires.more
    c.index_mut-part.ensures.value in
    let q : Part = record { own = p.own; opened = c.cut.new.self } in
    let cut = last_cut ps i c.args.number p last q c.args.len (c.args.number - c.len.result) refl c.cut.ensures
    (ap (λ k. c.args.number - k) c.len.ensures) c.if-before-len.true c.requires.more in
    let after = parts_list (set ps i q) in
    (c.args.len, omega arith, omega (arith, c.requires.more), ap (λ l. after ++ l) c.new.ensures ∙ append-nil after ∙ cut)

pub overflow_sub-number : goal.overflow_sub-number
overflow_sub-number c =
    let i = c.len-last.result - 1 in
    let p = c.index_mut-part.result.now in
    let q = c.in-Some.part in
    let last = last_of_all c.args.parts.now c.len-last.result c.args.number c.args.len p c.len-last.ensures c.requires.number c.requires.more
    c.index_mut-part.ensures.value in
    let total = last_total c.args.parts.now.items i c.args.number p last c.pop.new.self.items q c.in-Some.ensures.items in
    let same = last_same c.args.parts.now.items i c.args.number p last c.pop.new.self.items q c.in-Some.ensures.items in
    let less = c.len.ensures ∙ ap (λ (r : Part). length (opened_list r.opened)) (sym same) in
    let own = c.len-in-Some.ensures ∙ ap length c.into_own-own.ensures in
    omega (arith, total, less, own)

pub returns-in-Some-clause-counted : goal.returns-in-Some-clause-counted
returns-in-Some-clause-counted c =
    let i = c.len-last.result - 1 in
    let p = c.index_mut-part.result.now in
    let q = c.in-Some.part in
    let last = last_of_all c.args.parts.now c.len-last.result c.args.number c.args.len p c.len-last.ensures c.requires.number c.requires.more
    c.index_mut-part.ensures.value in
    let total = last_total c.args.parts.now.items i c.args.number p last c.pop.new.self.items q c.in-Some.ensures.items in
    let same = last_same c.args.parts.now.items i c.args.number p last c.pop.new.self.items q c.in-Some.ensures.items in
    let less = c.len.ensures ∙ ap (λ (r : Part). length (opened_list r.opened)) (sym same) in
    let own = c.len-in-Some.ensures ∙ ap length c.into_own-own.ensures in
    omega (arith, total, less, own)

pub returns-in-Some-clause-cut : goal.returns-in-Some-clause-cut
returns-in-Some-clause-cut c =
    let ps = c.args.parts.now.items in
    let i = c.len-last.result - 1 in
    let p = c.index_mut-part.result.now in
    let q = c.in-Some.part in
    let rest = c.pop.new.self.items in
    let m = c.args.number - c.len.result in
    let last = last_of_all c.args.parts.now c.len-last.result c.args.number c.args.len p c.len-last.ensures c.requires.number c.requires.more
    c.index_mut-part.ensures.value in
    let same = last_same ps i c.args.number p last rest q c.in-Some.ensures.items in
    let less = c.len.ensures ∙ ap (λ (r : Part). length (opened_list r.opened)) (sym same) in
    let gone = last_gone ps i c.args.number p last rest q m c.in-Some.ensures.items (ap (λ k. c.args.number - k) less) in
    (m, c.if-before-len.false, omega arith, ap (λ l. parts_list rest ++ l) c.into_own-own.ensures ∙ gone)
