use Rattle.std.proofs.Common.{◌∙◌, ◌++◌, length, ap, sym, arith, length-append, append_assoc, append-nil}
use Rattle.shape_core.specs.declared.part.Part.{Part}
use Rattle.shape_core.specs.Parts.{parts_list, part_list, opened_list}
use Rattle.shape_core.proofs.Split.{split}
use Rattle.shape_core.proofs.scope.Scope.share.Goals as goal

pub invariant_of-self : goal.invariant_of-self
invariant_of-self c =
    let s = c.self.inside in
    let part : Part = record { own = c.replace-own.result; opened = c.all-opened.result } in
    let more = split c.push.new.self.items s.parts.items part c.in-Ok.ensures.items in
    let long = ap length more in
    let two = length-append (parts_list s.parts.items) (part_list part) in
    let whole = length-append c.replace-own.result (opened_list c.all-opened.result) in
    let view = ap length c.self.view_is in
    let old = length-append (parts_list s.parts.items) s.last in
    let own = ap length c.replace-own.ensures.value in
    let none = ap length (c.replace-own.ensures.after ∙ c.new.ensures) in
    record {
      counted = omega (arith, long, two, whole, view, old, own, c.len.ensures, c.len-2.ensures, c.in-Some.ensures.1);
      few = omega (arith, long, two, whole, view, old, own, none, c.len.ensures, c.len-2.ensures, c.in-Some.ensures.0);
    }

pub returns-in-Ok-clause-opened : goal.returns-in-Ok-clause-opened
returns-in-Ok-clause-opened c =
    let s = c.self.inside in
    let part : Part = record { own = c.replace-own.result; opened = c.all-opened.result } in
    let opened = opened_list c.all-opened.result in
    let list = parts_list c.push.new.self.items in
    ap (λ l. list ++ l) (c.replace-own.ensures.after ∙ c.new.ensures)
    ∙ append-nil list
    ∙ split c.push.new.self.items s.parts.items part c.in-Ok.ensures.items
    ∙ ap (λ l. parts_list s.parts.items ++ (l ++ opened)) c.replace-own.ensures.value
    ∙ sym (append_assoc (parts_list s.parts.items) s.last opened)
    ∙ ap (λ l. l ++ opened) c.self.view_is
    ∙ ap (λ l. c.args.self.now ++ l) c.all-opened.ensures
