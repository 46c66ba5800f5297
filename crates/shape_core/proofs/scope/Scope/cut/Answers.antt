use Rattle.std.proofs.Common.{◌≡◌, ◌≤◌, ◌∙◌, ◌++◌, ℕ, length, take, ap, arith, length-append}
use Rattle.std.proofs.lemmas.List.{length-take}
use Rattle.shape_core.specs.Parts.{parts_list}
use Rattle.shape_core.proofs.Split.{begins, begins_past}
use Rattle.shape_core.proofs.scope.Scope.cut.Goals as goal

pub loop-self-preserved : goal.loop-self-preserved
loop-self-preserved c =
    let s = c.loop-self.self-inside in
    let list = parts_list s.parts.items in
    let own = c.cut_last-own.result.0 in
    let left = parts_list c.cut_last-own.new.parts.items in
    let n : ℕ = c.cut_last-own.ensures.cut.0 in
    let more : c.args.len ≤ n = c.cut_last-own.ensures.cut.1 in
    let within : n ≤ s.number = c.cut_last-own.ensures.cut.2 in
    let cut : left ++ own ≡ take n list = c.cut_last-own.ensures.cut.3 in
    let number = c.loop-self.invariant.counted.counted in
    let few = c.loop-self.invariant.counted.few in
    let long = ap length cut ∙ length-take n list in
    record {
      counted = record {
        counted = c.cut_last-own.ensures.counted;
        few = omega (arith, few, long, within, number, length-append left own);
      };
      kept = ap (take c.args.len) cut
          ∙ begins n c.args.len list s.last more (omega (arith, number, c.loop-self-test.true))
          ∙ c.loop-self.invariant.kept;
      long = omega (arith, long, more, number, c.loop-self-test.true);
    }

pub returns : goal.returns
returns c =
    let s = c.loop-self.self-inside in
    let list = parts_list s.parts.items in
    ap (λ l. list ++ l) c.cut.ensures
    ∙ begins_past s.number c.args.len list s.last c.loop-self.invariant.counted.counted c.loop-self-test.false
    ∙ c.loop-self.invariant.kept
