use Rattle.std.proofs.Common.{◌≡◌, Option, List, ℕ, Vec, IfSome, take, option_map, Err, subst, sym, ap}
use Rattle.std.specs.declared.alloc.Global.{Global}
use Rattle.std.specs.FinMap.{get}
use Rattle.apply_journal.specs.Plan.{IsPlan}
use Rattle.apply_journal.specs.Recovered.{plan_name}
use Rattle.apply_journal.proofs.Recovering.{no_file, plan_found, no_plan_found}
use Rattle.apply_journal.proofs.recovery.stored_plan.Goals as goal

pub returns-in_default-clause-bad_plan : goal.returns-in_default-clause-bad_plan
returns-in_default-clause-bad_plan g c = λ _. no_file (g.T.Tree.content c.args.tree.now)
    (subst (λ (found : Option (Vec ℕ Global)). IfSome (g.T.Tree.content c.args.tree.now)
    (λ held. option_map (λ bytes. bytes.items) found ≡ option_map (take 16777217) (get held plan_name))) c.in_default.is
    c.in_ok-bytes.ensures.read)

pub returns-in-Ok-clause-held : goal.returns-in-Ok-clause-held
returns-in-Ok-clause-held g c =
    let read = subst (λ (found : Option (Vec ℕ Global)). IfSome (g.T.Tree.content c.args.tree.now)
    (λ held. option_map (λ bytes. bytes.items) found ≡ option_map (take 16777217) (get held plan_name))) c.in-Some.is
    c.in_ok-bytes.ensures.read in
    plan_found (g.T.Tree.content c.args.tree.now) c.in-Some.bytes.items c.in-Ok.files.items read
    (subst (λ (bs : List ℕ). IsPlan bs c.in-Ok.files.items) c.deref.ensures.value c.in-Ok.ensures.plan)

pub returns-in-Err-Bad-clause-bad_plan : goal.returns-in-Err-Bad-clause-bad_plan
returns-in-Err-Bad-clause-bad_plan g c = λ _.
    let read = subst (λ (found : Option (Vec ℕ Global)). IfSome (g.T.Tree.content c.args.tree.now)
    (λ held. option_map (λ bytes. bytes.items) found ≡ option_map (take 16777217) (get held plan_name))) c.in-Some.is
    c.in_ok-bytes.ensures.read in
    no_plan_found (g.T.Tree.content c.args.tree.now) c.in-Some.bytes.items read
    (λ fs p. c.in-Err-Bad.ensures.bad (ap (λ e. Err e) c.in-Err-Bad.field-0-is) fs
    (subst (λ (bs : List ℕ). IsPlan bs fs) (sym c.deref.ensures.value) p))
