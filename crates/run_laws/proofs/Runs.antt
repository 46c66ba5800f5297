-- The law of fuel.
use Rattle.std.proofs.Common.{◌≡◌, ◌≤◌, ℕ, List, [], ◌∷◌, Option, Some, None, refl}
use Rattle.std.specs.Prelude.{◌≢◌}
use Rattle.ml_trees.specs.Tree.{FileTree, Body, Face, UnitTree}
use Rattle.module_meaning.specs.Values.{ModVal, Env, nothing}
use Rattle.module_meaning.specs.Acts.{Outcome, Done, Halt}
use Rattle.module_meaning.specs.Eval.{Evals}
use Rattle.module_meaning.specs.Modules.{evals}
use Rattle.module_meaning.specs.Run.{body_value, faced, unit_value, eval_units, Stopped, OutOfFuel, ending}
use Rattle.run_laws.specs.Laws.{IsBeginningOf, printed, MoreFuelIsTheSame, MoreFuelPrintsOn}
use Rattle.run_laws.proofs.Steps.{begins_self, out_of, richer, IsAhead, both_done, both_halt, ran_out, GoesOn, gives, binds, or_halts}
use Rattle.run_laws.proofs.Exprs.{AllGoOn}
use Rattle.run_laws.proofs.Modules.{items_on, levels_on}

faced_on : (env : Env) (o : Option FileTree) (m : ModVal) → GoesOn (faced env o m) (faced env o m)
faced_on env None m = gives _
faced_on env (Some t) m = or_halts _ _

module _ (go go' : Evals) (h : AllGoOn go go') where
  body_on : (env : Env) (o : Option FileTree) → GoesOn (body_value go env o) (body_value go' env o)
  body_on env (Some (Body file is)) = binds (items_on go go' h file env is) (λ e. gives _)
  body_on env (Some (Face file is)) = gives _
  body_on env None = gives _

  unit_on : (env : Env) (u : UnitTree) → GoesOn (unit_value go env u) (unit_value go' env u)
  unit_on env u = binds (body_on env u.body) (λ m. faced_on env u.face m)

  units_on : (env : Env) (us : List UnitTree) → GoesOn (eval_units go env us) (eval_units go' env us)
  units_on env [] = gives _
  units_on env (u ∷ us) = binds (unit_on env u) (λ m. units_on _ us)

runs_ahead : (us : List UnitTree) (n m : ℕ) → n ≤ m
    → IsAhead (eval_units (evals n) nothing us (record { fuel = n; out = []; cells = [] }))
    (eval_units (evals m) nothing us (record { fuel = m; out = []; cells = [] }))
runs_ahead us n m l = (units_on (evals n) (evals m) (levels_on n m l) nothing us).ahead _ _ (richer l)

same_end : {A : Type 0} (o p : Outcome A) → IsAhead o p → ((out : List ℕ) → ending o ≢ Stopped out OutOfFuel) → ending p ≡ ending o
same_end o p (both_done (richer l)) h = refl
same_end o p (both_halt (richer l)) h = refl
same_end o p (ran_out {st} b) h = absurd (h st.out refl)

end_begins : {A : Type 0} (o p : Outcome A) → IsAhead o p → IsBeginningOf (printed (ending o)) (printed (ending p))
end_begins o p (both_done (richer {out} l)) = begins_self out
end_begins o p (both_halt (richer {out} l)) = begins_self out
end_begins o p (ran_out {st} b) = begin_printed st.out p b
  where
    begin_printed : {A : Type 0} (out : List ℕ) (p : Outcome A) → IsBeginningOf out (out_of p) → IsBeginningOf out (printed (ending p))
    begin_printed out (Done st x) b = b
    begin_printed out (Halt st why) b = b

pub more_fuel_is_the_same : MoreFuelIsTheSame
more_fuel_is_the_same us n m l h = same_end _ _ (runs_ahead us n m l) h

pub more_fuel_prints_on : MoreFuelPrintsOn
more_fuel_prints_on us n m l = end_begins _ _ (runs_ahead us n m l)
