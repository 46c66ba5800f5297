-- Fuel: what more of it changes of a bounded run (this project's own).
use Rattle.std.specs.Prelude.{◌≡◌, ◌≢◌, ◌≤◌, ◌++◌, ℕ, List}
use Rattle.ml_trees.specs.Tree.{UnitTree}
use Rattle.module_meaning.specs.Run.{End, Finished, Stopped, OutOfFuel, run}

-- the first list is a beginning of the second
pub record IsBeginningOf (xs ys : List ℕ) : Type 0 where
  pub rest : List ℕ
  pub is : ys ≡ xs ++ rest

-- the bytes that a run printed
abbrev pub printed : End → List ℕ
printed (Finished out) = out
printed (Stopped out why) = out

-- Law: a run that does not end for want of fuel prints the same and ends the same with more fuel
abbrev pub MoreFuelIsTheSame : Type 0
MoreFuelIsTheSame = (us : List UnitTree) (n m : ℕ) → n ≤ m → ((out : List ℕ) → run n us ≢ Stopped out OutOfFuel) → run m us ≡ run n us

-- Law: what a run prints is a beginning of what it prints with more fuel
abbrev pub MoreFuelPrintsOn : Type 0
MoreFuelPrintsOn = (us : List UnitTree) (n m : ℕ) → n ≤ m → IsBeginningOf (printed (run n us)) (printed (run m us))
