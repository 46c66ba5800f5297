-- Phrases of words alone leave a state as it is.
use Rattle.std.proofs.Common.{◌≡◌, ◌∙◌, ℕ, List, [], ◌∷◌, Bool, true, false, Option, Some, None, refl}
use Rattle.ml_trees.specs.declared.fixed.Fixed.{Fixed}
use Rattle.ml_trees.specs.Tok.{Name, Tok}
use Rattle.ml_trees.specs.Tree.{ModuleName, UpperName, AnyName, Constraint, ConstraintOf, WithClause, WithOf}
use Rattle.ml_trees.specs.Events.{Event, type_out, optional_out, bang_out, open_out, lowers_out, module_name_out, constraint_out, constraints_out}
use Rattle.ml_trees.specs.Events.{withs_out, texts_out}
use Rattle.tree_events.specs.Behind.{behind}

pub type_silent : {S : Type 0} (step : S → Event → S) (run : Option (List Tok)) (k : S → S) (s : S) → type_out (behind step) run k s ≡ k s
type_silent step None k s = refl
type_silent step (Some ts) k s = refl

pub optional_silent : {S : Type 0} (step : S → Event → S) (x : Fixed) (b : Bool) (k : S → S) (s : S) → optional_out (behind step) x b k s ≡ k s
optional_silent step x true k s = refl
optional_silent step x false k s = refl

pub bang_silent : {S : Type 0} (step : S → Event → S) (x : Option Name) (k : S → S) (s : S) → bang_out (behind step) x k s ≡ k s
bang_silent step None k s = refl
bang_silent step (Some x) k s = refl

pub open_silent : {S : Type 0} (step : S → Event → S) (x : Option ℕ) (k : S → S) (s : S) → open_out (behind step) x k s ≡ k s
open_silent step None k s = refl
open_silent step (Some x) k s = refl

pub lowers_silent : {S : Type 0} (step : S → Event → S) (xs : List Name) (k : S → S) (s : S) → lowers_out (behind step) xs k s ≡ k s
lowers_silent step [] k s = refl
lowers_silent step (x ∷ xs) k s = lowers_silent step xs k s

pub texts_silent : {S : Type 0} (step : S → Event → S) (xs : List Name) (k : S → S) (s : S) → texts_out (behind step) xs k s ≡ k s
texts_silent step [] k s = refl
texts_silent step (x ∷ xs) k s = texts_silent step xs k s

pub module_name_silent : {S : Type 0} (step : S → Event → S) (x : ModuleName) (k : S → S) (s : S) → module_name_out (behind step) x k s ≡ k s
module_name_silent step (UpperName x) k s = refl
module_name_silent step (AnyName at) k s = refl

constraint_silent : {S : Type 0} (step : S → Event → S) (c : Constraint) (k : S → S) (s : S) → constraint_out (behind step) c k s ≡ k s
constraint_silent step (ConstraintOf a t true b) k s = refl
constraint_silent step (ConstraintOf a t false b) k s = refl

constraints_silent : {S : Type 0} (step : S → Event → S) (cs : List Constraint) (k : S → S) (s : S) → constraints_out (behind step) cs k s ≡ k s
constraints_silent step [] k s = refl
constraints_silent step (c ∷ cs) k s = constraint_silent step c (constraints_out (behind step) cs k) s ∙ constraints_silent step cs k s

pub withs_silent : {S : Type 0} (step : S → Event → S) (ws : List WithClause) (k : S → S) (s : S) → withs_out (behind step) ws k s ≡ k s
withs_silent step [] k s = refl
withs_silent step (WithOf c cs ∷ ws) k s =
    constraint_silent step c (constraints_out (behind step) cs (withs_out (behind step) ws k)) s
    ∙ constraints_silent step cs (withs_out (behind step) ws k) s ∙ withs_silent step ws k s

pub ruleset silent = (
  type_silent,
  optional_silent,
  bang_silent,
  open_silent,
  lowers_silent,
  texts_silent,
  module_name_silent,
  withs_silent,
)
