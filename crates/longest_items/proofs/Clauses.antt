-- What is read of the words of `with` clauses and more tokens ends no earlier than they do.
use Rattle.std.proofs.Common.{◌≡◌, ℕ, zero, suc, ◌≤◌, List, [], ◌∷◌, ◌++◌, length, Bool, Some, refl, ap, arith}
use Rattle.ml_trees.specs.declared.fixed.Fixed.TheVariants as key
use Rattle.ml_trees.specs.Tok.{Tok, fixed}
use Rattle.ml_trees.proofs.Words.{optional_then, constraint_then, constraints_then, withs_then}
use Rattle.ml_trees.specs.WellFormed.{WfConstraint, WfConstraints, WfWiths}
use Rattle.ml_trees.specs.Tree.{Constraint, ConstraintOf, WithClause, WithOf}
use Rattle.token_reading.specs.Steps.{◌>>=◌, many, always}
use Rattle.token_reading.specs.Pieces.{type_run}
use Rattle.token_reading.proofs.Reach.{many_shorter, many_on}
use Rattle.token_reading.proofs.ReachPieces.{type_run_read}
use Rattle.module_reading.specs.ModReading.{constraint, next_constraint, more_constraints, with_clause}
use Rattle.module_laws.proofs.LongerMod.{constraint_more, constraints_more}
use Rattle.module_laws.proofs.ReachMod.{sign_ends, private_run, constraint_read, next_shorter, at_with, clause_read, clause_shorter}
use Rattle.longest_items.proofs.Passing.{Passes, pass_map, type_run_pass}

module _ (f : ℕ) where
  -- ---- constraints

  -- what is read of the words of a constraint is what is read of its second type
  constraint_is : (a : List Tok) (t : Tok) (private : Bool) (b k : List Tok) → WfConstraint (ConstraintOf a t private b)
      → constraint (constraint_then (ConstraintOf a t private b) k) ≡ (type_run (b ++ k) >>= λ run. Some (ConstraintOf a t private run.0, run.1))
  unfolding constraint
  constraint_is a t private b k w =
      let behind : List Tok = optional_then key.Private private (b ++ k) in
      rw (type_run_read a (t ∷ behind) w.0 (sign_ends f t behind w.1), w.1, private_run f private b k w.2) refl

  constraint_pass : (c : Constraint) (k : List Tok) → WfConstraint c → Passes k (constraint (constraint_then c k))
  constraint_pass (ConstraintOf a t private b) k w =
      rw (constraint_is a t private b k w) (pass_map k (ConstraintOf a t private) (type_run_pass b k w.2))

  constraints_pass : (c : Constraint) (cs : List Constraint) (r : List Tok) → WfConstraint c → WfConstraints cs → (n : ℕ)
      → length (constraints_then cs r) ≤ n
      → (x : Constraint × List Tok) × (constraint (constraint_then c (constraints_then cs r)) ≡ Some x)
      × (length (more_constraints n x.1).1 ≤ length r)
  constraints_pass c [] r w ws n len =
      let p = constraint_pass c r w in
      (p.0, p.1, omega (arith, p.2, many_shorter [] ◌∷◌ always next_constraint (next_shorter f) n p.0.1))
  constraints_pass c (c' ∷ cs) r w ws zero len = absurd (omega (arith, len))
  constraints_pass c (c' ∷ cs) r w ws (suc n) len =
      let rest : List Tok = constraints_then cs r in
      let here : List Tok = fixed key.And ∷ constraint_then c' rest in
      let more = constraints_pass c' cs r ws.0 ws.1 n (omega (arith, len, constraint_more c' rest)) in (
        (c, here),
        constraint_read f c here w refl,
        rw (many_on [] ◌∷◌ always next_constraint (next_shorter f) n here more.0 more.1 refl) more.2,
      )

  -- ---- `with`

  clause_pass : (c : Constraint) (cs : List Constraint) (r : List Tok) → WfConstraint c → WfConstraints cs → length (constraints_then cs r) ≤ f
      → Passes r (with_clause f (withs_then (WithOf c cs ∷ []) r))
  unfolding with_clause
  clause_pass c cs r w ws len =
      let p = constraints_pass c cs r w ws f len in
      let more = more_constraints f p.0.1 in
      rw p.1 ((WithOf p.0.0 more.0, more.1), refl, p.2)

  -- a clause is read, and no more is left
  abbrev pub Clauses : List Tok → List WithClause × List Tok → Type 0
  Clauses r m = (w : WithClause) × (ws : List WithClause) × (k : List Tok) × (m ≡ (w ∷ ws, k)) × (length k ≤ length r)

  clauses_left : (r : List Tok) (m : List WithClause × List Tok) → Clauses r m → length m.1 ≤ length r
  clauses_left r m c = omega (arith, c.4, ap (λ (z : List WithClause × List Tok). length z.1) c.3)

  pub withs_pass : (c : Constraint) (cs : List Constraint) (ws : List WithClause) (r : List Tok) → WfWiths (WithOf c cs ∷ ws) → (n : ℕ)
      → length (withs_then (WithOf c cs ∷ ws) r) ≤ n → n ≤ suc f
      → Clauses r (many [] ◌∷◌ always (with_clause f) n (withs_then (WithOf c cs ∷ ws) r))
  withs_pass c cs ws r w zero len le = absurd (omega (arith, len))
  withs_pass c cs [] r w (suc n) len le =
      let p = clause_pass c cs r w.0 w.1 (omega (arith, len, le, constraint_more c (constraints_then cs r))) in
      let more = many [] ◌∷◌ always (with_clause f) n p.0.1 in (
        p.0.0,
        more.0,
        more.1,
        many_on [] ◌∷◌ always (with_clause f) (clause_shorter f) n (withs_then (WithOf c cs ∷ []) r) p.0 p.1 refl,
        omega (arith, p.2, many_shorter [] ◌∷◌ always (with_clause f) (clause_shorter f) n p.0.1),
      )
  withs_pass c cs (WithOf c' cs' ∷ ws) r w (suc n) len le =
      let k : List Tok = constraint_then c' (constraints_then cs' (withs_then ws r)) in
      let rest : List Tok = fixed key.With ∷ k in
      let l = constraint_more c (constraints_then cs rest) in
      let l2 = constraints_more cs rest in
      let first = clause_read f c cs rest w.0 w.1 (at_with k) (omega (arith, len, le, l)) in
      let more = withs_pass c' cs' ws r w.2 n (omega (arith, len, l, l2)) (omega (arith, le)) in
      let all = many [] ◌∷◌ always (with_clause f) n rest in (
        WithOf c cs,
        all.0,
        all.1,
        many_on [] ◌∷◌ always (with_clause f) (clause_shorter f) n (withs_then (WithOf c cs ∷ []) rest) (WithOf c cs, rest) first refl,
        clauses_left r all more,
      )
