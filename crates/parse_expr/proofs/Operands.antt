-- Operands one after the other, each with whether more may follow.
use Rattle.std.proofs.Common.{◌≡◌, ℕ, zero, suc, ◌-◌, ◌+◌, ◌<◌, List, [], ◌∷◌, ◌++◌, Bool, true, false, cond, ◌==◌, Option, Some, None, map, refl}
use Rattle.std.proofs.Common.{sym, ap, ◌∙◌}
use Rattle.std.proofs.lemmas.Bool.{eqb-true}
use Rattle.ml_trees.specs.declared.word.Word.{Word}
use Rattle.ml_trees.specs.declared.expression.Expr.{Expr as Source}
use Rattle.rotor_base.specs.declared.token.Class.TheVariants as class
use Rattle.ml_trees.specs.declared.fixed.Fixed.TheVariants as key
use Rattle.ml_trees.specs.Tok.{Tok, fixed, placed, word}
use Rattle.ml_trees.specs.WellFormed.{op_level}
use Rattle.parse_expr.specs.Parts.{operator_of}
use Rattle.parse_expr.proofs.Comma.{comma_alone}
use Rattle.ml_trees.specs.Tree.{Expr, Links, no_link, more_link}
use Rattle.ml_trees.specs.View.{view, view_tok, ops, commas}
use Rattle.token_reading.specs.Steps.{Read, ◌>>=◌, expect}
use Rattle.token_reading.proofs.Turns.{before, before_last, Left, pushed, turn_off}
use Rattle.expr_reading.specs.ExprReading.{cons_operand, operator_part, goes_on, read_expr, unary, tier}
use Rattle.expr_parts.specs.Rows.{grown_tier}

-- an operator and an operand behind which more was read
abbrev pub operand_of : Word × Source → Tok × Expr × Bool
operand_of x = (view_tok x.0, view x.1, true)

-- an expression behind a `,` behind which more was read
abbrev pub comma_of : Source → Tok × Expr × Bool
comma_of e = (fixed key.Comma, view e, true)

pub ops_before : (xs : List (Word × Source)) → before cons_operand (map operand_of xs) no_link ≡ ops xs
ops_before [] = refl
ops_before (x ∷ xs) = ap (more_link (view_tok x.0) (view x.1)) (ops_before xs)

pub commas_before : (xs : List Source) → before cons_operand (map comma_of xs) no_link ≡ commas xs
commas_before [] = refl
commas_before (x ∷ xs) = ap (λ l. cons_operand (comma_of x) l) (commas_before xs)

map_append : {A B : Type 0} (f : A → B) (xs ys : List A) → map f (xs ++ ys) ≡ map f xs ++ map f ys
map_append f [] ys = refl
map_append f (x ∷ xs) ys = ap (λ l. f x ∷ l) (map_append f xs ys)

abbrev pub goes : Tok × Expr × Bool → Bool
goes x = x.2

module _ (part : Read (Tok × Expr × Bool)) {X : Type 0} (f : X → Tok × Expr × Bool) (on : (x : X) → (f x).2 ≡ true) where
  same : (x : X) (b : Bool) → b ≡ true → ((f x).0, (f x).1, b) ≡ f x
  same x b h = ap (λ (c : Bool). ((f x).0, (f x).1, c)) (h ∙ sym (on x))

  pub operand_on : (xs ys : List X) (x : X) (b : Bool) (n i : ℕ) (here after : List Tok) (whole : Links × List Tok) → ys ≡ xs ++ x ∷ [] → i < n
      → part here ≡ Some (((f x).0, (f x).1, b), after) → b ≡ true → Left no_link cons_operand goes part (map f xs) (n - i) here whole
      → Left no_link cons_operand goes part (map f ys) (n - (i + 1)) after whole
  operand_on xs ys x b n i here after whole p lt e h k =
      pushed no_link cons_operand goes part f xs ys x n i here after whole p lt (e ∙ ap (λ (y : Tok × Expr × Bool). Some (y, after)) (same x b h))
      (on x) k

  pub operand_off : (xs ys : List X) (x : X) (b : Bool) (n i : ℕ) (here after : List Tok) (whole : Links × List Tok) → ys ≡ xs ++ x ∷ [] → i < n
      → part here ≡ Some (((f x).0, (f x).1, b), after) → b ≡ false → Left no_link cons_operand goes part (map f xs) (n - i) here whole
      → whole ≡ (before cons_operand (map f ys) no_link, after)
  operand_off xs ys x b n i here after whole p lt e h k =
      let off = turn_off no_link cons_operand goes part (map f xs) ((f x).0, (f x).1, b) n i here after whole lt e h k in
      let one : before cons_operand (map f xs ++ ((f x).0, (f x).1, b) ∷ []) no_link ≡ before cons_operand (map f xs ++ f x ∷ []) no_link =
      before_last cons_operand (map f xs) ((f x).0, (f x).1, b) no_link ∙ sym (before_last cons_operand (map f xs) (f x) no_link) in
      off ∙ ap (λ (l : Links). (l, after)) (one ∙ ap (λ l. before cons_operand l no_link) (sym (ap (map f) p ∙ map_append f xs (x ∷ []))))

-- ---- an operator, and what follows it

module _ (d m : ℕ) (one : Read Expr) where
  by_level : (b : Bool) (t : Tok) (ts : List Tok)
      → cond {A = Option ((Tok × Expr × Bool) × List Tok)} b (one ts >>= λ x. Some ((t, x.0, goes_on x.0 x.1), x.1)) None
      ≡ (cond {A = Option (Tok × List Tok)} b (Some (t, ts)) None >>= λ o. one o.1 >>= λ x. Some ((o.0, x.0, goes_on x.0 x.1), x.1))
  by_level true t ts = refl
  by_level false t ts = refl

  pub operator_by : (ts : List Tok)
      → operator_part (read_expr d) d m one ts ≡ (operator_of m ts >>= λ o. one o.1 >>= λ x. Some ((o.0, x.0, goes_on x.0 x.1), x.1))
  operator_by [] = refl
  operator_by (t ∷ ts) = by_level (op_level t == m) t ts

module _ (d : ℕ) (one : Read Expr) where
  by_comma : (t : Tok) (ts : List Tok) (b : Bool) → (op_level t == 4) ≡ b
      → operator_part (read_expr d) d 4 one
      (t ∷ ts) ≡ (expect key.Comma (t ∷ ts) >>= λ r. one r >>= λ x. Some ((fixed key.Comma, x.0, goes_on x.0 x.1), x.1))
  by_comma t ts true h = let k : t ≡ fixed key.Comma = comma_alone t (is_level h) in rw k refl
    where
      is_level : (op_level t == 4) ≡ true → op_level t ≡ 4
      is_level q = eqb-true _ _ q
  by_comma (fixed key.Comma) ts false h = absurd cc
  by_comma (fixed j) ts false h = refl
  by_comma (placed j at) ts false h = rw h refl
  by_comma (word class.Mark x) ts false h = rw h refl
  by_comma (word class.Keyword x) ts false h = rw h refl
  by_comma (word class.Infix x) ts false h = rw h refl
  by_comma (word c x) ts false h = refl

  pub comma_by : (ts : List Tok)
      → operator_part (read_expr d) d 4 one ts ≡ (expect key.Comma ts >>= λ r. one r >>= λ x. Some ((fixed key.Comma, x.0, goes_on x.0 x.1), x.1))
  comma_by [] = refl
  comma_by (t ∷ ts) = by_comma t ts (op_level t == 4) refl

  pub comma_none : (ts : List Tok) → expect key.Comma ts ≡ None → operator_part (read_expr d) d 4 one ts ≡ None
  comma_none ts h = comma_by ts ∙ ap (λ (o : Option (List Tok)). o >>= λ r. one r >>= λ x. Some ((fixed key.Comma, x.0, goes_on x.0 x.1), x.1)) h

-- ---- one level after the other

module _ (d : ℕ) (ts : List Tok) where
  pub tier_none : (m : ℕ) → unary (read_expr d) d ts ≡ None → tier (read_expr d) d m ts ≡ None
  unfolding tier
  tier_none zero h = h
  tier_none (suc m) h = rw (tier_none m h) refl

  pub tier_first : (x : Expr × List Tok) → unary (read_expr d) d ts ≡ Some x → tier (read_expr d) d 0 ts ≡ Some x
  unfolding tier
  tier_first x h = h

  tier_next : (m : ℕ) (e : Expr) (r : List Tok) (x : Expr × List Tok) → tier (read_expr d) d m ts ≡ Some (e, r) → Some (grown_tier d m e r) ≡ Some x
      → tier (read_expr d) d (suc m) ts ≡ Some x
  unfolding tier
  tier_next m e r x h k = rw h k

  pub tier_more : (m n : ℕ) (e : Expr) (r : List Tok) (x : Expr × List Tok) → n ≡ suc m → tier (read_expr d) d m ts ≡ Some (e, r)
      → Some (grown_tier d m e r) ≡ Some x → tier (read_expr d) d n ts ≡ Some x
  tier_more m n e r x q h k = ap (λ i. tier (read_expr d) d i ts) q ∙ tier_next m e r x h k
