-- The right edge of an expression whose last part is in a `Vec`.
use Rattle.std.proofs.Common.{◌≡◌, ℕ, zero, suc, ◌-◌, ◌<◌, List, [], ◌∷◌, ◌++◌, length, Bool, true, false, Option, Some, None, refl, sym, ap, ◌∙◌}
use Rattle.std.proofs.Common.{arith}
use Rattle.std.specs.List.{slice_get}
use Rattle.ml_trees.specs.declared.word.Word.{Word}
use Rattle.ml_trees.specs.declared.expression.Case.{Case}
use Rattle.ml_trees.specs.declared.expression.Branch.{Branch}
use Rattle.ml_trees.specs.declared.expression.Field.{Field}
use Rattle.ml_trees.specs.declared.expression.Expr.{Expr as Source}
use Rattle.ml_trees.specs.Tree as pure
use Rattle.ml_trees.specs.Tree.{Expr, Links}
use Rattle.ml_trees.specs.WellFormed.{on_edge, on_links, on_body, on_cases, on_tail, has_else, is_open_if}
use Rattle.ml_trees.specs.View.{view, view_field, links, commas, ops, cases, fields, tail_before}
use Rattle.expr_parts.specs.declared.edge.Edge.{Edge}
use Rattle.expr_parts.specs.declared.edge.Edge.TheVariants as edge
use Rattle.expr_parts.specs.Edges.{test_of}
use Rattle.expr_reading.specs.ExprReading.{last_of, last_field}

pub last_is : {X : Type 0} (xs : List X) (x : X) → slice_get xs (length xs - 1) ≡ Some x → (front : List X) × (xs ≡ front ++ x ∷ [])
last_is [] x h = absurd cc
last_is (y ∷ []) x h = ([], let q : Some y ≡ Some x = h in cc)
last_is (y ∷ z ∷ zs) x h =
    let s : length (y ∷ z ∷ zs) - 1 ≡ suc (length (z ∷ zs) - 1) = omega arith in
    let k : slice_get (z ∷ zs) (length (z ∷ zs) - 1) ≡ Some x = sym (ap (slice_get (y ∷ z ∷ zs)) s) ∙ h in
    let r = last_is (z ∷ zs) x k in
    (y ∷ r.0, ap (λ l. y ∷ l) r.1)

pub none_is : {X : Type 0} (xs : List X) → slice_get xs (length xs - 1) ≡ None → xs ≡ []
none_is [] h = refl
none_is (y ∷ ys) h = by (y ∷ ys) (length (y ∷ ys) - 1) (omega arith) h
  where
    by : {X : Type 0} (xs : List X) (i : ℕ) → i < length xs → slice_get xs i ≡ None → xs ≡ []
    by [] i lt h = refl
    by (x ∷ xs) zero lt h = absurd cc
    by (x ∷ xs) (suc i) lt h = let q = by xs i (omega arith) h in absurd (omega (arith, ap length q))

-- what `last` of a `Vec` answers
pub shown : {X : Type 0} {o : Option X} (xs ys : List X) → ys ≡ xs → o ≡ slice_get ys (length ys - 1) → slice_get xs (length xs - 1) ≡ o
shown xs ys p h = sym (h ∙ ap (λ l. slice_get l (length l - 1)) p)

module _ (q : Expr → Bool) where
  links_last : (b : Bool) (front : List Source) (x : Source) → on_links q b (links (front ++ x ∷ [])) ≡ on_edge q (view x)
  links_last b [] x = refl
  links_last b (y ∷ ys) x = links_last (on_edge q (view y)) ys x

  pub links_end : (b : Bool) (xs : List Source) (x : Source) → slice_get xs (length xs - 1) ≡ Some x → on_links q b (links xs) ≡ on_edge q (view x)
  links_end b xs x h = let r = last_is xs x h in ap (λ l. on_links q b (links l)) r.1 ∙ links_last b r.0 x

  pub links_none : (b : Bool) (xs : List Source) → slice_get xs (length xs - 1) ≡ None → on_links q b (links xs) ≡ b
  links_none b xs h = ap (λ l. on_links q b (links l)) (none_is xs h)

  commas_last : (b : Bool) (front : List Source) (x : Source) → on_links q b (commas (front ++ x ∷ [])) ≡ on_edge q (view x)
  commas_last b [] x = refl
  commas_last b (y ∷ ys) x = commas_last (on_edge q (view y)) ys x

  pub commas_end : (b : Bool) (xs : List Source) (x : Source) → slice_get xs (length xs - 1) ≡ Some x → on_links q b (commas xs) ≡ on_edge q (view x)
  commas_end b xs x h = let r = last_is xs x h in ap (λ l. on_links q b (commas l)) r.1 ∙ commas_last b r.0 x

  pub commas_none : (b : Bool) (xs : List Source) → slice_get xs (length xs - 1) ≡ None → on_links q b (commas xs) ≡ b
  commas_none b xs h = ap (λ l. on_links q b (commas l)) (none_is xs h)

  ops_last : (b : Bool) (front : List (Word × Source)) (x : Word × Source) → on_links q b (ops (front ++ x ∷ [])) ≡ on_edge q (view x.1)
  ops_last b [] x = refl
  ops_last b (y ∷ ys) x = ops_last (on_edge q (view y.1)) ys x

  pub ops_end : (b : Bool) (xs : List (Word × Source)) (x : Word × Source) → slice_get xs (length xs - 1) ≡ Some x
      → on_links q b (ops xs) ≡ on_edge q (view x.1)
  ops_end b xs x h = let r = last_is xs x h in ap (λ l. on_links q b (ops l)) r.1 ∙ ops_last b r.0 x

  pub ops_none : (b : Bool) (xs : List (Word × Source)) → slice_get xs (length xs - 1) ≡ None → on_links q b (ops xs) ≡ b
  ops_none b xs h = ap (λ l. on_links q b (ops l)) (none_is xs h)

  cases_last : (b : Bool) (front : List Case) (x : Case) → on_cases q b (cases (front ++ x ∷ [])) ≡ on_edge q (view x.body)
  cases_last b [] x = refl
  cases_last b (y ∷ ys) x = cases_last (on_edge q (view y.body)) ys x

  pub cases_end : (b : Bool) (xs : List Case) (x : Case) → slice_get xs (length xs - 1) ≡ Some x → on_cases q b (cases xs) ≡ on_edge q (view x.body)
  cases_end b xs x h = let r = last_is xs x h in ap (λ l. on_cases q b (cases l)) r.1 ∙ cases_last b r.0 x

  pub cases_none : (b : Bool) (xs : List Case) → slice_get xs (length xs - 1) ≡ None → on_cases q b (cases xs) ≡ b
  cases_none b xs h = ap (λ l. on_cases q b (cases l)) (none_is xs h)

  tail_last : (b : Bool) (front : List Branch) (x : Branch) → on_tail q b (tail_before pure.no_else (front ++ x ∷ [])) ≡ on_edge q (view x.then)
  tail_last b [] x = refl
  tail_last b (y ∷ ys) x = tail_last (on_edge q (view y.then)) ys x

  pub tail_end : (b : Bool) (xs : List Branch) (x : Branch) → slice_get xs (length xs - 1) ≡ Some x
      → on_tail q b (tail_before pure.no_else xs) ≡ on_edge q (view x.then)
  tail_end b xs x h = let r = last_is xs x h in ap (λ l. on_tail q b (tail_before pure.no_else l)) r.1 ∙ tail_last b r.0 x

  pub tail_none : (b : Bool) (xs : List Branch) → slice_get xs (length xs - 1) ≡ None → on_tail q b (tail_before pure.no_else xs) ≡ b
  tail_none b xs h = ap (λ l. on_tail q b (tail_before pure.no_else l)) (none_is xs h)

-- ---- one level of each kind of expression

pub edge_seq : (q : Edge) (e : Expr) (es : Links) → on_edge (test_of q) (pure.Seq e es false) ≡ on_links (test_of q) (on_edge (test_of q) e) es
edge_seq edge.Form e es = refl
edge_seq edge.If e es = refl
edge_seq edge.OpenIf e es = refl
edge_seq edge.Cases e es = refl

pub edge_chain : (q : Edge) (n : ℕ) (e : Expr) (es : Links) → on_edge (test_of q) (pure.Chain n e es) ≡ on_links (test_of q)
    (on_edge (test_of q) e) es
edge_chain edge.Form n e es = refl
edge_chain edge.If n e es = refl
edge_chain edge.OpenIf n e es = refl
edge_chain edge.Cases n e es = refl

module _ (q : Edge) (form : q ≡ edge.Form → ⊥) (several : q ≡ edge.Cases → ⊥) where
  pub edge_function : (at : ℕ) (bar : Bool) (c : pure.Case) (cs : pure.Cases) → on_edge (test_of q) (pure.Function at bar c cs) ≡ on_cases (test_of q)
      (on_body (test_of q) c) cs
  edge_function at bar c cs = by q form several
    where
      by : (k : Edge) → (k ≡ edge.Form → ⊥) → (k ≡ edge.Cases → ⊥) → on_edge (test_of k) (pure.Function at bar c cs) ≡ on_cases (test_of k)
          (on_body (test_of k) c) cs
      by edge.Form x y = absurd (x refl)
      by edge.If x y = refl
      by edge.OpenIf x y = refl
      by edge.Cases x y = absurd (y refl)

  pub edge_match : (at : ℕ) (e : Expr) (bar : Bool) (c : pure.Case) (cs : pure.Cases) → on_edge (test_of q) (pure.Match at e bar c cs) ≡ on_cases
      (test_of q) (on_body (test_of q) c) cs
  edge_match at e bar c cs = by q form several
    where
      by : (k : Edge) → (k ≡ edge.Form → ⊥) → (k ≡ edge.Cases → ⊥) → on_edge (test_of k) (pure.Match at e bar c cs) ≡ on_cases (test_of k)
          (on_body (test_of k) c) cs
      by edge.Form x y = absurd (x refl)
      by edge.If x y = refl
      by edge.OpenIf x y = refl
      by edge.Cases x y = absurd (y refl)

  pub edge_try : (at : ℕ) (e : Expr) (bar : Bool) (c : pure.Case) (cs : pure.Cases)
      → on_edge (test_of q) (pure.Try at e bar c cs) ≡ on_cases (test_of q) (on_body (test_of q) c) cs
  edge_try at e bar c cs = by q form several
    where
      by : (k : Edge) → (k ≡ edge.Form → ⊥) → (k ≡ edge.Cases → ⊥) → on_edge (test_of k) (pure.Try at e bar c cs) ≡ on_cases (test_of k)
          (on_body (test_of k) c) cs
      by edge.Form x y = absurd (x refl)
      by edge.If x y = refl
      by edge.OpenIf x y = refl
      by edge.Cases x y = absurd (y refl)

edge_if : (q : Edge) (at : ℕ) (c a : Expr) (tail : pure.Tail) → (q ≡ edge.If → ⊥) → (q ≡ edge.OpenIf → has_else tail ≡ true)
    → on_edge (test_of q) (pure.If at c a tail) ≡ on_tail (test_of q) (on_edge (test_of q) a) tail
edge_if edge.Form at c a tail x y = refl
edge_if edge.If at c a tail x y = absurd (x refl)
edge_if edge.OpenIf at c a tail x y = rw (y refl) refl
edge_if edge.Cases at c a tail x y = refl

no_else_before : (xs : List Branch) → has_else (tail_before pure.no_else xs) ≡ false
no_else_before [] = refl
no_else_before (x ∷ xs) = no_else_before xs

else_before : (e : Expr) (xs : List Branch) → has_else (tail_before (pure.or_else e) xs) ≡ true
else_before e [] = refl
else_before e (x ∷ xs) = else_before e xs

tail_else : (q : Expr → Bool) (b : Bool) (e : Expr) (xs : List Branch) → on_tail q b (tail_before (pure.or_else e) xs) ≡ on_edge q e
tail_else q b e [] = refl
tail_else q b e (x ∷ xs) = tail_else q (on_edge q (view x.then)) e xs

pub if_open : (at : ℕ) (c a : Expr) (xs : List Branch) → true ≡ on_edge is_open_if (pure.If at c a (tail_before pure.no_else xs))
if_open at c a xs = rw (no_else_before xs) refl

pub if_other : (q : Edge) (at : ℕ) (c a e : Expr) (xs : List Branch) → (q ≡ edge.If → ⊥)
    → on_edge (test_of q) (pure.If at c a (tail_before (pure.or_else e) xs)) ≡ on_edge (test_of q) e
if_other q at c a e xs x = edge_if q at c a (tail_before (pure.or_else e) xs) x (λ _. else_before e xs) ∙ tail_else (test_of q) _ e xs

pub if_none : (q : Edge) (at : ℕ) (c a : Expr) (xs : List Branch) → (q ≡ edge.If → ⊥) → (q ≡ edge.OpenIf → ⊥)
    → on_edge (test_of q) (pure.If at c a (tail_before pure.no_else xs)) ≡ on_tail (test_of q) (on_edge (test_of q) a) (tail_before pure.no_else xs)
if_none q at c a xs x y = edge_if q at c a (tail_before pure.no_else xs) x (λ h. absurd (y h))

-- ---- the last of a row

row_last : (e : Expr) (front : List Source) (x : Source) → last_of e (links (front ++ x ∷ [])) ≡ view x
row_last e [] x = refl
row_last e (y ∷ ys) x = row_last (view y) ys x

pub last_row : (e : Expr) (xs : List Source) (x : Source) → slice_get xs (length xs - 1) ≡ Some x → last_of e (links xs) ≡ view x
last_row e xs x h = let r = last_is xs x h in ap (λ l. last_of e (links l)) r.1 ∙ row_last e r.0 x

pub last_none : (e : Expr) (xs : List Source) → slice_get xs (length xs - 1) ≡ None → last_of e (links xs) ≡ e
last_none e xs h = ap (λ l. last_of e (links l)) (none_is xs h)

field_last : (f : pure.Field) (front : List Field) (x : Field) → last_field f (fields (front ++ x ∷ [])) ≡ view_field x
field_last f [] x = refl
field_last f (y ∷ ys) x = field_last (view_field y) ys x

pub last_fields : (f : pure.Field) (xs : List Field) (x : Field) → slice_get xs (length xs - 1) ≡ Some x → last_field f (fields xs) ≡ view_field x
last_fields f xs x h = let r = last_is xs x h in ap (λ l. last_field f (fields l)) r.1 ∙ field_last f r.0 x

pub no_fields : (f : pure.Field) (xs : List Field) → slice_get xs (length xs - 1) ≡ None → last_field f (fields xs) ≡ f
no_fields f xs h = ap (λ l. last_field f (fields l)) (none_is xs h)
