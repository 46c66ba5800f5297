-- An item that is read is the longest that begins there, and where none is read none begins.
use Rattle.std.proofs.Common.{◌≡◌, ℕ, zero, suc, ◌≤◌, List, length, Bool, true, false, Option, Some, None, refl, sym, ap, subst, ◌∙◌, arith}
use Rattle.ml_trees.specs.Tok.{Tok}
use Rattle.ml_trees.specs.Words.{item_then, sig_item_then}
use Rattle.ml_trees.specs.WellFormed.{is_separator, WfBinding, WfBindings, WfItem, WfSigItem}
use Rattle.ml_trees.specs.Tree.{Expr, Binding, Bindings, Item, ExprItem, ValueItem, SigItem, no_sig_item, more_sig_item}
use Rattle.token_reading.specs.Steps.{turn, many, always}
use Rattle.token_reading.proofs.Stepping.{from_some}
use Rattle.expr_reading.specs.declared.wanted.Wanted.TheVariants as wanted
use Rattle.expr_reading.specs.ExprReading.{read_expr}
use Rattle.expr_laws.proofs.AppendExpr.{expr_front}
use Rattle.expr_laws.proofs.LawsExpr.{expr_longest, expr_none}
use Rattle.module_reading.specs.ModReading.{body_start, face_start, item_of, items_of, item_then as read_then, read_mod, read_type}
use Rattle.module_laws.proofs.FoundMod.{item_found, sig_item_found, mod_reads, type_reads}
use Rattle.module_laws.proofs.ReachMod.{item_at, items_at, sig_item_at, item_longer, sig_item_longer, plain_at, plain_is, sig_shorter}
use Rattle.longest_items.specs.Longest.{IsLongestItem, BeginsNoItem, AreLongestItems, none_begins, longest_then, IsLongestSig, BeginsNoSig}
use Rattle.longest_items.specs.Longest.{AreLongestSigs, no_sig_begins, longest_sig_then}
use Rattle.longest_items.proofs.Passing.{Passes}
use Rattle.longest_items.proofs.Lets.{let_read_past}
use Rattle.longest_items.proofs.Items.{solid_unread, plain_pass, sig_item_pass}

-- what is known to be read leaves no more
no_more_left : {A : Type 0} (r : List Tok) {o : Option (A × List Tok)} (x : A × List Tok) → o ≡ Some x → Passes r o → length x.1 ≤ length r
no_more_left {A = A} r x e p = from_some (λ (z : A × List Tok). length z.1 ≤ length r) (sym p.1 ∙ e) p.2

something : {A : Type 0} (r : List Tok) {o : Option (A × List Tok)} → o ≡ None → Passes r o → ⊥
something {A = A} r e p = let k : ◌≡◌ {A = Option (A × List Tok)} None (Some p.0) = sym e ∙ p.1 in absurd cc

-- ---- items of interfaces

module _ (f : ℕ) where
  sig_pass_at : (ts : List Tok) (i : SigItem) (r : List Tok) → length ts ≤ suc f → WfSigItem i → ts ≡ sig_item_then i r → Passes r (sig_item_at f ts)
  sig_pass_at ts i r len w q = subst (λ k. Passes r (sig_item_at f k)) (sym q) (sig_item_pass f i r w (omega (arith, len, ap length q)))

  sig_longest : (ts : List Tok) (x : SigItem × List Tok) → length ts ≤ suc f → sig_item_at f ts ≡ Some x → IsLongestSig ts x.0 x.1
  sig_longest ts x len e =
      let p = sig_item_found (read_mod f) (read_type f) f (mod_reads f) (type_reads f) ts x e in
      record { wf = p.wf; reads = p.words; longest = λ i r w q. no_more_left r x e (sig_pass_at ts i r len w q) }

  no_sig_read : (ts : List Tok) → length ts ≤ suc f → sig_item_at f ts ≡ None → BeginsNoSig ts
  no_sig_read ts len e i r w q = something r e (sig_pass_at ts i r len w q)

  sigs_longest : (n : ℕ) (ts : List Tok) → length ts ≤ n → length ts ≤ suc f
      → AreLongestSigs ts (many no_sig_item more_sig_item always (sig_item_at f) n ts).0
      (many no_sig_item more_sig_item always (sig_item_at f) n ts).1
  unfolding many
  sigs_longest zero ts len le = no_sig_begins ts (λ i r w q. absurd (omega (arith, len, ap length q, sig_item_longer i r)))
  sigs_longest (suc n) ts len le = by (sig_item_at f ts) refl (λ r l l2. sigs_longest n r l l2)
    where
      by : (o : Option (SigItem × List Tok)) → sig_item_at f ts ≡ o
          → ((r : List Tok) → length r ≤ n → length r ≤ suc f
          → AreLongestSigs r (many no_sig_item more_sig_item always (sig_item_at f) n r).0
          (many no_sig_item more_sig_item always (sig_item_at f) n r).1)
          → AreLongestSigs ts (turn no_sig_item more_sig_item always (λ r. many no_sig_item more_sig_item always (sig_item_at f) n r) o ts).0
          (turn no_sig_item more_sig_item always (λ r. many no_sig_item more_sig_item always (sig_item_at f) n r) o ts).1
      by None e more = no_sig_begins ts (no_sig_read ts le e)
      by (Some x) e more =
          let l = sig_shorter f ts x e in
          longest_sig_then ts x.0 x.1 _ _ (sig_longest ts x le e) (more x.1 (omega (arith, len, l)) (omega (arith, le, l)))

-- the items with which an interface begins
pub faces_begin_longest : (n : ℕ) (ts : List Tok) → length ts ≤ n → AreLongestSigs ts (face_start n ts).0 (face_start n ts).1
faces_begin_longest n ts len = sigs_longest n n ts len (omega (arith, len))

-- ---- items of bodies

module _ (f : ℕ) where
  plain_pass_at : (ts : List Tok) (i : Item) (r : List Tok) → length ts ≤ suc f → WfItem false i → ts ≡ item_then i r → Passes r (plain_at f ts)
  plain_pass_at ts i r len w q = subst (λ k. Passes r (plain_at f k)) (sym q) (plain_pass f i r w (omega (arith, len, ap length q)))

  expression_is : (ts : List Tok) (e : Expr × List Tok) → read_expr f wanted.Sequence ts ≡ Some e → item_at f true ts ≡ Some (ExprItem e.0, e.1)
  unfolding item_of
  expression_is ts e h = rw h refl

  fresh_is : (ts : List Tok) → read_expr f wanted.Sequence ts ≡ None → item_at f true ts ≡ plain_at f ts
  unfolding item_of
  fresh_is ts h = rw h refl

-- a value begins where an expression is read
value_past : (f : ℕ) (at : ℕ) (recursive : Bool) (b : Binding) (bs : Bindings) (r : List Tok) (x : Expr × List Tok) → WfBinding b → WfBindings bs
    → length (item_then (ValueItem at recursive b bs) r) ≤ f → read_expr f wanted.Sequence (item_then (ValueItem at recursive b bs) r) ≡ Some x
    → length x.1 ≤ length r
value_past zero at recursive b bs r x w ws len e = absurd (omega (arith, len))
value_past (suc f) at recursive b bs r x w ws len e = let_read_past f at recursive b bs r w ws x len e

-- an expression that is read is longer than other items
expression_past : (f : ℕ) (ts : List Tok) (x : Expr × List Tok) → length ts ≤ f → read_expr f wanted.Sequence ts ≡ Some x → (i : Item) (r : List Tok)
    → WfItem true i → ts ≡ item_then i r → length x.1 ≤ length r
expression_past f ts x len e (ExprItem e') r w q = (expr_longest f ts x.0 x.1 len e).longest e' r w.1 (q ∙ expr_front e' r)
expression_past f ts x len e (ValueItem at recursive b bs) r w q =
    value_past f at recursive b bs r x w.0 w.1 (omega (arith, len, ap length q)) (subst (λ k. read_expr f wanted.Sequence k ≡ Some x) q e)
expression_past f ts x len e i r w q =
    let n = solid_unread f i r refl in
    let k : ◌≡◌ {A = Option (Expr × List Tok)} None (Some x) = sym n ∙ ap (read_expr f wanted.Sequence) (sym q) ∙ e in
    absurd cc

-- where no expression is read, another item begins
unfresh : (f : ℕ) (ts : List Tok) → length ts ≤ f → read_expr f wanted.Sequence ts ≡ None → (i : Item) (r : List Tok) → WfItem true i
    → ts ≡ item_then i r → WfItem false i
unfresh f ts len e (ExprItem e') r w q = absurd (expr_none f ts len e e' r w.1 (q ∙ expr_front e' r))
unfresh f ts len e i r w q = w

item_past : (f : ℕ) (fresh : Bool) (ts : List Tok) (x : Item × List Tok) → length ts ≤ f → item_at f fresh ts ≡ Some x → (i : Item) (r : List Tok)
    → WfItem fresh i → ts ≡ item_then i r → length x.1 ≤ length r
item_past f false ts x len e i r w q = no_more_left r x (sym (plain_is f ts) ∙ e) (plain_pass_at f ts i r (omega (arith, len)) w q)
item_past f true ts x len e i r w q = by (read_expr f wanted.Sequence ts) refl
  where
    by : (o : Option (Expr × List Tok)) → read_expr f wanted.Sequence ts ≡ o → length x.1 ≤ length r
    by (Some y) h =
        from_some (λ (z : Item × List Tok). length z.1 ≤ length r) (sym (expression_is f ts y h) ∙ e) (expression_past f ts y len h i r w q)
    by None h = no_more_left r x (sym (fresh_is f ts h) ∙ e) (plain_pass_at f ts i r (omega (arith, len)) (unfresh f ts len h i r w q) q)

item_longest : (f : ℕ) (fresh : Bool) (ts : List Tok) (x : Item × List Tok) → length ts ≤ f → item_at f fresh ts ≡ Some x
    → IsLongestItem fresh ts x.0 x.1
item_longest f fresh ts x len e =
    let p = item_found (read_mod f) (read_type f) f (mod_reads f) (type_reads f) fresh ts x e in
    record { wf = p.wf; reads = p.words; longest = item_past f fresh ts x len e }

no_item_read : (f : ℕ) (fresh : Bool) (ts : List Tok) → length ts ≤ f → item_at f fresh ts ≡ None → BeginsNoItem fresh ts
no_item_read f false ts len e i r w q = something r (sym (plain_is f ts) ∙ e) (plain_pass_at f ts i r (omega (arith, len)) w q)
no_item_read f true ts len e i r w q = by (read_expr f wanted.Sequence ts) refl
  where
    by : (o : Option (Expr × List Tok)) → read_expr f wanted.Sequence ts ≡ o → ⊥
    by (Some y) h = let k : ◌≡◌ {A = Option (Item × List Tok)} None (Some (ExprItem y.0, y.1)) = sym e ∙ expression_is f ts y h in absurd cc
    by None h = something r (sym (fresh_is f ts h) ∙ e) (plain_pass_at f ts i r (omega (arith, len)) (unfresh f ts len h i r w q) q)

items_longest : (f n : ℕ) (fresh : Bool) (ts : List Tok) → length ts ≤ n → length ts ≤ f
    → AreLongestItems fresh ts (items_at f n fresh ts).0 (items_at f n fresh ts).1
unfolding items_of
items_longest f zero fresh ts len le = none_begins fresh ts (λ i r w q. absurd (omega (arith, len, ap length q, item_longer fresh i r w)))
items_longest f (suc n) fresh ts len le = by (item_at f fresh ts) refl (λ g r l l2. items_longest f n g r l l2)
  where
    by : (o : Option (Item × List Tok)) → item_at f fresh ts ≡ o
        → ((g : Bool) (r : List Tok) → length r ≤ n → length r ≤ f → AreLongestItems g r (items_at f n g r).0 (items_at f n g r).1)
        → AreLongestItems fresh ts (read_then (read_mod f) (read_type f) f (items_at f n) ts o).0
        (read_then (read_mod f) (read_type f) f (items_at f n) ts o).1
    by None e more = none_begins fresh ts (no_item_read f fresh ts le e)
    by (Some x) e more =
        let p = item_longest f fresh ts x le e in
        longest_then fresh ts x.0 x.1 _ _ p (more (is_separator x.0) x.1 (omega (arith, len, ap length p.reads, item_longer fresh x.0 x.1 p.wf))
        (omega (arith, le, ap length p.reads, item_longer fresh x.0 x.1 p.wf)))

-- the items with which a body begins
pub bodies_begin_longest : (n : ℕ) (ts : List Tok) → length ts ≤ n → AreLongestItems true ts (body_start n ts).0 (body_start n ts).1
bodies_begin_longest n ts len = items_longest n n true ts len len
