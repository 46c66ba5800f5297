-- No row, bracketed expression, atom or application is missed, if none of its parts is.
use Rattle.std.proofs.Common.{◌≡◌, ◌≢◌, ℕ, zero, suc, ◌<◌, ◌≤◌, ◌⊎◌, inl, inr, List, [], ◌∷◌, ◌++◌, length, Bool, true, false, cond, not, Option}
use Rattle.std.proofs.Common.{Some, None, refl, sym, ap, subst, ◌∙◌, arith}
use Rattle.rotor_base.specs.declared.token.Class.{Class}
use Rattle.rotor_base.specs.declared.token.Class.TheVariants as class
use Rattle.ml_trees.specs.declared.fixed.Fixed.{Fixed}
use Rattle.ml_trees.specs.declared.fixed.Fixed.TheVariants as key
use Rattle.ml_trees.specs.declared.word.Bracket.{Bracket}
use Rattle.ml_trees.specs.declared.word.Bracket.TheVariants as bracket
use Rattle.ml_trees.specs.Tok.{Name, Tok, fixed, placed, word}
use Rattle.expr_reading.specs.declared.wanted.Wanted.TheVariants as wanted
use Rattle.ml_trees.specs.Runs.{has_colon, is_type_run}
use Rattle.ml_trees.proofs.Words.{direction, closing, opening, dotted_then, path_then, qualified_then, name_then, optional_then, variable_then}
use Rattle.ml_trees.proofs.Words.{expr_then, links_then, argument_then, arguments_then, part_then, parts_then}
use Rattle.ml_trees.specs.WellFormed.{WfName, WfType, is_literal, is_operator, level, NoForm, is_bare, is_constr, is_bracketed, Wf, WfSeq, WfPart}
use Rattle.ml_trees.specs.WellFormed.{WfParts, WfArgument, WfArguments}
use Rattle.ml_trees.specs.Tree.{ValueName, PlainName, OperatorName, Variable, PlainVariable, AnyVariable, Expr, Apply, ConstrApply, TagApply, Assert}
use Rattle.ml_trees.specs.Tree.{Lazy, Postfix, Prefixed, Literal, BoolExpr, Value, Constr, Tag, UnitExpr, Paren, Typed, Coerced, EmptyBegin, Begin}
use Rattle.ml_trees.specs.Tree.{EmptyList, ListExpr, Record, Opened, While, For, Links, no_link, more_link, Argument, Positional, LabelPun, Labelled}
use Rattle.ml_trees.specs.Tree.{Arguments, no_argument, more_argument, Part, LabelPart, IndexPart, CharPart, Parts, no_part, more_part}
use Rattle.token_reading.specs.Steps.{Read, ◌>>=◌, expect, many, many_if, always}
use Rattle.token_reading.specs.Pieces.{dot_upper, more_uppers}
use Rattle.token_reading.proofs.Stepping.{some_is, from_some, bind_ok}
use Rattle.token_reading.proofs.Reach.{Beyond, exact, farther, Reach, stop, weaken, and_then, as_read, many_shorter, many_if_shorter, no_turn}
use Rattle.token_reading.proofs.Reach.{last_turn}
use Rattle.token_reading.proofs.Reach.{more_turns, map_some, map_read, expect_same}
use Rattle.pattern_reading.proofs.LongerPat.{dotted_longer, path_longer, qualified_longer}
use Rattle.token_reading.proofs.ReachPieces.{uppers_reach, qualifiers_reach, type_run_read}
use Rattle.expr_reading.specs.ExprReading.{no_form, grown_apply, grown_postfix, cons_link, last_of, qualified, opened_or, constr_applied}
use Rattle.expr_reading.specs.ExprReading.{semicolon_if, for_variable, for_direction, closed_by, semicolon_part, row, paren_expr, begin_expr}
use Rattle.expr_reading.specs.ExprReading.{list_expr, bracket_expr, while_expr, for_expr, enclosed, opened_part, upper_expr, atom, prefixed}
use Rattle.expr_reading.specs.ExprReading.{part_behind, postfix, argument, applied, apply, read_expr}
use Rattle.expr_laws.proofs.LongerExpr.{variable_more, expr_more, expr_longer}
use Rattle.expr_laws.proofs.FirstWord.{begins_postfix, begins_expr, Begins, expr_begins, Starts, expr_starts, high_plain}
use Rattle.expr_laws.proofs.FoundExpr.{Finds, Above, qualified_words, semicolon_part_found, enclosed_found, part_found, postfix_found}
use Rattle.expr_laws.proofs.FoundExpr.{argument_found, expr_reads}
use Rattle.expr_laws.proofs.GoesExpr.{Holds, Begun, Goes, clash, fixed_begun, closer_stops, semicolon_stops, starts_hold, starts_stop, AtDot}
use Rattle.expr_laws.proofs.GoesExpr.{weaker}
use Rattle.expr_laws.proofs.ReachParams.{enclosed_at, prefixed_at, postfix_at, Good, AllLinks, GoodLinks, GoodArgument, GoodArguments, GoodPart}
use Rattle.expr_laws.proofs.ReachParams.{GoodParts, sub_expr, sub_prefixed, seq_exact}

-- ---- rows between `;`

semicolon_shorter : (b : Bool) (ts : List Tok) → length (semicolon_if b ts).1 ≤ length ts
semicolon_shorter true (fixed key.Semicolon ∷ ts) = omega arith
semicolon_shorter true [] = omega arith
semicolon_shorter true (_ ∷ ts) = omega arith
semicolon_shorter false ts = omega arith

semicolon_cases : (b : Bool) (ts : List Tok) → (semicolon_if b ts ≡ (false, ts)) ⊎ (Holds 0 ts × (length (semicolon_if b ts).1 < length ts))
semicolon_cases true (fixed key.Semicolon ∷ ts) = inr (omega arith, omega arith)
semicolon_cases true [] = inl refl
semicolon_cases true (_ ∷ ts) = inl refl
semicolon_cases false ts = inl refl

row_end : (e : Expr) (es : Links) (last : Bool) → WfSeq e es last → last ≡ true → NoForm (last_of e es)
row_end e no_link last w h = w h
row_end e (more_link t e' es) last w h = row_end e' es last w.4 h

link_stops : (e : Expr) (t : Tok) (r : List Tok) → NoForm e → t ≡ fixed key.Semicolon → Goes 3 e (t ∷ r) → ⊥
link_stops e t r q h = rw h (semicolon_stops 3 e r (omega arith) q)

same_tail : (k : Fixed) (ts us : List Tok) → fixed k ∷ ts ≡ fixed k ∷ us → us ≡ ts
same_tail k ts us e = cc

module _ (f m : ℕ) (le : f ≤ m) (one : Read Expr) (found : Finds (Above 0) one) (G : Expr → Type 0)
    (hits : (e : Expr) → G e → 0 < level e → Wf e → (r : List Tok) → length (expr_then e r) ≤ m → Reach (Goes 3 e r) e r (one (expr_then e r))) where
  abbrev semi_at : Read (Tok × Expr)
  semi_at = semicolon_part (read_expr f) f one

  semi_is : (ts : List Tok) (x : (Tok × Expr) × List Tok) → semi_at ts ≡ Some x → (r : List Tok) × (ts ≡ fixed key.Semicolon ∷ r) × Begun r
      × (length x.1 < length r)
  semi_is ts x e =
      let p = semicolon_part_found (read_expr f) f (expr_reads f) one found ts x e in (
        p.0,
        p.1,
        record { tree = x.0.1; rest = x.1; fits = p.3.fits; wf = p.3.wf; words = p.3.words },
        omega (arith, ap length p.3.words, expr_longer x.0.1 x.1 p.3.wf),
      )

  semi_shorter : (ts : List Tok) (x : (Tok × Expr) × List Tok) → semi_at ts ≡ Some x → length x.1 < length ts
  semi_shorter ts x e = let p = semi_is ts x e in omega (arith, ap length p.1, p.3)

  semi_at_is : (ts : List Tok) → semi_at (fixed key.Semicolon ∷ ts) ≡ (one ts >>= λ x. Some ((fixed key.Semicolon, x.0), x.1))
  semi_at_is ts = refl

  abbrev more_at : ℕ → List Tok → Links × List Tok
  more_at n ts = many no_link cons_link (λ x. no_form x.1) semi_at n ts

  abbrev more_if : Expr → List Tok → Links × List Tok
  more_if e ts = many_if (no_form e) no_link cons_link (λ x. no_form x.1) semi_at f ts

  module _ (D : Type 0) (r : List Tok) (b : ℕ) (next : (x : (Tok × Expr) × List Tok) → semi_at r ≡ Some x → D × (length x.1 < b)) where
    row_links : (e0 : Expr) (t : Tok) (e : Expr) (es : Links) (last : Bool) → AllLinks G (more_link t e es) → WfSeq e0 (more_link t e es) last
        → ((res : Option ((Tok × Expr) × List Tok)) → Reach (Goes 3 (last_of e es) r) (fixed key.Semicolon, last_of e es) r res
        → Beyond D (fixed key.Semicolon, last_of e es) r b res)
        → (n : ℕ) → length (links_then (more_link t e es) r) ≤ n → n ≤ f
        → Beyond D (more_link t e es) r b (Some (more_at n (links_then (more_link t e es) r)))
    row_links e0 t e es last g w edge zero len k = absurd (omega (arith, len))
    row_links e0 t e no_link last g w edge (suc n) len k =
        let part : Beyond D (fixed key.Semicolon, e) r b (semi_at (fixed key.Semicolon ∷ expr_then e r)) =
        edge _ (map_read (λ x. (fixed key.Semicolon, x)) (λ h. h) (hits e g.0 w.2 w.3 r (omega (arith, len, k, le)))) in
        rw w.1 (last_turn no_link cons_link (λ x. no_form x.1) semi_at semi_shorter D (fixed key.Semicolon, e) r
        (fixed key.Semicolon ∷ expr_then e r) b n part (λ h x q. next x q))
    row_links e0 t e (more_link t' e' es) last g w edge (suc n) len k =
        let rest : List Tok = links_then (more_link t' e' es) r in
        let l1 = expr_longer e rest w.3 in
        let first : one (expr_then e rest) ≡ Some (e, rest) = stop (link_stops e t' (expr_then e' (links_then es r)) w.4.0 w.4.1)
        (hits e g.0 w.2 w.3 rest (omega (arith, len, k, le))) in
        let part : semi_at (fixed key.Semicolon ∷ expr_then e rest) ≡ Some ((fixed key.Semicolon, e), rest) = semi_at_is (expr_then e rest)
        ∙ ap (λ o. o >>= λ x. Some ((fixed key.Semicolon, x.0), x.1)) first in
        rw w.1 (more_turns no_link cons_link (λ x. no_form x.1) semi_at semi_shorter D (fixed key.Semicolon, e) (more_link t' e' es) r
        (fixed key.Semicolon ∷ expr_then e rest) rest b n part (ap not w.4.0)
        (row_links e t' e' es last g.1 w.4 edge n (omega (arith, len, l1)) (omega (arith, k))))

    row_all : (e : Expr) (es : Links) (last : Bool) → AllLinks G es → WfSeq e es last
        → ((t : Tok) (res : Option ((Tok × Expr) × List Tok)) → Reach (Goes 3 (last_of e es) r) (t, last_of e es) r res
        → Beyond D (t, last_of e es) r b res)
        → length (links_then es r) ≤ f → Beyond D es r b (Some (more_if e (links_then es r)))
    row_all e no_link last g w edge len = no_turn no_link cons_link (λ x. no_form x.1) semi_at semi_shorter D (no_form e) r b f (λ h x q. next x q)
    row_all e (more_link t e' es) last g w edge len =
        let on : no_form e ≡ true = ap not w.0 in
        rw on (row_links e t e' es last g w (edge (fixed key.Semicolon)) f len (omega arith))

  module _ (grown : Expr → Links → Bool → Expr) (C : Type 0) (r : List Tok) (opens : Holds 0 r → C) where
    abbrev finish : Expr → Links × List Tok → Expr × List Tok
    finish e x = (grown e x.0 (semicolon_if (no_form (last_of e x.0)) x.1).0, (semicolon_if (no_form (last_of e x.0)) x.1).1)

    finish_plain : (e : Expr) (es : Links) (x : Links × List Tok) → Reach C es r (Some x) → Reach C (grown e es false) r (Some (finish e x))
    finish_plain e es x (exact k) = let q = some_is k in rw q (by (semicolon_cases (no_form (last_of e es)) r))
      where
        by : (semicolon_if (no_form (last_of e es)) r ≡ (false, r)) ⊎ (Holds 0 r × (length (semicolon_if (no_form (last_of e es)) r).1 < length r))
            → Reach C (grown e es false) r (Some (finish e (es, r)))
        by (inl h) = exact (rw h refl)
        by (inr h) = farther (opens h.0) (finish e (es, r)) refl h.1
    finish_plain e es x (farther c y k lt) =
        farther c (finish e x) refl
        (omega (arith, lt, semicolon_shorter (no_form (last_of e x.0)) x.1, ap length (ap (λ (z : Links × List Tok). z.1) (some_is k))))

    finish_last : (e : Expr) (es : Links) (x : Links × List Tok) → NoForm (last_of e es) → Beyond C es (fixed key.Semicolon ∷ r) (length r) (Some x)
        → Reach C (grown e es true) r (Some (finish e x))
    finish_last e es x h (exact k) = let q = some_is k in let on : no_form (last_of e es) ≡ true = ap not h in exact (rw (q, on) refl)
    finish_last e es x h (farther c y k lt) =
        farther c (finish e x) refl
        (omega (arith, lt, semicolon_shorter (no_form (last_of e x.0)) x.1, ap length (ap (λ (z : Links × List Tok). z.1) (some_is k))))

    next_plain : (x : (Tok × Expr) × List Tok) → semi_at r ≡ Some x → C × (length x.1 < length r)
    next_plain x e = let p = semi_is r x e in (opens (subst (Holds 0) (sym p.1) (omega arith)), semi_shorter r x e)

    next_last : (Begun r → C) → (x : (Tok × Expr) × List Tok) → semi_at (fixed key.Semicolon ∷ r) ≡ Some x → C × (length x.1 < length r)
    next_last begun x e =
        let p = semi_is (fixed key.Semicolon ∷ r) x e in
        let same : p.0 ≡ r = same_tail key.Semicolon r p.0 p.1 in
        (begun (subst Begun same p.2), omega (arith, p.3, ap length same))

    row_is : (ts : List Tok) → row (read_expr f) f one grown ts ≡ (one ts >>= λ x. Some (finish x.0 (more_if x.0 x.1)))
    row_is ts = refl

    pub row_reach : (e : Expr) (es : Links) (last : Bool) → G e → AllLinks G es → 0 < level e → Wf e → WfSeq e es last
        → (last ≡ false → Goes 3 (last_of e es) r → C) → (last ≡ true → Begun r → C)
        → length (expr_then e (links_then es (optional_then key.Semicolon last r))) ≤ m
        → length (links_then es (optional_then key.Semicolon last r)) ≤ f
        → Reach C (grown e es last) r (row (read_expr f) f one grown (expr_then e (links_then es (optional_then key.Semicolon last r))))
    row_reach e no_link false g gs lv w ws edge begun len le' =
        and_then (grown e no_link false) r (λ x. Some (finish x.0 (more_if x.0 x.1)))
        (finish_plain e no_link (more_if e r) (row_all C r (length r) next_plain e no_link false tt ws (λ t res h. weaken (edge refl) h) le'))
        (edge refl)
        (λ x. (
          finish x.0 (more_if x.0 x.1),
          refl,
          omega (
            arith,
            semicolon_shorter (no_form (last_of x.0 (more_if x.0 x.1).0)) (more_if x.0 x.1).1,
            many_if_shorter no_link cons_link
                (λ x. no_form x.1) semi_at semi_shorter (no_form x.0) f x.1,
          ),
        ))
        (hits e g lv w r len)
    row_reach e (more_link t e' es) false g gs lv w ws edge begun len le' =
        let rest : List Tok = links_then (more_link t e' es) r in
        let first : one (expr_then e rest) ≡ Some (e, rest) = stop (link_stops e t (expr_then e' (links_then es r)) ws.0 ws.1)
        (hits e g lv w rest len) in
        as_read (row_is (expr_then e rest) ∙ ap (λ o. o >>= λ x. Some (finish x.0 (more_if x.0 x.1))) first)
        (finish_plain e (more_link t e' es) (more_if e rest)
        (row_all C r (length r) next_plain e (more_link t e' es) false gs ws (λ t res h. weaken (edge refl) h) le'))
    row_reach e no_link true g gs lv w ws edge begun len le' =
        let rest : List Tok = fixed key.Semicolon ∷ r in
        let first : one (expr_then e rest) ≡ Some (e, rest) = stop (semicolon_stops 3 e r (omega arith) (ws refl)) (hits e g lv w rest len) in
        as_read (row_is (expr_then e rest) ∙ ap (λ o. o >>= λ x. Some (finish x.0 (more_if x.0 x.1))) first)
        (finish_last e no_link (more_if e rest) (ws refl)
        (row_all C rest (length r) (next_last (begun refl)) e no_link true tt ws
        (λ t res h. exact (stop (semicolon_stops 3 e r (omega arith) (ws refl)) h)) le'))
    row_reach e (more_link t e' es) true g gs lv w ws edge begun len le' =
        let rest : List Tok = links_then (more_link t e' es) (fixed key.Semicolon ∷ r) in
        let quiet : NoForm (last_of e' es) = row_end e' es true ws.4 refl in
        let first : one (expr_then e rest) ≡ Some (e, rest) = stop (link_stops e t (expr_then e' (links_then es (fixed key.Semicolon ∷ r))) ws.0 ws.1)
        (hits e g lv w rest len) in
        as_read (row_is (expr_then e rest) ∙ ap (λ o. o >>= λ x. Some (finish x.0 (more_if x.0 x.1))) first)
        (finish_last e (more_link t e' es) (more_if e rest) quiet
        (row_all C (fixed key.Semicolon ∷ r) (length r) (next_last (begun refl)) e (more_link t e' es) true gs ws
        (λ t res h. exact (stop (semicolon_stops 3 (last_of e' es) r (omega arith) quiet) h)) le'))

-- ---- which clause of a reading is taken

module _ (f : ℕ) where
  paren_by : (at : ℕ) (t : Tok) (r : List Tok) (b : Bool) → is_operator t ≡ b → (b ≡ true → ⊥)
      → cond b (Some (Value [] (OperatorName at t), r)) (read_expr f wanted.Sequence (t ∷ fixed key.RightParen ∷ r) >>= λ e. closed_by at e.0 e.1)
      ≡ (read_expr f wanted.Sequence (t ∷ fixed key.RightParen ∷ r) >>= λ e. closed_by at e.0 e.1)
  paren_by at t r true h never = absurd (never refl)
  paren_by at t r false h never = refl

  abbrev Behind : Tok → List Tok → Type 0
  Behind t rest = is_operator t ≡ true → (u : Tok) × (r : List Tok) × (rest ≡ u ∷ r) × (begins_expr u ≡ true)

  close_not : (r : List Tok) → (u : Tok) × (k : List Tok) × (fixed key.RightParen ∷ r ≡ u ∷ k) × (begins_expr u ≡ true) → ⊥
  close_not r x = by x.0 x.1 x.2 x.3
    where
      by : (u : Tok) (k : List Tok) → fixed key.RightParen ∷ r ≡ u ∷ k → begins_expr u ≡ true → ⊥
      by (fixed x) k q b = absurd cc
      by (placed x at) k q b = absurd cc
      by (word c x) k q b = absurd cc

  paren_first : (at : ℕ) (t : Tok) (rest : List Tok) → begins_expr t ≡ true → Behind t rest
      → paren_expr (read_expr f) f at (t ∷ rest) ≡ (read_expr f wanted.Sequence (t ∷ rest) >>= λ e. closed_by at e.0 e.1)
  unfolding paren_expr
  paren_first at (fixed x) rest b behind = absurd cc
  paren_first at (placed x at') (fixed key.RightParen ∷ r) b behind = paren_by at (placed x at') r (is_operator (placed x at')) refl
      (λ h. close_not r (behind h))
  paren_first at (word c x) (fixed key.RightParen ∷ r) b behind = paren_by at (word c x) r (is_operator (word c x)) refl (λ h. close_not r (behind h))
  paren_first at (placed x at') _ b behind = refl
  paren_first at (word c x) _ b behind = refl

  paren_else : (at : ℕ) (ts : List Tok) → Begins ts
      → paren_expr (read_expr f) f at ts ≡ (read_expr f wanted.Sequence ts >>= λ e. closed_by at e.0 e.1)
  paren_else at ts o = subst (λ k. paren_expr (read_expr f) f at k ≡ (read_expr f wanted.Sequence k >>= λ e. closed_by at e.0 e.1)) (sym o.is)
      (paren_first at o.first o.rest o.begins o.behind)

  begin_first : (at : ℕ) (t : Tok) (rest : List Tok) → begins_expr t ≡ true
      → begin_expr (read_expr f) f at (t ∷ rest)
      ≡ (read_expr f wanted.Sequence (t ∷ rest) >>= λ e. expect key.End e.1 >>= λ r. Some (Begin at e.0, r))
  unfolding begin_expr
  begin_first at (fixed x) rest b = absurd cc
  begin_first at (placed x at') rest b = refl
  begin_first at (word c x) rest b = refl

  begin_else : (at : ℕ) (ts : List Tok) → Begins ts
      → begin_expr (read_expr f) f at ts ≡ (read_expr f wanted.Sequence ts >>= λ e. expect key.End e.1 >>= λ r. Some (Begin at e.0, r))
  begin_else at ts o = subst
      (λ k. begin_expr (read_expr f) f at k ≡ (read_expr f wanted.Sequence k >>= λ e. expect key.End e.1 >>= λ r. Some (Begin at e.0, r))) (sym o.is)
      (begin_first at o.first o.rest o.begins)

  bracket_first : (at : ℕ) (b : Bracket) (t : Tok) (rest : List Tok) → begins_expr t ≡ true
      → bracket_expr (read_expr f) f at b (t ∷ rest) ≡ list_expr (read_expr f) f at b (t ∷ rest)
  unfolding bracket_expr
  bracket_first at b (fixed x) rest h = absurd cc
  bracket_first at bracket.List (placed x at') rest h = refl
  bracket_first at bracket.Array (placed x at') rest h = refl
  bracket_first at bracket.List (word c x) rest h = refl
  bracket_first at bracket.Array (word c x) rest h = refl

  bracket_else : (at : ℕ) (b : Bracket) (ts : List Tok) → Begins ts → bracket_expr (read_expr f) f at b ts ≡ list_expr (read_expr f) f at b ts
  bracket_else at b ts o = subst (λ k. bracket_expr (read_expr f) f at b k ≡ list_expr (read_expr f) f at b k) (sym o.is)
      (bracket_first at b o.first o.rest o.begins)

  enclosed_bracket : (at : ℕ) (b : Bracket) (ts : List Tok) → enclosed_at f (placed (opening b) at ∷ ts) ≡ bracket_expr (read_expr f) f at b ts
  unfolding enclosed
  enclosed_bracket at bracket.List ts = refl
  enclosed_bracket at bracket.Array ts = refl

  -- ---- parentheses

  operator_read : (at : ℕ) (t : Tok) (r : List Tok) → is_operator t ≡ true
      → enclosed_at f (placed key.LeftParen at ∷ t ∷ fixed key.RightParen ∷ r) ≡ Some (Value [] (OperatorName at t), r)
  unfolding enclosed paren_expr
  operator_read at (fixed x) r w = absurd cc
  operator_read at (placed x at') r w = rw w refl
  operator_read at (word c x) r w = rw w refl

  pub name_enclosed : (x : ValueName) (r : List Tok) → WfName x → enclosed_at f (name_then x r) ≡ Some (Value [] x, r)
  unfolding enclosed
  name_enclosed (PlainName x) r w = refl
  name_enclosed (OperatorName at t) r w = operator_read at t r w

  pub unit_read : (at : ℕ) (r : List Tok) → enclosed_at f (expr_then (UnitExpr at) r) ≡ Some (UnitExpr at, r)
  unfolding enclosed paren_expr
  unit_read at r = refl

  paren_is : (at : ℕ) (ts : List Tok) → enclosed_at f (placed key.LeftParen at ∷ ts) ≡ paren_expr (read_expr f) f at ts
  unfolding enclosed
  paren_is at ts = refl

  pub paren_read : (at : ℕ) (e : Expr) (r : List Tok) → Good e → Wf e → length (expr_then (Paren at e) r) ≤ suc f
      → enclosed_at f (expr_then (Paren at e) r) ≡ Some (Paren at e, r)
  paren_read at e r g w len =
      let rest : List Tok = fixed key.RightParen ∷ r in
      let inside = seq_exact e g w f key.RightParen r refl (λ h. cc) (λ h. cc) (omega (arith, len)) in
      paren_is at (expr_then e rest) ∙ paren_else at (expr_then e rest) (expr_begins e rest w) ∙ rw inside refl

  pub typed_read : (at : ℕ) (e : Expr) (run r : List Tok) → Good e → Wf e → is_type_run run ≡ true → length (expr_then (Typed at e run) r) ≤ suc f
      → enclosed_at f (expr_then (Typed at e run) r) ≡ Some (Typed at e run, r)
  typed_read at e run r g w t len =
      let rest : List Tok = fixed key.Colon ∷ (run ++ (fixed key.RightParen ∷ r)) in
      let inside = seq_exact e g w f key.Colon (run ++ (fixed key.RightParen ∷ r)) refl (λ h. cc) (λ h. cc) (omega (arith, len)) in
      let type = type_run_read run (fixed key.RightParen ∷ r) t refl in
      paren_is at (expr_then e rest) ∙ paren_else at (expr_then e rest) (expr_begins e rest w) ∙ rw (inside, type) refl

  pub coerced_read : (at : ℕ) (e : Expr) (from : Option (List Tok)) (to r : List Tok) → Good e → Wf e → WfType from → is_type_run to ≡ true
      → length (expr_then (Coerced at e from to) r) ≤ suc f → enclosed_at f (expr_then (Coerced at e from to) r) ≡ Some (Coerced at e from to, r)
  coerced_read at e None to r g w wt t len =
      let rest : List Tok = fixed key.ColonGreater ∷ (to ++ (fixed key.RightParen ∷ r)) in
      let inside = seq_exact e g w f key.ColonGreater (to ++ (fixed key.RightParen ∷ r)) refl (λ h. cc) (λ h. cc) (omega (arith, len)) in
      let type = type_run_read to (fixed key.RightParen ∷ r) t refl in
      paren_is at (expr_then e rest) ∙ paren_else at (expr_then e rest) (expr_begins e rest w) ∙ rw (inside, type) refl
  coerced_read at e (Some run) to r g w wt t len =
      let behind : List Tok = fixed key.ColonGreater ∷ (to ++ (fixed key.RightParen ∷ r)) in
      let rest : List Tok = fixed key.Colon ∷ (run ++ behind) in
      let inside = seq_exact e g w f key.Colon (run ++ behind) refl (λ h. cc) (λ h. cc) (omega (arith, len)) in
      let first = type_run_read run behind wt refl in
      let type = type_run_read to (fixed key.RightParen ∷ r) t refl in
      paren_is at (expr_then e rest) ∙ paren_else at (expr_then e rest) (expr_begins e rest w) ∙ rw (inside, first, type) refl

  -- ---- lists

  closing_stops : (n : ℕ) (e : Expr) (b : Bracket) (r : List Tok) → Goes n e (fixed (closing b) ∷ r) → ⊥
  closing_stops n e bracket.List r h = closer_stops n e key.RightBracket r refl (λ q. cc) (λ q. cc) h
  closing_stops n e bracket.Array r h = closer_stops n e key.RightArray r refl (λ q. cc) (λ q. cc) h

  closing_holds : (b : Bracket) (r : List Tok) → Holds 0 (fixed (closing b) ∷ r) → ⊥
  closing_holds bracket.List r h = absurd (omega (arith, h))
  closing_holds bracket.Array r h = absurd (omega (arith, h))

  pub empty_list_read : (at : ℕ) (b : Bracket) (r : List Tok) → enclosed_at f (expr_then (EmptyList at b) r) ≡ Some (EmptyList at b, r)
  unfolding enclosed bracket_expr
  empty_list_read at bracket.List r = refl
  empty_list_read at bracket.Array r = refl

  le_self : (n : ℕ) → n ≤ n
  le_self n = omega arith

  pub list_read : (at : ℕ) (b : Bracket) (e : Expr) (es : Links) (last : Bool) (r : List Tok) → Good e → GoodLinks es → Wf (ListExpr at b e es last)
      → length (expr_then (ListExpr at b e es last) r) ≤ suc f → enclosed_at f (expr_then (ListExpr at b e es last) r) ≡ Some
      (ListExpr at b e es last, r)
  list_read at b e es last r g gs w len =
      let k : List Tok = fixed (closing b) ∷ r in
      let rest : List Tok = links_then es (optional_then key.Semicolon last k) in
      let l1 = expr_longer e rest w.1 in
      let whole = row_reach f f (le_self f) (read_expr f wanted.Expression) (expr_reads f wanted.Expression) Good
      (λ e g lv w r len. sub_expr e g lv w f r len) (ListExpr at b) ⊥ k (closing_holds b r) e es last g gs w.0 w.1 w.2
      (λ _ h. closing_stops 3 (last_of e es) b r h) (λ _ h. fixed_begun (closing b) r h) (omega (arith, len)) (omega (arith, len, l1)) in
      let row = stop (λ h. h) whole in
      let close = expect_same (closing b) r in
      enclosed_bracket at b (expr_then e rest) ∙ bracket_else at b (expr_then e rest) (expr_begins e rest w.1) ∙ rw (row, close) refl

  -- ---- `begin`, `while` and `for`

  abbrev atom_at : Read Expr
  atom_at = atom (read_expr f) f

  begin_is : (at : ℕ) (ts : List Tok) → prefixed_at f (placed key.Begin at ∷ ts) ≡ begin_expr (read_expr f) f at ts
  unfolding prefixed atom
  begin_is at ts = refl

  pub empty_begin_read : (at : ℕ) (r : List Tok) → prefixed_at f (expr_then (EmptyBegin at) r) ≡ Some (EmptyBegin at, r)
  unfolding prefixed atom begin_expr
  empty_begin_read at r = refl

  pub begin_read : (at : ℕ) (e : Expr) (r : List Tok) → Good e → Wf e → length (expr_then (Begin at e) r) ≤ suc f
      → prefixed_at f (expr_then (Begin at e) r) ≡ Some (Begin at e, r)
  begin_read at e r g w len =
      let rest : List Tok = fixed key.End ∷ r in
      let inside = seq_exact e g w f key.End r refl (λ h. cc) (λ h. cc) (omega (arith, len)) in
      begin_is at (expr_then e rest) ∙ begin_else at (expr_then e rest) (expr_begins e rest w) ∙ rw inside refl

  pub while_read : (at : ℕ) (c e : Expr) (r : List Tok) → Good c → Good e → Wf (While at c e) → length (expr_then (While at c e) r) ≤ suc f
      → prefixed_at f (expr_then (While at c e) r) ≡ Some (While at c e, r)
  unfolding prefixed atom while_expr
  while_read at c e r gc ge w len =
      let rest : List Tok = expr_then e (fixed key.Done ∷ r) in
      let l = expr_more c (fixed key.Do ∷ rest) in
      let e1 = seq_exact c gc w.0 f key.Do rest refl (λ h. cc) (λ h. cc) (omega (arith, len)) in
      let e2 = seq_exact e ge w.1 f key.Done r refl (λ h. cc) (λ h. cc) (omega (arith, len, l)) in
      rw (e1, e2) refl

  variable_read : (x : Variable) (k : List Tok) → for_variable (variable_then x k) ≡ Some (x, k)
  variable_read (PlainVariable x) k = refl
  variable_read (AnyVariable at) k = refl

  direction_read : (down : Bool) (k : List Tok) → for_direction (fixed (direction down) ∷ k) ≡ Some (down, k)
  direction_read true k = refl
  direction_read false k = refl

  direction_exact : (e : Expr) → Good e → Wf e → (down : Bool) (k : List Tok) → length (expr_then e (fixed (direction down) ∷ k)) ≤ f
      → read_expr f wanted.Sequence (expr_then e (fixed (direction down) ∷ k)) ≡ Some (e, fixed (direction down) ∷ k)
  direction_exact e g w true k len = seq_exact e g w f key.Downto k refl (λ h. cc) (λ h. cc) len
  direction_exact e g w false k len = seq_exact e g w f key.To k refl (λ h. cc) (λ h. cc) len

  pub for_read : (at : ℕ) (x : Variable) (q : ℕ) (a : Expr) (down : Bool) (b e : Expr) (r : List Tok) → Good a → Good b → Good e
      → Wf (For at x q a down b e) → length (expr_then (For at x q a down b e) r) ≤ suc f → prefixed_at f (expr_then (For at x q a down b e) r) ≡ Some
      (For at x q a down b e, r)
  unfolding prefixed atom for_expr
  for_read at x q a down b e r ga gb ge w len =
      let k3 : List Tok = expr_then e (fixed key.Done ∷ r) in
      let k2 : List Tok = expr_then b (fixed key.Do ∷ k3) in
      let k1 : List Tok = expr_then a (fixed (direction down) ∷ k2) in
      let l0 = variable_more x (placed key.Equals q ∷ k1) in
      let l1 = expr_more a (fixed (direction down) ∷ k2) in
      let l2 = expr_more b (fixed key.Do ∷ k3) in
      let v = variable_read x (placed key.Equals q ∷ k1) in
      let e1 = direction_exact a ga w.0 down k2 (omega (arith, len, l0)) in
      let d = direction_read down k2 in
      let e2 = seq_exact b gb w.1 f key.Do k3 refl (λ h. cc) (λ h. cc) (omega (arith, len, l0, l1)) in
      let e3 = seq_exact e ge w.2 f key.Done r refl (λ h. cc) (λ h. cc) (omega (arith, len, l0, l1, l2)) in
      rw (v, e1, d, e2, e3) refl

  -- ---- constructors, and what is behind a module path

  qualified_rest : (path : List Name) (e : Expr) (r : List Tok) (x : Expr × List Tok) → qualified path e r ≡ Some x → x.1 ≡ r
  qualified_rest path (Value [] y) r x q = from_some (λ (z : Expr × List Tok). z.1 ≡ r) q refl
  qualified_rest path (UnitExpr at) r x q = from_some (λ (z : Expr × List Tok). z.1 ≡ r) q refl
  qualified_rest path (Paren at e) r x q = from_some (λ (z : Expr × List Tok). z.1 ≡ r) q refl
  qualified_rest path (EmptyList at b) r x q = from_some (λ (z : Expr × List Tok). z.1 ≡ r) q refl
  qualified_rest path (ListExpr at b e es last) r x q = from_some (λ (z : Expr × List Tok). z.1 ≡ r) q refl
  qualified_rest path (Record at base y fs last) r x q = from_some (λ (z : Expr × List Tok). z.1 ≡ r) q refl
  qualified_rest path _ r x q = absurd cc

  opened_goes : (path r : _) (x : Expr × List Tok) → opened_part (read_expr f) f path r ≡ Some x → Holds 15 r × (length x.1 < length r)
  opened_goes path (fixed key.Dot ∷ ts) x e =
      let a = bind_ok (enclosed_at f ts) (λ e. qualified path e.0 e.1) x e in
      let v = enclosed_found (read_expr f) f (expr_reads f) ts a.0 a.1 in
      (omega arith, omega (arith, ap length v.words, expr_more a.0.0 a.0.1, ap length (qualified_rest path a.0.0 a.0.1 x a.2)))
  opened_goes path _ x e = absurd cc

  dot_goes : (r : List Tok) (x : Name × List Tok) → dot_upper r ≡ Some x → Holds 15 r × (length x.1 < length r)
  dot_goes (fixed key.Dot ∷ word class.Upper y ∷ ts) x e =
      from_some (λ (z : Name × List Tok). Holds 15 (fixed key.Dot ∷ word class.Upper y ∷ ts)
      × (length z.1 < length (fixed key.Dot ∷ word class.Upper y ∷ ts))) e (omega arith, omega arith)
  dot_goes _ x e = absurd cc

  upper_is : (y : Name) (ts : List Tok)
      → prefixed_at f (word class.Upper y ∷ ts) ≡ Some
      (opened_or (y ∷ (more_uppers f ts).0) (more_uppers f ts).1 (opened_part (read_expr f) f (y ∷ (more_uppers f ts).0) (more_uppers f ts).1))
  unfolding prefixed atom upper_expr
  upper_is y ts = refl

  constr_here : (path : List Name) (r : List Tok) (o : Option (Expr × List Tok)) → opened_part (read_expr f) f path r ≡ o
      → Reach (AtDot (Constr path) r) (Constr path) r (Some (opened_or path r o))
  constr_here path r None e = exact refl
  constr_here path r (Some x) e = let g = opened_goes path r x e in farther (refl, g.0) x refl g.1

  opened_shorter : (path : List Name) (r : List Tok) (o : Option (Expr × List Tok)) → opened_part (read_expr f) f path r ≡ o
      → length (opened_or path r o).1 ≤ length r
  opened_shorter path r None e = omega arith
  opened_shorter path r (Some x) e = omega (arith, (opened_goes path r x e).1)

  constr_end : (y : Name) (ys : List Name) (r : List Tok) (more : List Name × List Tok) → Reach (Holds 15 r) ys r (Some more)
      → Reach (AtDot (Constr (y ∷ ys)) r) (Constr (y ∷ ys)) r (Some (opened_or (y ∷ more.0) more.1 (opened_part (read_expr f) f (y ∷ more.0) more.1)))
  constr_end y ys r more (exact e) = let q = some_is e in
      subst (λ (m : List Name × List Tok). Reach (AtDot (Constr (y ∷ ys)) r) (Constr (y ∷ ys)) r
      (Some (opened_or (y ∷ m.0) m.1 (opened_part (read_expr f) f (y ∷ m.0) m.1)))) (sym q)
      (constr_here (y ∷ ys) r (opened_part (read_expr f) f (y ∷ ys) r) refl)
  constr_end y ys r more (farther c x e lt) =
      let q = some_is e in
      farther (refl, c) (opened_or (y ∷ more.0) more.1 (opened_part (read_expr f) f (y ∷ more.0) more.1)) refl
      (omega (
        arith,
        lt,
        opened_shorter (y ∷ more.0) more.1 (opened_part (read_expr f) f (y ∷ more.0) more.1) refl,
        ap (λ (m : List Name × List Tok). length m.1) q,
      ))

  pub constr_reach : (path : List Name) (r : List Tok) → path ≢ [] → length (path_then path r) ≤ suc f
      → Reach (AtDot (Constr path) r) (Constr path) r (prefixed_at f (path_then path r))
  constr_reach [] r w len = absurd (w refl)
  constr_reach (y ∷ ys) r w len =
      as_read (upper_is y (dotted_then ys r))
      (constr_end y ys r (more_uppers f (dotted_then ys r)) (uppers_reach (Holds 15 r) ys r f (omega (arith, len)) (λ x e. dot_goes r x e)))

  -- behind a whole module path and a `.`
  behind_path : (y : Name) (ys : List Name) (ts : List Tok) (x : Expr × List Tok) → length (dotted_then ys (fixed key.Dot ∷ ts)) ≤ f
      → dot_upper (fixed key.Dot ∷ ts) ≡ None → (enclosed_at f ts >>= λ e. qualified (y ∷ ys) e.0 e.1) ≡ Some x
      → prefixed_at f (path_then (y ∷ ys) (fixed key.Dot ∷ ts)) ≡ Some x
  behind_path y ys ts x len none q =
      let more = some_is (stop {C = ⊥} (λ c. c) (uppers_reach ⊥ ys (fixed key.Dot ∷ ts) f len (λ z e. let k = sym none ∙ e in absurd cc))) in
      upper_is y (dotted_then ys (fixed key.Dot ∷ ts)) ∙ rw (more, q) refl

  no_upper : (e : Expr) (r : List Tok) → is_bracketed e ≡ true → dot_upper (fixed key.Dot ∷ expr_then e r) ≡ None
  no_upper (UnitExpr at) r h = refl
  no_upper (Paren at e) r h = refl
  no_upper (EmptyList at b) r h = refl
  no_upper (ListExpr at b e es last) r h = refl
  no_upper (Record at base y fs last) r h = refl
  no_upper _ r h = absurd cc

  bracketed_is : (path : List Name) (e : Expr) (r : List Tok) → is_bracketed e ≡ true → qualified path e r ≡ Some (Opened path e, r)
  bracketed_is path (UnitExpr at) r h = refl
  bracketed_is path (Paren at e) r h = refl
  bracketed_is path (EmptyList at b) r h = refl
  bracketed_is path (ListExpr at b e es last) r h = refl
  bracketed_is path (Record at base y fs last) r h = refl
  bracketed_is path _ r h = absurd cc

  pub opened_read : (path : List Name) (e : Expr) (r : List Tok) → Good e → Wf (Opened path e) → length (expr_then (Opened path e) r) ≤ suc f
      → prefixed_at f (expr_then (Opened path e) r) ≡ Some (Opened path e, r)
  opened_read [] e r g w len = absurd (w.0 refl)
  opened_read (y ∷ ys) e r g w len =
      let l = dotted_longer ys (fixed key.Dot ∷ expr_then e r) in
      let inside = g.encloseds w.1 w.2 f r (omega (arith, len, l)) in
      behind_path y ys (expr_then e r) (Opened (y ∷ ys) e, r) (omega (arith, len)) (no_upper e r w.1) (rw inside (bracketed_is (y ∷ ys) e r w.1))

  name_upper : (x : ValueName) (r : List Tok) → dot_upper (fixed key.Dot ∷ name_then x r) ≡ None
  name_upper (PlainName x) r = refl
  name_upper (OperatorName at t) r = refl

  lone_name : (x : ValueName) (r : List Tok) → prefixed_at f (name_then x r) ≡ enclosed_at f (name_then x r)
  unfolding prefixed atom
  lone_name (PlainName x) r = refl
  lone_name (OperatorName at t) r = refl

  pub value_read : (path : List Name) (x : ValueName) (r : List Tok) → WfName x → length (expr_then (Value path x) r) ≤ suc f
      → prefixed_at f (expr_then (Value path x) r) ≡ Some (Value path x, r)
  value_read [] x r w len = lone_name x r ∙ name_enclosed x r w
  value_read (y ∷ ys) x r w len =
      let inside = name_enclosed x r w in
      let same = qualified_words y ys (name_then x r) in
      subst (λ (k : List Tok). prefixed_at f k ≡ Some (Value (y ∷ ys) x, r)) (sym same)
      (behind_path y ys (name_then x r) (Value (y ∷ ys) x, r) (omega (arith, len, ap length same)) (name_upper x r) (rw inside refl))

  -- ---- words

  pub literal_read : (c : Class) (x : Name) (r : List Tok) → is_literal c ≡ true → prefixed_at f (word c x ∷ r) ≡ Some (Literal c x, r)
  unfolding prefixed atom
  literal_read class.Int x r w = refl
  literal_read class.Float x r w = refl
  literal_read class.Char x r w = refl
  literal_read class.Text x r w = refl
  literal_read class.Quoted x r w = refl
  literal_read class.Lower x r w = absurd cc
  literal_read class.Upper x r w = absurd cc
  literal_read class.Keyword x r w = absurd cc
  literal_read class.TypeVar x r w = absurd cc
  literal_read class.Tag x r w = absurd cc
  literal_read class.Label x r w = absurd cc
  literal_read class.Prefix x r w = absurd cc
  literal_read class.Infix x r w = absurd cc
  literal_read class.Mark x r w = absurd cc

  pub bool_read : (at : ℕ) (b : Bool) (r : List Tok) → prefixed_at f (expr_then (BoolExpr at b) r) ≡ Some (BoolExpr at b, r)
  unfolding prefixed atom
  bool_read at true r = refl
  bool_read at false r = refl

  pub tag_read : (x : Name) (r : List Tok) → prefixed_at f (expr_then (Tag x) r) ≡ Some (Tag x, r)
  unfolding prefixed atom
  tag_read x r = refl

  pub prefix_reach : (x : Name) (e : Expr) (r : List Tok) → Good e → Wf (Prefixed x e) → length (expr_then (Prefixed x e) r) ≤ suc f
      → Reach (AtDot (Prefixed x e) r) (Prefixed x e) r (prefixed_at f (expr_then (Prefixed x e) r))
  unfolding prefixed
  prefix_reach x e r g w len = map_read (Prefixed x) (λ h. h) (sub_prefixed e g w.0 w.1 f r (omega (arith, len)))

  -- an expression in brackets alone
  pub lone_enclosed : (t : Fixed) (at : ℕ) (ts : List Tok)
      → ((t ≡ key.LeftParen) ⊎ ((t ≡ key.LeftBracket) ⊎ ((t ≡ key.LeftArray) ⊎ (t ≡ key.LeftBrace))))
      → prefixed_at f (placed t at ∷ ts) ≡ enclosed_at f (placed t at ∷ ts)
  unfolding prefixed atom
  lone_enclosed t at ts (inl q) = rw q refl
  lone_enclosed t at ts (inr (inl q)) = rw q refl
  lone_enclosed t at ts (inr (inr (inl q))) = rw q refl
  lone_enclosed t at ts (inr (inr (inr q))) = rw q refl

  pub lone_bracket : (at : ℕ) (b : Bracket) (ts : List Tok) → prefixed_at f (placed (opening b) at ∷ ts) ≡ enclosed_at f (placed (opening b) at ∷ ts)
  unfolding prefixed atom
  lone_bracket at bracket.List ts = refl
  lone_bracket at bracket.Array ts = refl

  -- ---- parts behind a `.`

  abbrev part_at : Read Part
  part_at = part_behind (read_expr f) f

  part_dot : (p : Part) (k : List Tok) → (ts : List Tok) × (part_then p k ≡ fixed key.Dot ∷ ts)
  part_dot (LabelPart path x) k = (qualified_then path (word class.Lower x ∷ k), refl)
  part_dot (IndexPart at e) k = (placed key.LeftParen at ∷ expr_then e (fixed key.RightParen ∷ k), refl)
  part_dot (CharPart at e) k = (placed key.LeftBracket at ∷ expr_then e (fixed key.RightBracket ∷ k), refl)

  part_longer : (p : Part) (k : List Tok) → length k < length (part_then p k)
  part_longer (LabelPart path x) k = omega (arith, qualified_longer path (word class.Lower x ∷ k))
  part_longer (IndexPart at e) k = omega (arith, expr_more e (fixed key.RightParen ∷ k))
  part_longer (CharPart at e) k = omega (arith, expr_more e (fixed key.RightBracket ∷ k))

  part_head : (ts : List Tok) (x : Part × List Tok) → part_at ts ≡ Some x → Holds 15 ts × (length x.1 < length ts)
  part_head ts x e =
      let p = part_found (read_expr f) f (expr_reads f) ts x e in
      let d = part_dot x.0 x.1 in
      (subst (Holds 15) (sym (p.words ∙ d.1)) (omega arith), omega (arith, ap length p.words, part_longer x.0 x.1))

  part_shorter : (ts : List Tok) (x : Part × List Tok) → part_at ts ≡ Some x → length x.1 < length ts
  part_shorter ts x e = (part_head ts x e).1

  label_read : (path : List Name) (x : Name) (k : List Tok) → length (qualified_then path (word class.Lower x ∷ k)) ≤ f
      → part_at (part_then (LabelPart path x) k) ≡ Some (LabelPart path x, k)
  unfolding part_behind
  label_read [] x k len = let q = qualifiers_reach [] (word class.Lower x ∷ k) f len refl in rw q refl
  label_read (y ∷ ys) x k len = let q = qualifiers_reach (y ∷ ys) (word class.Lower x ∷ k) f len refl in rw q refl

  part_read : (p : Part) → GoodPart p → WfPart p → (k : List Tok) → length (part_then p k) ≤ f → part_at (part_then p k) ≡ Some (p, k)
  unfolding part_behind
  part_read (LabelPart path x) g w k len = label_read path x k (omega (arith, len))
  part_read (IndexPart at e) g w k len = rw (seq_exact e g w f key.RightParen k refl (λ h. cc) (λ h. cc) (omega (arith, len))) refl
  part_read (CharPart at e) g w k len = rw (seq_exact e g w f key.RightBracket k refl (λ h. cc) (λ h. cc) (omega (arith, len))) refl

  abbrev parts_at : ℕ → List Tok → Parts × List Tok
  parts_at n ts = many no_part more_part always part_at n ts

  parts_reach : (p : Part) (ps : Parts) → GoodParts (more_part p ps) → WfParts (more_part p ps) → (n : ℕ) (r : List Tok)
      → length (parts_then (more_part p ps) r) ≤ n → n ≤ f → Reach (Holds 15 r) (more_part p ps) r (Some (parts_at n (parts_then (more_part p ps) r)))
  parts_reach p ps g w zero r len le = absurd (omega (arith, len, part_longer p (parts_then ps r)))
  parts_reach p no_part g w (suc n) r len le = last_turn no_part more_part always part_at part_shorter (Holds 15 r) p r (part_then p r) (length r) n
      (exact (part_read p g.0 w.0 r (omega (arith, len, le)))) (λ h y k. part_head r y k)
  parts_reach p (more_part q qs) g w (suc n) r len le =
      let rest : List Tok = parts_then (more_part q qs) r in
      more_turns no_part more_part always part_at part_shorter (Holds 15 r) p (more_part q qs) r (part_then p rest) rest (length r) n
      (part_read p g.0 w.0 rest (omega (arith, len, le))) refl
      (parts_reach q qs g.1 w.1 n r (omega (arith, len, part_longer p rest)) (omega (arith, le)))

  abbrev parts_if : Expr → List Tok → Parts × List Tok
  parts_if e ts = many_if (not (is_constr e)) no_part more_part always part_at f ts

  pub as_postfix : (e : Expr) (r ts : List Tok) → Reach (AtDot e r) e r (prefixed_at f ts) → Reach (Holds 15 r) e r (postfix_at f ts)
  unfolding postfix
  as_postfix e r ts h =
      and_then e r (λ x. Some (grown_postfix x.0 (parts_if x.0 x.1).0, (parts_if x.0 x.1).1))
      (map_some (grown_postfix e) no_part r (length r) (parts_if e r)
      (no_turn no_part more_part always part_at part_shorter (Holds 15 r) (not (is_constr e)) r (length r) f (λ _ y k. part_head r y k)))
      (λ c. c.1)
      (λ x. (
        (grown_postfix x.0 (parts_if x.0 x.1).0, (parts_if x.0 x.1).1),
        refl,
        many_if_shorter no_part more_part always part_at part_shorter
            (not (is_constr x.0)) f x.1,
      ))
      h

  pub postfix_reach : (e : Expr) (ps : Parts) (r : List Tok) → Good e → GoodParts ps → Wf (Postfix e ps) → length (expr_then (Postfix e ps) r) ≤ suc f
      → Reach (Holds 15 r) (Postfix e ps) r (postfix_at f (expr_then (Postfix e ps) r))
  unfolding postfix
  postfix_reach e no_part r g gs w len = absurd (w.3 refl)
  postfix_reach e (more_part p ps) r g gs w len =
      let rest : List Tok = parts_then (more_part p ps) r in
      let l = expr_longer e rest w.2 in
      let first : prefixed_at f (expr_then e rest) ≡ Some (e, rest) = stop (λ h. clash h.0 w.1) (g.prefixeds w.0 w.2 f rest len) in
      rw (first, w.1) (map_some (grown_postfix e) (more_part p ps) r (length r) (parts_at f rest)
      (parts_reach p ps gs w.4 f r (omega (arith, len, l)) (omega arith)))

  -- ---- arguments

  abbrev argument_at : Read Argument
  argument_at = argument (read_expr f) f

  argument_longer : (a : Argument) (k : List Tok) → WfArgument a → length k < length (argument_then a k)
  argument_longer (Positional e) k w = expr_longer e k w.1
  argument_longer (LabelPun x) k w = omega arith
  argument_longer (Labelled x e) k w = omega (arith, expr_more e k)

  high_starts : (e : Expr) (k : List Tok) → 14 < level e → Wf e → Starts (expr_then e k)
  high_starts e k h w = expr_starts e k (omega (arith, h)) (high_plain e h) w

  argument_holds : (a : Argument) (k : List Tok) → WfArgument a → Holds 14 (argument_then a k)
  argument_holds (Positional e) k w = starts_hold (expr_then e k) (high_starts e k w.0 w.1)
  argument_holds (LabelPun x) k w = omega arith
  argument_holds (Labelled x e) k w = omega arith

  argument_stops : (a : Argument) (k : List Tok) → WfArgument a → Holds 15 (argument_then a k) → ⊥
  argument_stops (Positional e) k w h = starts_stop (expr_then e k) (high_starts e k w.0 w.1) h
  argument_stops (LabelPun x) k w h = absurd (omega (arith, h))
  argument_stops (Labelled x e) k w h = absurd (omega (arith, h))

  argument_head : (ts : List Tok) (x : Argument × List Tok) → argument_at ts ≡ Some x → Holds 14 ts × (length x.1 < length ts)
  argument_head ts x e =
      let p = argument_found (read_expr f) f (expr_reads f) ts x e in
      (subst (Holds 14) (sym p.words) (argument_holds x.0 x.1 p.wf), omega (arith, ap length p.words, argument_longer x.0 x.1 p.wf))

  argument_shorter : (ts : List Tok) (x : Argument × List Tok) → argument_at ts ≡ Some x → length x.1 < length ts
  argument_shorter ts x e = (argument_head ts x e).1

  positional_by : (t : Tok) (rest : List Tok) → begins_postfix t ≡ true
      → argument_at (t ∷ rest) ≡ (postfix_at f (t ∷ rest) >>= λ e. Some (Positional e.0, e.1))
  unfolding argument
  positional_by (fixed x) rest b = absurd cc
  positional_by (placed x at) rest b = refl
  positional_by (word class.Label x) rest b = absurd cc
  positional_by (word _ x) rest b = refl

  positional_is : (ts : List Tok) → Starts ts → argument_at ts ≡ (postfix_at f ts >>= λ e. Some (Positional e.0, e.1))
  positional_is ts s = subst (λ k. argument_at k ≡ (postfix_at f k >>= λ e. Some (Positional e.0, e.1))) (sym s.is)
      (positional_by s.first s.rest s.starts)

  pun_read : (x : Name) (r : List Tok) → has_colon x.text ≡ false → argument_at (word class.Label x ∷ r) ≡ Some (LabelPun x, r)
  unfolding argument
  pun_read x r w = rw w refl

  labelled_is : (x : Name) (ts : List Tok) → has_colon x.text ≡ true
      → argument_at (word class.Label x ∷ ts) ≡ (postfix_at f ts >>= λ e. Some (Labelled x e.0, e.1))
  unfolding argument
  labelled_is x ts w = rw w refl

  argument_read : (a : Argument) → GoodArgument a → WfArgument a → (r : List Tok) → length (argument_then a r) ≤ suc f
      → Reach (Holds 15 r) a r (argument_at (argument_then a r))
  argument_read (Positional e) g w r len = as_read (positional_is (expr_then e r) (high_starts e r w.0 w.1))
      (map_read Positional (λ h. h) (g.posts w.0 w.1 f r len))
  argument_read (LabelPun x) g w r len = exact (pun_read x r w)
  argument_read (Labelled x e) g w r len =
      as_read (labelled_is x (expr_then e r) w.0) (map_read (Labelled x) (λ h. h) (g.posts w.1 w.2 f r (omega (arith, len))))

  abbrev arguments_at : ℕ → List Tok → Arguments × List Tok
  arguments_at n ts = many no_argument more_argument always argument_at n ts

  arguments_reach : (a : Argument) (es : Arguments) → GoodArguments (more_argument a es) → WfArguments (more_argument a es) → (n : ℕ) (r : List Tok)
      → length (arguments_then (more_argument a es) r) ≤ n → n ≤ f
      → Reach (Holds 14 r) (more_argument a es) r (Some (arguments_at n (arguments_then (more_argument a es) r)))
  arguments_reach a es g w zero r len le = absurd (omega (arith, len, argument_longer a (arguments_then es r) w.0))
  arguments_reach a no_argument g w (suc n) r len le = last_turn no_argument more_argument always argument_at argument_shorter (Holds 14 r) a r
      (argument_then a r) (length r) n (weaken (weaker r) (argument_read a g.0 w.0 r (omega (arith, len, le)))) (λ h y k. argument_head r y k)
  arguments_reach a (more_argument b es) g w (suc n) r len le =
      let rest : List Tok = arguments_then (more_argument b es) r in
      let first = stop (argument_stops b (arguments_then es r) w.1.0) (argument_read a g.0 w.0 rest (omega (arith, len, le))) in
      more_turns no_argument more_argument always argument_at argument_shorter (Holds 14 r) a (more_argument b es) r (argument_then a rest) rest
      (length r) n first refl (arguments_reach b es g.1 w.1 n r (omega (arith, len, argument_longer a rest w.0)) (omega (arith, le)))

  -- ---- applications

  abbrev apply_at : Read Expr
  apply_at = apply (read_expr f) f

  abbrev applied_at : Expr → List Tok → Expr × List Tok
  applied_at e ts = applied (read_expr f) f e ts

  apply_by : (t : Tok) (rest : List Tok) → begins_postfix t ≡ true
      → apply_at (t ∷ rest) ≡ (postfix_at f (t ∷ rest) >>= λ x. Some (applied_at x.0 x.1))
  unfolding apply
  apply_by (fixed x) rest b = absurd cc
  apply_by (placed key.Assert at) rest b = absurd cc
  apply_by (placed key.Lazy at) rest b = absurd cc
  apply_by (placed _ at) rest b = refl
  apply_by (word c x) rest b = refl

  apply_is : (ts : List Tok) → Starts ts → apply_at ts ≡ (postfix_at f ts >>= λ x. Some (applied_at x.0 x.1))
  apply_is ts s = subst (λ k. apply_at k ≡ (postfix_at f k >>= λ x. Some (applied_at x.0 x.1))) (sym s.is) (apply_by s.first s.rest s.starts)

  post_head : (ts : List Tok) (x : Expr × List Tok) → postfix_at f ts ≡ Some x → Holds 14 ts × (length x.1 < length ts)
  post_head ts x e =
      let p = postfix_found (read_expr f) f (expr_reads f) ts x e in (
        subst (Holds 14) (sym p.words) (starts_hold (expr_then x.0 x.1) (high_starts x.0 x.1 p.fits p.wf)),
        omega (arith, ap length p.words, expr_longer x.0 x.1 p.wf),
      )

  bare_here : (e : Expr) (r : List Tok) (o : Option (Expr × List Tok)) → postfix_at f r ≡ o → Reach (Holds 14 r) e r (Some (constr_applied e r o))
  bare_here (Constr path) r (Some x) q = let h = post_head r x q in farther h.0 (ConstrApply path x.0, x.1) refl h.1
  bare_here (Tag y) r (Some x) q = let h = post_head r x q in farther h.0 (TagApply y x.0, x.1) refl h.1
  bare_here _ r o q = exact refl

  bare_shorter : (e : Expr) (r : List Tok) (o : Option (Expr × List Tok)) → postfix_at f r ≡ o → length (constr_applied e r o).1 ≤ length r
  bare_shorter (Constr path) r (Some x) q = omega (arith, (post_head r x q).1)
  bare_shorter (Tag y) r (Some x) q = omega (arith, (post_head r x q).1)
  bare_shorter _ r o q = omega arith

  applied_here : (e : Expr) (r : List Tok) (b : Bool)
      → Reach (Holds 14 r) e r
      (Some (cond {A = Expr × List Tok} b (constr_applied e r (postfix_at f r)) (grown_apply e (arguments_at f r).0, (arguments_at f r).1)))
  applied_here e r true = bare_here e r (postfix_at f r) refl
  applied_here e r false = map_some (grown_apply e) no_argument r (length r) (arguments_at f r)
      (no_turn no_argument more_argument always argument_at argument_shorter (Holds 14 r) true r (length r) f (λ _ y k. argument_head r y k))

  applied_shorter : (e : Expr) (r : List Tok) (b : Bool)
      → length (cond {A = Expr × List Tok} b (constr_applied e r (postfix_at f r)) (grown_apply e (arguments_at f r).0, (arguments_at f r).1)).1
      ≤ length r
  applied_shorter e r true = bare_shorter e r (postfix_at f r) refl
  applied_shorter e r false = many_shorter no_argument more_argument always argument_at argument_shorter f r

  -- a Postfix with nothing behind it
  pub as_apply : (e : Expr) (r ts : List Tok) → Starts ts → Reach (Holds 15 r) e r (postfix_at f ts) → Reach (Holds 14 r) e r (apply_at ts)
  as_apply e r ts s h =
      as_read (apply_is ts s) (and_then e r (λ x. Some (applied_at x.0 x.1)) (applied_here e r (is_bare e)) (weaker r)
      (λ x. (applied_at x.0 x.1, refl, applied_shorter x.0 x.1 (is_bare x.0))) h)

  pub apply_reach : (e : Expr) (es : Arguments) (r : List Tok) → Good e → GoodArguments es → Wf (Apply e es)
      → length (expr_then (Apply e es) r) ≤ suc f → Reach (Holds 14 r) (Apply e es) r (apply_at (expr_then (Apply e es) r))
  apply_reach e no_argument r g gs w len = absurd (w.3 refl)
  apply_reach e (more_argument a es) r g gs w len =
      let rest : List Tok = arguments_then (more_argument a es) r in
      let l = expr_longer e rest w.2 in
      let first : postfix_at f (expr_then e rest) ≡ Some (e, rest) =
      stop (argument_stops a (arguments_then es r) w.4.0) (g.posts w.0 w.2 f rest len) in
      as_read (apply_is (expr_then e rest) (high_starts e rest w.0 w.2))
      (rw (first, w.1) (map_some (grown_apply e) (more_argument a es) r (length r) (arguments_at f rest)
      (arguments_reach a es gs w.4 f r (omega (arith, len, l)) (omega arith))))

  bare_applied : (e a : Expr) (r ts : List Tok) (put : Expr → Expr) → ((x : Expr × List Tok) → constr_applied e ts (Some x) ≡ (put x.0, x.1))
      → Reach (Holds 15 r) a r (postfix_at f ts) → Reach (Holds 14 r) (put a) r (Some (constr_applied e ts (postfix_at f ts)))
  bare_applied e a r ts put is (exact k) = exact (ap (λ o. Some (constr_applied e ts o)) k ∙ ap Some (is (a, r)))
  bare_applied e a r ts put is (farther c x k lt) = farther (weaker r c) (put x.0, x.1) (ap (λ o. Some (constr_applied e ts o)) k ∙ ap Some (is x)) lt

  pub constr_apply_reach : (path : List Name) (e : Expr) (r : List Tok) → Good e → Wf (ConstrApply path e)
      → length (expr_then (ConstrApply path e) r) ≤ suc f → Reach (Holds 14 r) (ConstrApply path e) r (apply_at (expr_then (ConstrApply path e) r))
  constr_apply_reach path e r g w len =
      let ts : List Tok = expr_then e r in
      let l = path_longer path ts in
      let first : postfix_at f (path_then path ts) ≡ Some (Constr path, ts) =
      stop (starts_stop ts (high_starts e r w.1 w.2)) (as_postfix (Constr path) ts (path_then path ts) (constr_reach path ts w.0 len)) in
      as_read (apply_is (path_then path ts) (expr_starts (Constr path) ts (omega arith) refl w.0))
      (rw first (bare_applied (Constr path) e r ts (ConstrApply path) (λ x. refl) (g.posts w.1 w.2 f r (omega (arith, len, l)))))

  pub tag_apply_reach : (y : Name) (e : Expr) (r : List Tok) → Good e → Wf (TagApply y e) → length (expr_then (TagApply y e) r) ≤ suc f
      → Reach (Holds 14 r) (TagApply y e) r (apply_at (expr_then (TagApply y e) r))
  tag_apply_reach y e r g w len =
      let ts : List Tok = expr_then e r in
      let first : postfix_at f (word class.Tag y ∷ ts) ≡ Some (Tag y, ts) =
      stop (starts_stop ts (high_starts e r w.0 w.1)) (as_postfix (Tag y) ts (word class.Tag y ∷ ts) (exact (tag_read y ts))) in
      as_read (apply_is (word class.Tag y ∷ ts) (expr_starts (Tag y) ts (omega arith) refl tt))
      (rw first (bare_applied (Tag y) e r ts (TagApply y) (λ x. refl) (g.posts w.0 w.1 f r (omega (arith, len)))))

  pub assert_reach : (at : ℕ) (e : Expr) (r : List Tok) → Good e → Wf (Assert at e) → length (expr_then (Assert at e) r) ≤ suc f
      → Reach (Holds 14 r) (Assert at e) r (apply_at (expr_then (Assert at e) r))
  unfolding apply
  assert_reach at e r g w len = map_read (Assert at) (weaker r) (g.posts w.0 w.1 f r (omega (arith, len)))

  pub lazy_reach : (at : ℕ) (e : Expr) (r : List Tok) → Good e → Wf (Lazy at e) → length (expr_then (Lazy at e) r) ≤ suc f
      → Reach (Holds 14 r) (Lazy at e) r (apply_at (expr_then (Lazy at e) r))
  unfolding apply
  lazy_reach at e r g w len = map_read (Lazy at) (weaker r) (g.posts w.0 w.1 f r (omega (arith, len)))
