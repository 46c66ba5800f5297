-- Which words can go on with an expression.
use Rattle.std.proofs.Common.{◌≡◌, ℕ, suc, ◌<◌, ◌≤◌, List, [], ◌∷◌, Bool, true, false, if◌then◌else◌, ◌||◌, Option, refl, sym, ap, subst, ◌∙◌, arith}
use Rattle.rotor_base.specs.declared.token.Class.TheVariants as class
use Rattle.ml_trees.specs.declared.fixed.Fixed.{Fixed}
use Rattle.ml_trees.specs.declared.fixed.Fixed.TheVariants as key
use Rattle.ml_trees.specs.Tok.{Name, Tok, fixed, placed, word}
use Rattle.ml_trees.specs.Words.{expr_then}
use Rattle.ml_trees.specs.WellFormed.{level, op_level, infix_level, keyword_level, on_edge, on_body, on_links, on_cases, on_tail, is_form, is_if}
use Rattle.ml_trees.specs.WellFormed.{is_open_if, has_cases, NoForm, Calm, NoOpenIf, is_constr, Wf}
use Rattle.ml_trees.specs.Tree.{LocalModule, Expr, Seq, Let, LetOpen, LetModule, Fun, Function, Match, Try, If, Chain, Minus, Links, no_link}
use Rattle.ml_trees.specs.Tree.{more_link, Tail, no_else, or_else, or_if, Binding, Bindings, Case, CaseOf, Cases, no_case, more_case, Params}
use Rattle.expr_reading.specs.ExprReading.{last_of}
use Rattle.expr_laws.proofs.FirstWord.{begins_postfix, begins_expr, Begins, expr_begins, Starts}

-- 0 for a token that ends an expression, else one more than the greatest level from which it goes on with one
abbrev pub grip : Tok → ℕ
grip (fixed key.Semicolon) = 1
grip (fixed key.LeftArrow) = 4
grip (fixed key.Comma) = 5
grip (fixed key.ColonColon) = 10
grip (fixed key.Dot) = 16
grip (fixed _) = 0
grip (placed key.Equals at) = 8
grip (placed x at) = if begins_postfix (placed x at) then 15 else 0
grip (word class.Infix x) = suc (infix_level x.text)
grip (word class.Keyword x) = suc (keyword_level x.text)
grip (word class.Mark x) = suc (op_level (word class.Mark x))
grip (word class.Label x) = 15
grip (word c x) = if begins_postfix (word c x) then 15 else 0

-- the first token goes on at this level
abbrev pub Holds : ℕ → List Tok → Type 0
Holds n [] = ⊥
Holds n (k ∷ r) = n < grip k

-- a sequence with a last `;`
abbrev pub ends_open : Expr → Bool
ends_open (Seq e es last) = last
ends_open _ = false

-- an expression begins these tokens
pub record Begun (r : List Tok) : Type 0 where
  pub tree : Expr
  pub rest : List Tok
  pub fits : 0 < level tree
  pub wf : Wf tree
  pub words : r ≡ expr_then tree rest

abbrev pub Headed : Fixed → List Tok → Type 0
Headed k r = (ts : List Tok) × (r ≡ fixed k ∷ ts)

-- how the tokens r can go on with e, which is read at level n
pub data Goes (n : ℕ) (e : Expr) (r : List Tok) : Type 0 where
  by_level : Holds n r → Goes n e r
  by_form : on_edge is_form e ≡ true → Holds 0 r → Goes n e r
  by_if : on_edge is_if e ≡ true → Holds 1 r → Goes n e r
  by_else : on_edge is_open_if e ≡ true → Headed key.Else r → Goes n e r
  by_bar : on_edge has_cases e ≡ true → Headed key.Bar r → Goes n e r
  by_more : on_edge ends_open e ≡ true → (0 < n → on_edge is_form e ≡ true) → Begun r → Goes n e r

pub clash : {b : Bool} → b ≡ true → b ≡ false → ⊥
clash p q = absurd cc

no_head : (j k : Fixed) (ts us : List Tok) → fixed j ∷ ts ≡ fixed k ∷ us → fixed j ≡ fixed k
no_head j k ts us e = cc

not_fixed : (t : Tok) (k : Fixed) (ts us : List Tok) → begins_expr t ≡ true → fixed k ∷ ts ≡ t ∷ us → ⊥
not_fixed t k ts us b e = let q : begins_expr (fixed k) ≡ true = subst (λ x. begins_expr x ≡ true) (head_is e) b in absurd cc
  where
    head_is : fixed k ∷ ts ≡ t ∷ us → t ≡ fixed k
    head_is e = cc

pub fixed_begins : (k : Fixed) (ts : List Tok) → Begins (fixed k ∷ ts) → ⊥
fixed_begins k ts b = not_fixed b.first k ts b.rest b.begins b.is

pub fixed_begun : (k : Fixed) (ts : List Tok) → Begun (fixed k ∷ ts) → ⊥
fixed_begun k ts b = fixed_begins k ts (subst Begins (sym b.words) (expr_begins b.tree b.rest b.wf))

-- ---- what stops

pub closer_stops : (n : ℕ) (e : Expr) (k : Fixed) (r : List Tok) → grip (fixed k) ≡ 0 → (fixed k ≡ fixed key.Else → ⊥) → (fixed k ≡ fixed key.Bar → ⊥)
    → Goes n e (fixed k ∷ r) → ⊥
closer_stops n e k r z x y (by_level h) = absurd (omega (arith, h, z))
closer_stops n e k r z x y (by_form p h) = absurd (omega (arith, h, z))
closer_stops n e k r z x y (by_if p h) = absurd (omega (arith, h, z))
closer_stops n e k r z x y (by_else p h) = x (no_head k key.Else r h.0 h.1)
closer_stops n e k r z x y (by_bar p h) = y (no_head k key.Bar r h.0 h.1)
closer_stops n e k r z x y (by_more p q b) = fixed_begun k r b

pub else_stops : (n : ℕ) (e : Expr) (r : List Tok) → NoOpenIf e → Goes n e (fixed key.Else ∷ r) → ⊥
else_stops n e r q (by_level h) = absurd (omega (arith, h))
else_stops n e r q (by_form p h) = absurd (omega (arith, h))
else_stops n e r q (by_if p h) = absurd (omega (arith, h))
else_stops n e r q (by_else p h) = clash p q
else_stops n e r q (by_bar p h) = let s = h.1 in absurd cc
else_stops n e r q (by_more p f b) = fixed_begun key.Else r b

pub bar_stops : (n : ℕ) (e : Expr) (r : List Tok) → on_edge has_cases e ≡ false → Goes n e (fixed key.Bar ∷ r) → ⊥
bar_stops n e r q (by_level h) = absurd (omega (arith, h))
bar_stops n e r q (by_form p h) = absurd (omega (arith, h))
bar_stops n e r q (by_if p h) = absurd (omega (arith, h))
bar_stops n e r q (by_else p h) = let s = h.1 in absurd cc
bar_stops n e r q (by_bar p h) = clash p q
bar_stops n e r q (by_more p f b) = fixed_begun key.Bar r b

pub semicolon_stops : (n : ℕ) (e : Expr) (r : List Tok) → 0 < n → NoForm e → Goes n e (fixed key.Semicolon ∷ r) → ⊥
semicolon_stops n e r le q (by_level h) = absurd (omega (arith, h, le))
semicolon_stops n e r le q (by_form p h) = clash p q
semicolon_stops n e r le q (by_if p h) = absurd (omega (arith, h))
semicolon_stops n e r le q (by_else p h) = let s = h.1 in absurd cc
semicolon_stops n e r le q (by_bar p h) = let s = h.1 in absurd cc
semicolon_stops n e r le q (by_more p f b) = fixed_begun key.Semicolon r b

head_grip : (k : Fixed) (t : Tok) (r ts : List Tok) → t ∷ r ≡ fixed k ∷ ts → grip t ≡ grip (fixed k)
head_grip k t r ts e = ap grip (head_is e)
  where
    head_is : t ∷ r ≡ fixed k ∷ ts → t ≡ fixed k
    head_is e = cc

pub operator_stops : (n : ℕ) (e : Expr) (t : Tok) (r : List Tok) → Calm e → 0 < grip t → grip t ≤ n → Goes n e (t ∷ r) → ⊥
operator_stops n e t r c lo hi (by_level h) = absurd (omega (arith, h, hi))
operator_stops n e t r c lo hi (by_form p h) = clash p c.0
operator_stops n e t r c lo hi (by_if p h) = clash p c.1
operator_stops n e t r c lo hi (by_else p h) = absurd (omega (arith, lo, head_grip key.Else t r h.0 h.1))
operator_stops n e t r c lo hi (by_bar p h) = absurd (omega (arith, lo, head_grip key.Bar t r h.0 h.1))
operator_stops n e t r c lo hi (by_more p f b) = clash (f (omega (arith, lo, hi))) c.0

-- nothing follows
pub end_stops : (n : ℕ) (e : Expr) → Goes n e [] → ⊥
end_stops n e (by_level h) = h
end_stops n e (by_form p h) = h
end_stops n e (by_if p h) = h
end_stops n e (by_else p h) = let s = h.1 in absurd cc
end_stops n e (by_bar p h) = let s = h.1 in absurd cc
end_stops n e (by_more p f b) = let g = subst Begins (sym b.words) (expr_begins b.tree b.rest b.wf) in let s = g.is in absurd cc

-- ---- what goes on with a part goes on with the whole

-- a is the last part of e
pub record Edges (a e : Expr) : Type 0 where
  pub form : on_edge is_form a ≡ true → on_edge is_form e ≡ true
  pub choice : on_edge is_if a ≡ true → on_edge is_if e ≡ true
  pub dangling : on_edge is_open_if a ≡ true → on_edge is_open_if e ≡ true
  pub cases : on_edge has_cases a ≡ true → on_edge has_cases e ≡ true
  pub loose : on_edge ends_open a ≡ true → on_edge ends_open e ≡ true

holds_less : (m n : ℕ) (r : List Tok) → n ≤ m → Holds m r → Holds n r
holds_less m n [] le h = h
holds_less m n (k ∷ r) le h = omega (arith, h, le)

pub goes_down : (m n : ℕ) (a e : Expr) (r : List Tok) → n ≤ m → Edges a e → Goes m a r → Goes n e r
goes_down m n a e r le g (by_level h) = by_level (holds_less m n r le h)
goes_down m n a e r le g (by_form p h) = by_form (g.form p) h
goes_down m n a e r le g (by_if p h) = by_if (g.choice p) h
goes_down m n a e r le g (by_else p h) = by_else (g.dangling p) h
goes_down m n a e r le g (by_bar p h) = by_bar (g.cases p) h
goes_down m n a e r le g (by_more p f b) = by_more (g.loose p) (λ z. g.form (f (omega (arith, z, le)))) b

-- a form takes all that its last part takes
pub goes_form : (m n : ℕ) (a e : Expr) (r : List Tok) → on_edge is_form e ≡ true → Edges a e → Goes m a r → Goes n e r
goes_form m n a e r q g (by_level h) = by_form q (holds_less m 0 r (omega arith) h)
goes_form m n a e r q g (by_form p h) = by_form q h
goes_form m n a e r q g (by_if p h) = by_form q (holds_less 1 0 r (omega arith) h)
goes_form m n a e r q g (by_else p h) = by_else (g.dangling p) h
goes_form m n a e r q g (by_bar p h) = by_bar (g.cases p) h
goes_form m n a e r q g (by_more p f b) = by_more (g.loose p) (λ z. q) b

-- and an `if` all but a `;`
pub goes_if : (m n : ℕ) (a e : Expr) (r : List Tok) → 0 < m → on_edge is_if e ≡ true → Edges a e → Goes m a r → Goes n e r
goes_if m n a e r le q g (by_level h) = by_if q (holds_less m 1 r (omega (arith, le)) h)
goes_if m n a e r le q g (by_form p h) = by_form (g.form p) h
goes_if m n a e r le q g (by_if p h) = by_if q h
goes_if m n a e r le q g (by_else p h) = by_else (g.dangling p) h
goes_if m n a e r le q g (by_bar p h) = by_bar (g.cases p) h
goes_if m n a e r le q g (by_more p f b) = by_more (g.loose p) (λ z. g.form (f le)) b

pub holds_goes : (m n : ℕ) (e : Expr) (r : List Tok) → n ≤ m → Holds m r → Goes n e r
holds_goes m n e r le h = by_level (holds_less m n r le h)

pub same_edges : (e : Expr) → Edges e e
same_edges e = record { form = λ h. h; choice = λ h. h; dangling = λ h. h; cases = λ h. h; loose = λ h. h }

-- ---- the last part of each kind of expression

pub on_links_last : (q : Expr → Bool) (e : Expr) (es : Links) → on_links q (on_edge q e) es ≡ on_edge q (last_of e es)
on_links_last q e no_link = refl
on_links_last q e (more_link t e' es) = on_links_last q e' es

-- the body of a case
abbrev pub body_of : Case → Expr
body_of (CaseOf p guard e) = e

abbrev pub last_body : Case → Cases → Expr
last_body c no_case = body_of c
last_body c (more_case c' cs) = last_body c' cs

pub on_body_is : (q : Expr → Bool) (c : Case) → on_body q c ≡ on_edge q (body_of c)
on_body_is q (CaseOf p guard e) = refl

pub on_cases_last : (q : Expr → Bool) (c : Case) (cs : Cases) → on_cases q (on_body q c) cs ≡ on_edge q (last_body c cs)
on_cases_last q c no_case = on_body_is q c
on_cases_last q c (more_case c' cs) = on_cases_last q c' cs

abbrev pub end_of : Expr → Tail → Expr
end_of e no_else = e
end_of e (or_else b) = b
end_of e (or_if at c b tail) = end_of b tail

pub on_tail_last : (q : Expr → Bool) (e : Expr) (es : Tail) → on_tail q (on_edge q e) es ≡ on_edge q (end_of e es)
on_tail_last q e no_else = refl
on_tail_last q e (or_else b) = refl
on_tail_last q e (or_if at c b tail) = on_tail_last q b tail

pub chain_edges : (n : ℕ) (e : Expr) (es : Links) → Edges (last_of e es) (Chain n e es)
chain_edges n e es = record {
  form = λ h. on_links_last is_form e es ∙ h;
  choice = λ h. on_links_last is_if e es ∙ h;
  dangling = λ h. on_links_last is_open_if e es ∙ h;
  cases = λ h. on_links_last has_cases e es ∙ h;
  loose = λ h. on_links_last ends_open e es ∙ h;
}

pub seq_edges : (e : Expr) (es : Links) → Edges (last_of e es) (Seq e es false)
seq_edges e es = record {
  form = λ h. on_links_last is_form e es ∙ h;
  choice = λ h. on_links_last is_if e es ∙ h;
  dangling = λ h. on_links_last is_open_if e es ∙ h;
  cases = λ h. on_links_last has_cases e es ∙ h;
  loose = λ h. on_links_last ends_open e es ∙ h;
}

pub let_edges : (at : ℕ) (recursive : Bool) (b : Binding) (bs : Bindings) (e : Expr) → Edges e (Let at recursive b bs e)
let_edges at recursive b bs e = record { form = λ h. refl; choice = λ h. h; dangling = λ h. h; cases = λ h. h; loose = λ h. h }

pub let_open_edges : (at at' : ℕ) (bang : Option Name) (path : List Name) (e : Expr) → Edges e (LetOpen at at' bang path e)
let_open_edges at at' bang path e = record { form = λ h. refl; choice = λ h. h; dangling = λ h. h; cases = λ h. h; loose = λ h. h }

pub let_module_edges : (at at' : ℕ) (x : Name) (q : ℕ) (m : LocalModule) (e : Expr) → Edges e (LetModule at at' x q m e)
let_module_edges at at' x q m e = record { form = λ h. refl; choice = λ h. h; dangling = λ h. h; cases = λ h. h; loose = λ h. h }

pub fun_edges : (at : ℕ) (ps : Params) (e : Expr) → Edges e (Fun at ps e)
fun_edges at ps e = record { form = λ h. refl; choice = λ h. h; dangling = λ h. h; cases = λ h. h; loose = λ h. h }

pub function_edges : (at : ℕ) (bar : Bool) (c : Case) (cs : Cases) → Edges (last_body c cs) (Function at bar c cs)
function_edges at bar c cs = record {
  form = λ h. refl;
  choice = λ h. on_cases_last is_if c cs ∙ h;
  dangling = λ h. on_cases_last is_open_if c cs ∙ h;
  cases = λ h. refl;
  loose = λ h. on_cases_last ends_open c cs ∙ h;
}

pub match_edges : (at : ℕ) (e : Expr) (bar : Bool) (c : Case) (cs : Cases) → Edges (last_body c cs) (Match at e bar c cs)
match_edges at e bar c cs = record {
  form = λ h. refl;
  choice = λ h. on_cases_last is_if c cs ∙ h;
  dangling = λ h. on_cases_last is_open_if c cs ∙ h;
  cases = λ h. refl;
  loose = λ h. on_cases_last ends_open c cs ∙ h;
}

pub try_edges : (at : ℕ) (e : Expr) (bar : Bool) (c : Case) (cs : Cases) → Edges (last_body c cs) (Try at e bar c cs)
try_edges at e bar c cs = record {
  form = λ h. refl;
  choice = λ h. on_cases_last is_if c cs ∙ h;
  dangling = λ h. on_cases_last is_open_if c cs ∙ h;
  cases = λ h. refl;
  loose = λ h. on_cases_last ends_open c cs ∙ h;
}

or_true : (a b : Bool) → b ≡ true → a || b ≡ true
or_true true b h = refl
or_true false b h = h

pub if_edges : (at : ℕ) (c a : Expr) (tail : Tail) → Edges (end_of a tail) (If at c a tail)
if_edges at c a tail = record {
  form = λ h. on_tail_last is_form a tail ∙ h;
  choice = λ h. refl;
  dangling = λ h. or_true (is_open_if (If at c a tail)) (on_tail is_open_if (on_edge is_open_if a) tail) (on_tail_last is_open_if a tail ∙ h);
  cases = λ h. on_tail_last has_cases a tail ∙ h;
  loose = λ h. on_tail_last ends_open a tail ∙ h;
}

pub minus_edges : (x : Name) (e : Expr) → Edges e (Minus x e)
minus_edges x e = record { form = λ h. h; choice = λ h. h; dangling = λ h. h; cases = λ h. h; loose = λ h. h }

-- ---- the grip of operators and of first words

pub operator_grip : (k : Tok) → 0 < op_level k → grip k ≡ suc (op_level k)
operator_grip (fixed key.LeftArrow) h = refl
operator_grip (fixed key.Comma) h = refl
operator_grip (fixed key.ColonColon) h = refl
operator_grip (placed key.Equals at) h = refl
operator_grip (word class.Mark x) h = refl
operator_grip (word class.Keyword x) h = refl
operator_grip (word class.Infix x) h = refl
operator_grip _ h = absurd (omega (arith, h))

pub start_grip : (t : Tok) → begins_postfix t ≡ true → grip t ≡ 15
start_grip (placed key.True at) h = refl
start_grip (placed key.False at) h = refl
start_grip (placed key.LeftParen at) h = refl
start_grip (placed key.LeftBracket at) h = refl
start_grip (placed key.LeftArray at) h = refl
start_grip (placed key.LeftBrace at) h = refl
start_grip (placed key.Begin at) h = refl
start_grip (placed key.While at) h = refl
start_grip (placed key.For at) h = refl
start_grip (word class.Int x) h = refl
start_grip (word class.Float x) h = refl
start_grip (word class.Char x) h = refl
start_grip (word class.Text x) h = refl
start_grip (word class.Quoted x) h = refl
start_grip (word class.Lower x) h = refl
start_grip (word class.Upper x) h = refl
start_grip (word class.Tag x) h = refl
start_grip (word class.Prefix x) h = refl
start_grip _ h = absurd cc

pub starts_hold : (ts : List Tok) → Starts ts → Holds 14 ts
starts_hold ts s = subst (Holds 14) (sym s.is) (omega (arith, start_grip s.first s.starts))

pub starts_stop : (ts : List Tok) → Starts ts → Holds 15 ts → ⊥
starts_stop ts s h = let k : 15 < grip s.first = subst (Holds 15) s.is h in omega (arith, k, start_grip s.first s.starts)

-- e is a constructor, and the first token goes on at level 15
abbrev pub AtDot : Expr → List Tok → Type 0
AtDot e r = (is_constr e ≡ true) × Holds 15 r

pub weaker : (r : List Tok) → Holds 15 r → Holds 14 r
weaker r h = holds_less 15 14 r (omega arith) h
