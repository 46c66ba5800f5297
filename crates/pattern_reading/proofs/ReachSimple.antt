-- No Simple pattern is missed, if none of its parts is.
use Rattle.std.proofs.Common.{◌≡◌, ◌≢◌, ℕ, zero, suc, ◌<◌, ◌≤◌, List, [], ◌∷◌, ◌++◌, length, Bool, true, false, cond, if◌then◌else◌, Option, Some}
use Rattle.std.proofs.Common.{None, refl, sym, ap, subst, ◌∙◌, arith}
use Rattle.rotor_base.specs.declared.token.Class.{Class}
use Rattle.rotor_base.specs.declared.token.Class.TheVariants as class
use Rattle.ml_trees.specs.declared.fixed.Fixed.{Fixed}
use Rattle.ml_trees.specs.declared.fixed.Fixed.TheVariants as key
use Rattle.ml_trees.specs.declared.word.Bracket.{Bracket}
use Rattle.ml_trees.specs.declared.word.Bracket.TheVariants as bracket
use Rattle.ml_trees.specs.Tok.{Name, Tok, fixed, placed, word}
use Rattle.ml_trees.proofs.Words.{pat_then, pats_then, pat_field_then, pat_fields_then, path_then, dotted_then, type_then, optional_then, open_then}
use Rattle.ml_trees.proofs.Words.{opening, closing}
use Rattle.ml_trees.specs.Runs.{is_type_run}
use Rattle.ml_trees.specs.WellFormed.{WfName, WfType, WfPat, WfPats, WfPatField, WfPatFields, is_literal, is_number, is_minus, is_operator}
use Rattle.ml_trees.specs.Tree.{ValueName, PlainName, OperatorName, Pat, ValuePat, LiteralPat, NegativePat, RangePat, ConstrPat, BoolPat, ParenPat}
use Rattle.ml_trees.specs.Tree.{TypedPat, EmptyPat, ListPat, RecordPat, OpenedPat, Pats, no_pat, more_pat, PatField, PunnedField, MatchedField}
use Rattle.ml_trees.specs.Tree.{PatFields, no_pat_field, more_pat_field}
use Rattle.token_reading.specs.Steps.{Read, ◌>>=◌, many, always}
use Rattle.token_reading.specs.Pieces.{dot_upper, more_uppers, qualifiers, lower_word, optional_type}
use Rattle.token_reading.specs.PatReading.{range_or, closed_by, opened_or, list_pat, record_pat, next_pat, more_pats, paren_pat, opened_part}
use Rattle.token_reading.specs.PatReading.{upper_pat}
use Rattle.token_reading.specs.PatReading.{bracket_pat, equals_part, field_pat, next_field, brace_pat, simple_pat, read_pat}
use Rattle.token_reading.proofs.Stepping.{some_is, from_some}
use Rattle.token_reading.proofs.Reach.{Beyond, Reach, exact, farther, stop, no_turn, more_turns, expect_same}
use Rattle.pattern_reading.proofs.FoundPat.{Finds, opened_ok, part_found, next_field_found, pat_found}
use Rattle.pattern_reading.proofs.LongerPat.{pat_longer, pat_more, field_more, dotted_longer, qualified_longer, type_longer, begins_pat, Opens}
use Rattle.pattern_reading.proofs.LongerPat.{pat_opens}
use Rattle.token_reading.proofs.ReachPieces.{uppers_reach, qualifiers_reach, type_run_read, type_read}

-- how far out a token goes on with a pattern
abbrev pub grip : Tok → ℕ
grip (fixed key.As) = 1
grip (fixed key.Bar) = 2
grip (fixed key.Comma) = 3
grip (fixed key.ColonColon) = 4
grip (fixed key.Dot) = 6
grip (fixed key.DotDot) = 6
grip (fixed _) = 0
grip (placed x at) = if begins_pat (placed x at) then 5 else 0
grip (word c x) = 5

abbrev pub Goes : ℕ → List Tok → Type 0
Goes m [] = ⊥
Goes m (k ∷ r) = m < grip k

first_goes : (t : Tok) → begins_pat t ≡ true → 4 < grip t
first_goes (fixed x) b = absurd cc
first_goes (placed x at) b = rw b (omega arith)
first_goes (word c x) b = omega arith

pub opens_goes : (ts : List Tok) → Opens ts → Goes 4 ts
opens_goes ts o = subst (Goes 4) (sym o.is) (first_goes o.first o.begins)

not_fixed : (t : Tok) (k : Fixed) → begins_pat t ≡ true → t ≡ fixed k → ⊥
not_fixed t k b e = let q : begins_pat (fixed k) ≡ true = subst (λ x. begins_pat x ≡ true) e b in absurd cc

heads_same : (t u : Tok) (ts us : List Tok) → t ∷ ts ≡ u ∷ us → t ≡ u
heads_same t u ts us e = cc

pub fixed_opens_none : (k : Fixed) (r : List Tok) → Opens (fixed k ∷ r) → ⊥
fixed_opens_none k r o = not_fixed o.first k o.begins (sym (heads_same (fixed k) o.first r o.rest o.is))

pub none_read : (m : ℕ) (one : Read Pat) → Finds m one → (ts : List Tok) → (Opens ts → ⊥) → one ts ≡ None
none_read m one found ts never = by (one ts) refl
  where
    by : (o : Option (Pat × List Tok)) → one ts ≡ o → one ts ≡ None
    by None e = e
    by (Some x) e = let f = found ts x e in absurd (never (subst Opens (sym f.words) (pat_opens x.0 x.1 f.wf)))

-- ---- which clause of a reading is taken

module _ (sub : Read Pat) (n : ℕ) where
  paren_by : (at : ℕ) (t : Tok) (r : List Tok) (b : Bool) → is_operator t ≡ b → (b ≡ true → ⊥)
      → cond b (Some (ValuePat (OperatorName at t), r)) (sub (t ∷ fixed key.RightParen ∷ r) >>= λ p. closed_by at p.0 p.1)
      ≡ (sub (t ∷ fixed key.RightParen ∷ r) >>= λ p. closed_by at p.0 p.1)
  paren_by at t r true h never = absurd (never refl)
  paren_by at t r false h never = refl

  paren_first : (at : ℕ) (t : Tok) (rest : List Tok) → begins_pat t ≡ true
      → (is_operator t ≡ true → (c : Class) × (y : Name) × (r : List Tok) × (rest ≡ word c y ∷ r))
      → paren_pat sub n at (t ∷ rest) ≡ (sub (t ∷ rest) >>= λ p. closed_by at p.0 p.1)
  unfolding paren_pat
  paren_first at (fixed x) rest b behind = absurd cc
  paren_first at (placed x at') (fixed key.RightParen ∷ r) b behind = paren_by at (placed x at') r (is_operator (placed x at')) refl
      (λ h. let q = behind h in absurd cc)
  paren_first at (word c x) (fixed key.RightParen ∷ r) b behind =
      paren_by at (word c x) r (is_operator (word c x)) refl (λ h. let q = behind h in absurd cc)
  paren_first at (placed x at') _ b behind = refl
  paren_first at (word c x) _ b behind = refl

  pub paren_else : (at : ℕ) (ts : List Tok) → Opens ts → paren_pat sub n at ts ≡ (sub ts >>= λ p. closed_by at p.0 p.1)
  paren_else at ts o = subst (λ k. paren_pat sub n at k ≡ (sub k >>= λ p. closed_by at p.0 p.1)) (sym o.is)
      (paren_first at o.first o.rest o.begins o.behind)

  bracket_first : (at : ℕ) (b : Bracket) (t : Tok) (rest : List Tok) → begins_pat t ≡ true
      → bracket_pat sub n at b (t ∷ rest) ≡ (sub (t ∷ rest) >>= λ p. list_pat at b p.0 (more_pats sub n key.Semicolon sub p.1))
  unfolding bracket_pat
  bracket_first at b (fixed x) rest h = absurd cc
  bracket_first at bracket.List (placed x at') rest h = refl
  bracket_first at bracket.Array (placed x at') rest h = refl
  bracket_first at bracket.List (word c x) rest h = refl
  bracket_first at bracket.Array (word c x) rest h = refl

  pub bracket_else : (at : ℕ) (b : Bracket) (ts : List Tok) → Opens ts
      → bracket_pat sub n at b ts ≡ (sub ts >>= λ p. list_pat at b p.0 (more_pats sub n key.Semicolon sub p.1))
  bracket_else at b ts o = subst (λ k. bracket_pat sub n at b k ≡ (sub k >>= λ p. list_pat at b p.0 (more_pats sub n key.Semicolon sub p.1)))
      (sym o.is) (bracket_first at b o.first o.rest o.begins)

-- what is read from a pattern's words and more
abbrev pub Hits : Pat → Type 0
Hits p = WfPat p → (f : ℕ) (r : List Tok) → length (pat_then p r) ≤ f → Reach (Goes 0 r) p r (read_pat f (pat_then p r))

abbrev pub AllHit : Pats → Type 0
AllHit no_pat = Unit {0}
AllHit (more_pat p ps) = Hits p × AllHit ps

abbrev pub FieldHits : PatField → Type 0
FieldHits (PunnedField path x run) = Unit {0}
FieldHits (MatchedField path x run at p) = Hits p

abbrev pub FieldsHit : PatFields → Type 0
FieldsHit no_pat_field = Unit {0}
FieldsHit (more_pat_field f fs) = FieldHits f × FieldsHit fs

abbrev pub simple_at : ℕ → Read Pat
simple_at f = simple_pat (read_pat f) f

-- a pattern that nothing goes on with
hit : (p : Pat) → Hits p → WfPat p → (f : ℕ) (r : List Tok) → length (pat_then p r) ≤ f → (Goes 0 r → ⊥) → read_pat f (pat_then p r) ≡ Some (p, r)
hit p hits w f r len never = stop never (hits w f r len)

-- ---- words

pub bool_read : (f at : ℕ) (b : Bool) (r : List Tok) → simple_at f (pat_then (BoolPat at b) r) ≡ Some (BoolPat at b, r)
unfolding simple_pat
bool_read f at true r = refl
bool_read f at false r = refl

operator_read : (f at : ℕ) (t : Tok) (r : List Tok) → is_operator t ≡ true
    → simple_at f (placed key.LeftParen at ∷ t ∷ fixed key.RightParen ∷ r) ≡ Some (ValuePat (OperatorName at t), r)
unfolding simple_pat paren_pat
operator_read f at (fixed x) r w = absurd cc
operator_read f at (placed x at') r w = rw w refl
operator_read f at (word c x) r w = rw w refl

pub value_read : (f : ℕ) (x : ValueName) (r : List Tok) → WfName x → simple_at f (pat_then (ValuePat x) r) ≡ Some (ValuePat x, r)
unfolding simple_pat
value_read f (PlainName x) r w = refl
value_read f (OperatorName at t) r w = operator_read f at t r w

char_reach : (x : Name) (r : List Tok) → Reach (Goes 5 r) (LiteralPat class.Char x) r (Some (range_or x r))
char_reach x (fixed key.DotDot ∷ word class.Char y ∷ ts) = farther (omega arith) (RangePat x y, ts) refl (omega arith)
char_reach x _ = exact refl

pub literal_reach : (f : ℕ) (c : Class) (x : Name) (r : List Tok) → is_literal c ≡ true
    → Reach (Goes 5 r) (LiteralPat c x) r (simple_at f (word c x ∷ r))
unfolding simple_pat
literal_reach f class.Int x r w = exact refl
literal_reach f class.Float x r w = exact refl
literal_reach f class.Char x r w = char_reach x r
literal_reach f class.Text x r w = exact refl
literal_reach f class.Quoted x r w = exact refl
literal_reach f class.Lower x r w = absurd cc
literal_reach f class.Upper x r w = absurd cc
literal_reach f class.Keyword x r w = absurd cc
literal_reach f class.TypeVar x r w = absurd cc
literal_reach f class.Tag x r w = absurd cc
literal_reach f class.Label x r w = absurd cc
literal_reach f class.Prefix x r w = absurd cc
literal_reach f class.Infix x r w = absurd cc
literal_reach f class.Mark x r w = absurd cc

pub negative_read : (f : ℕ) (x : Name) (c : Class) (y : Name) (r : List Tok) → is_minus x.text ≡ true → is_number c ≡ true
    → simple_at f (word class.Infix x ∷ word c y ∷ r) ≡ Some (NegativePat x c y, r)
unfolding simple_pat
negative_read f x c y r m n = rw (m, n) refl

-- ---- constructors and openings

opened_goes : (f : ℕ) (r : List Tok) (x : ℕ × Pat × List Tok) → opened_part (read_pat f) f r ≡ Some x → Goes 5 r × (length x.2 < length r)
opened_goes f r x e =
    let q = (opened_ok (read_pat f) f (pat_found f) r x e).1 in
    (subst (Goes 5) (sym q) (omega arith), omega (arith, ap length q, pat_more x.1 (fixed key.RightParen ∷ x.2)))

dot_goes : (r : List Tok) (x : Name × List Tok) → dot_upper r ≡ Some x → Goes 5 r × (length x.1 < length r)
dot_goes (fixed key.Dot ∷ word class.Upper y ∷ ts) x e =
    from_some (λ (z : Name × List Tok). Goes 5 (fixed key.Dot ∷ word class.Upper y ∷ ts)
    × (length z.1 < length (fixed key.Dot ∷ word class.Upper y ∷ ts))) e (omega arith, omega arith)
dot_goes _ x e = absurd cc

constr_here : (f : ℕ) (y : Name) (ys : List Name) (r : List Tok) (o : Option (ℕ × Pat × List Tok)) → opened_part (read_pat f) f r ≡ o
    → Reach (Goes 5 r) (ConstrPat (y ∷ ys)) r (Some (opened_or (y ∷ ys) r o))
constr_here f y ys r None e = exact refl
constr_here f y ys r (Some x) e = let g = opened_goes f r x e in farther g.0 (OpenedPat (y ∷ ys) x.0 x.1, x.2) refl g.1

opened_shorter : (f : ℕ) (path : List Name) (r : List Tok) (o : Option (ℕ × Pat × List Tok)) → opened_part (read_pat f) f r ≡ o
    → length (opened_or path r o).1 ≤ length r
opened_shorter f path r None e = omega arith
opened_shorter f path r (Some x) e = omega (arith, (opened_goes f r x e).1)

constr_end : (f : ℕ) (y : Name) (ys : List Name) (r : List Tok) (more : List Name × List Tok) → Beyond (Goes 5 r) ys r (length r) (Some more)
    → Reach (Goes 5 r) (ConstrPat (y ∷ ys)) r (Some (opened_or (y ∷ more.0) more.1 (opened_part (read_pat f) f more.1)))
constr_end f y ys r more (exact e) = let q = some_is e in
    subst (λ (m : List Name × List Tok). Reach (Goes 5 r) (ConstrPat (y ∷ ys)) r (Some (opened_or (y ∷ m.0) m.1 (opened_part (read_pat f) f m.1))))
    (sym q) (constr_here f y ys r (opened_part (read_pat f) f r) refl)
constr_end f y ys r more (farther c x e lt) =
    let q = some_is e in
    farther c (opened_or (y ∷ more.0) more.1 (opened_part (read_pat f) f more.1)) refl
    (omega (arith, opened_shorter f (y ∷ more.0) more.1 (opened_part (read_pat f) f more.1) refl, ap (λ (m : List Name × List Tok). length m.1) q))

pub constr_reach : (f : ℕ) (path : List Name) (r : List Tok) → path ≢ [] → length (path_then path r) ≤ suc f
    → Reach (Goes 5 r) (ConstrPat path) r (simple_at f (path_then path r))
unfolding simple_pat upper_pat
constr_reach f [] r w len = absurd (w refl)
constr_reach f (y ∷ ys) r w len =
    constr_end f y ys r (more_uppers f (dotted_then ys r)) (uppers_reach (Goes 5 r) ys r f (omega arith) (λ x e. dot_goes r x e))

pub opened_read : (f : ℕ) (path : List Name) (at : ℕ) (p : Pat) (r : List Tok) → path ≢ [] → Hits p → WfPat p
    → length (pat_then (OpenedPat path at p) r) ≤ suc f → simple_at f (pat_then (OpenedPat path at p) r) ≡ Some (OpenedPat path at p, r)
unfolding simple_pat upper_pat
opened_read f [] at p r w hits wp len = absurd (w refl)
opened_read f (y ∷ ys) at p r w hits wp len =
    let rest : List Tok = fixed key.Dot ∷ placed key.LeftParen at ∷ pat_then p (fixed key.RightParen ∷ r) in
    let longer = dotted_longer ys rest in
    let path = some_is (stop {C = ⊥} (λ c. c) (uppers_reach ⊥ ys rest f (omega arith) (λ x e. absurd cc))) in
    let inside = hit p hits wp f (fixed key.RightParen ∷ r) (omega (arith, longer)) (λ h. absurd (omega arith)) in
    rw (path, inside) refl

-- ---- parentheses

pub paren_read : (f at : ℕ) (p : Pat) (r : List Tok) → Hits p → WfPat p → length (pat_then (ParenPat at p) r) ≤ suc f
    → simple_at f (pat_then (ParenPat at p) r) ≡ Some (ParenPat at p, r)
unfolding simple_pat
paren_read f at p r hits w len =
    let inside = hit p hits w f (fixed key.RightParen ∷ r) (omega arith) (λ h. absurd (omega arith)) in
    paren_else (read_pat f) f at (pat_then p (fixed key.RightParen ∷ r)) (pat_opens p (fixed key.RightParen ∷ r) w) ∙ rw inside refl

pub typed_read : (f at : ℕ) (p : Pat) (run r : List Tok) → Hits p → WfPat p → is_type_run run ≡ true → length (pat_then (TypedPat at p run) r) ≤ suc f
    → simple_at f (pat_then (TypedPat at p run) r) ≡ Some (TypedPat at p run, r)
unfolding simple_pat
typed_read f at p run r hits w t len =
    let rest : List Tok = fixed key.Colon ∷ (run ++ (fixed key.RightParen ∷ r)) in
    let inside = hit p hits w f rest (omega arith) (λ h. absurd (omega arith)) in
    let type = type_run_read run (fixed key.RightParen ∷ r) t refl in
    paren_else (read_pat f) f at (pat_then p rest) (pat_opens p rest w) ∙ rw (inside, type) refl

-- ---- lists

-- a `;` or a closing word goes on with no pattern
ends_by : (r : List Tok) (b : Bracket) (last : Bool) → Goes 0 (optional_then key.Semicolon last (fixed (closing b) ∷ r)) → ⊥
ends_by r bracket.List true h = absurd (omega arith)
ends_by r bracket.Array true h = absurd (omega arith)
ends_by r bracket.List false h = absurd (omega arith)
ends_by r bracket.Array false h = absurd (omega arith)

rest_ends : (ps : Pats) (tail : List Tok) → (Goes 0 tail → ⊥) → Goes 0 (pats_then key.Semicolon ps tail) → ⊥
rest_ends no_pat tail never h = never h
rest_ends (more_pat p ps) tail never h = absurd (omega arith)

sub_none : (f : ℕ) (k : Fixed) (r : List Tok) → read_pat f (fixed k ∷ r) ≡ None
sub_none f k r = none_read 0 (read_pat f) (pat_found f) (fixed k ∷ r) (fixed_opens_none k r)

next_none : (f : ℕ) (r : List Tok) (b : Bracket) (last : Bool)
    → next_pat (read_pat f) f key.Semicolon (read_pat f) (optional_then key.Semicolon last (fixed (closing b) ∷ r)) ≡ None
next_none f r bracket.List true = sub_none f key.RightBracket r
next_none f r bracket.Array true = sub_none f key.RightArray r
next_none f r bracket.List false = refl
next_none f r bracket.Array false = refl

next_shorter : (f : ℕ) (sep : Fixed) (m : ℕ) (one : Read Pat) → Finds m one → (ts : List Tok) (x : Pat × List Tok)
    → next_pat (read_pat f) f sep one ts ≡ Some x → length x.1 < length ts
next_shorter f sep m one found ts x e =
    let p = part_found (read_pat f) f (pat_found f) m sep one found ts x e in
    omega (arith, ap length p.1, ap length p.2.words, pat_more x.0 x.1)

row_read : (f : ℕ) (ps : Pats) (tail : List Tok) → AllHit ps → WfPats 0 ps → next_pat (read_pat f) f key.Semicolon (read_pat f) tail ≡ None
    → (Goes 0 tail → ⊥) → (n : ℕ) → length (pats_then key.Semicolon ps tail) ≤ n → n ≤ f
    → Reach ⊥ ps tail (Some (many no_pat more_pat always (next_pat (read_pat f) f key.Semicolon (read_pat f)) n (pats_then key.Semicolon ps tail)))
row_read f no_pat tail hits w none never n len le = no_turn no_pat more_pat always (next_pat (read_pat f) f key.Semicolon (read_pat f))
    (next_shorter f key.Semicolon 0 (read_pat f) (pat_found f)) ⊥ true tail (length tail) n (λ _ x e. absurd cc)
row_read f (more_pat p ps) tail hits w none never zero len le = absurd (omega arith)
row_read f (more_pat p ps) tail hits w none never (suc n) len le =
    let rest : List Tok = pats_then key.Semicolon ps tail in
    let longer = pat_longer p rest w.1 in
    let part = ap (λ o. o >>= read_pat f) (expect_same key.Semicolon (pat_then p rest))
    ∙ hit p hits.0 w.1 f rest (omega (arith, longer)) (rest_ends ps tail never) in
    more_turns no_pat more_pat always (next_pat (read_pat f) f key.Semicolon (read_pat f)) (next_shorter f key.Semicolon 0 (read_pat f) (pat_found f))
    ⊥ p ps tail (fixed key.Semicolon ∷ pat_then p rest) rest (length tail) n part refl
    (row_read f ps tail hits.1 w.2 none never n (omega (arith, longer)) (omega arith))

close_read : (at : ℕ) (b : Bracket) (p : Pat) (ps : Pats) (last : Bool) (r : List Tok)
    → list_pat at b p (ps, optional_then key.Semicolon last (fixed (closing b) ∷ r)) ≡ Some (ListPat at b p ps last, r)
close_read at bracket.List p ps true r = refl
close_read at bracket.Array p ps true r = refl
close_read at bracket.List p ps false r = refl
close_read at bracket.Array p ps false r = refl

simple_bracket : (f at : ℕ) (b : Bracket) (ts : List Tok) → simple_at f (placed (opening b) at ∷ ts) ≡ bracket_pat (read_pat f) f at b ts
unfolding simple_pat
simple_bracket f at bracket.List ts = refl
simple_bracket f at bracket.Array ts = refl

pub empty_read : (f at : ℕ) (b : Bracket) (r : List Tok) → simple_at f (pat_then (EmptyPat at b) r) ≡ Some (EmptyPat at b, r)
unfolding simple_pat bracket_pat
empty_read f at bracket.List r = refl
empty_read f at bracket.Array r = refl

pub list_read : (f at : ℕ) (b : Bracket) (p : Pat) (ps : Pats) (last : Bool) (r : List Tok) → Hits p → AllHit ps → WfPat p → WfPats 0 ps
    → length (pat_then (ListPat at b p ps last) r) ≤ suc f → simple_at f (pat_then (ListPat at b p ps last) r) ≡ Some (ListPat at b p ps last, r)
list_read f at b p ps last r hits all w ws len =
    let tail : List Tok = optional_then key.Semicolon last (fixed (closing b) ∷ r) in
    let rest : List Tok = pats_then key.Semicolon ps tail in
    let longer = pat_longer p rest w in
    let first = hit p hits w f rest (omega arith) (rest_ends ps tail (ends_by r b last)) in
    let row = some_is (stop {C = ⊥} (λ c. c)
    (row_read f ps tail all ws (next_none f r b last) (ends_by r b last) f (omega (arith, longer)) (omega arith))) in
    simple_bracket f at b (pat_then p rest) ∙ bracket_else (read_pat f) f at b (pat_then p rest) (pat_opens p rest w)
    ∙ ap (λ o. o >>= λ x. list_pat at b x.0 (more_pats (read_pat f) f key.Semicolon (read_pat f) x.1)) first ∙ ap (list_pat at b p) row
    ∙ close_read at b p ps last r

-- ---- records

-- a `;` or a `}` follows a field
pub data EndsField : List Tok → Type 0 where
  by_semicolon : (r : List Tok) → EndsField (fixed key.Semicolon ∷ r)
  by_brace : (r : List Tok) → EndsField (fixed key.RightBrace ∷ r)

ends_goes : (k : List Tok) → EndsField k → Goes 0 k → ⊥
ends_goes _ (by_semicolon r) h = absurd (omega arith)
ends_goes _ (by_brace r) h = absurd (omega arith)

field_type : (run : Option (List Tok)) (k : List Tok) → WfType run → EndsField k → optional_type (type_then run k) ≡ (run, k)
field_type run _ w (by_semicolon r) = type_read run (fixed key.Semicolon ∷ r) w refl tt
field_type run _ w (by_brace r) = type_read run (fixed key.RightBrace ∷ r) w refl tt

no_equals : (f : ℕ) (k : List Tok) → EndsField k → equals_part (read_pat f) f k ≡ None
no_equals f _ (by_semicolon r) = refl
no_equals f _ (by_brace r) = refl

equals_read : (f at : ℕ) (p : Pat) (k : List Tok) → Hits p → WfPat p → EndsField k → length (pat_then p k) ≤ f
    → equals_part (read_pat f) f (placed key.Equals at ∷ pat_then p k) ≡ Some (at, p, k)
equals_read f at p k hits w ends len = let inside = hit p hits w f k len (ends_goes k ends) in rw inside refl

field_read : (f : ℕ) (x : PatField) (k : List Tok) → FieldHits x → WfPatField x → EndsField k → length (pat_field_then x k) ≤ f
    → field_pat (read_pat f) f (pat_field_then x k) ≡ Some (x, k)
unfolding field_pat
field_read f (PunnedField path x run) k hits w ends len =
    let q = qualifiers_reach path (word class.Lower x ∷ type_then run k) f len refl in
    let t = field_type run k w ends in
    let e = no_equals f k ends in
    rw (q, t, e) refl
field_read f (MatchedField path x run at p) k hits w ends len =
    let rest : List Tok = placed key.Equals at ∷ pat_then p k in
    let q = qualifiers_reach path (word class.Lower x ∷ type_then run rest) f len refl in
    let longer = qualified_longer path (word class.Lower x ∷ type_then run rest) in
    let t = type_read run rest w.0 refl tt in
    let e = equals_read f at p k hits w.1 ends (omega (arith, longer, type_longer run rest)) in
    rw (q, t, e) refl

-- what follows the fields of a record
abbrev pub record_end : Option ℕ → Bool → List Tok → List Tok
record_end rest last r = open_then rest (optional_then key.Semicolon last (fixed key.RightBrace ∷ r))

end_ends : (rest : Option ℕ) (last : Bool) (r : List Tok) → EndsField (record_end rest last r)
end_ends None true r = by_semicolon (fixed key.RightBrace ∷ r)
end_ends None false r = by_brace r
end_ends (Some at) last r = by_semicolon (placed key.Underscore at ∷ optional_then key.Semicolon last (fixed key.RightBrace ∷ r))

fields_end : (fs : PatFields) (rest : Option ℕ) (last : Bool) (r : List Tok) → EndsField (pat_fields_then fs (record_end rest last r))
fields_end no_pat_field rest last r = end_ends rest last r
fields_end (more_pat_field f fs) rest last r = by_semicolon (pat_field_then f (pat_fields_then fs (record_end rest last r)))

field_none : (f : ℕ) (ts : List Tok) → qualifiers f ts ≡ ([], ts) → lower_word ts ≡ None → field_pat (read_pat f) f ts ≡ None
unfolding field_pat
field_none f ts q h = rw (q, h) refl

fixed_qualifiers : (f : ℕ) (k : Fixed) (r : List Tok) → qualifiers f (fixed k ∷ r) ≡ ([], fixed k ∷ r)
unfolding many
fixed_qualifiers zero k r = refl
fixed_qualifiers (suc f) k r = refl

underscore_qualifiers : (f at : ℕ) (r : List Tok) → qualifiers f (placed key.Underscore at ∷ r) ≡ ([], placed key.Underscore at ∷ r)
unfolding many
underscore_qualifiers zero at r = refl
underscore_qualifiers (suc f) at r = refl

no_field : (f : ℕ) (rest : Option ℕ) (last : Bool) (r : List Tok) → next_field (read_pat f) f (record_end rest last r) ≡ None
no_field f None true r = field_none f (fixed key.RightBrace ∷ r) (fixed_qualifiers f key.RightBrace r) refl
no_field f None false r = refl
no_field f (Some at) last r = field_none f (placed key.Underscore at ∷ optional_then key.Semicolon last (fixed key.RightBrace ∷ r))
    (underscore_qualifiers f at (optional_then key.Semicolon last (fixed key.RightBrace ∷ r))) refl

field_shorter : (f : ℕ) (ts : List Tok) (x : PatField × List Tok) → next_field (read_pat f) f ts ≡ Some x → length x.1 < length ts
field_shorter f ts x e =
    let p = next_field_found (read_pat f) f (pat_found f) ts x e in
    omega (arith, ap length p.1, ap length p.2.words, field_more x.0 x.1)

fields_read : (f : ℕ) (fs : PatFields) (rest : Option ℕ) (last : Bool) (r : List Tok) → FieldsHit fs → WfPatFields fs → (n : ℕ)
    → length (pat_fields_then fs (record_end rest last r)) ≤ n → n ≤ f
    → Reach ⊥ fs (record_end rest last r)
    (Some (many no_pat_field more_pat_field always (next_field (read_pat f) f) n (pat_fields_then fs (record_end rest last r))))
fields_read f no_pat_field rest last r hits w n len le = no_turn no_pat_field more_pat_field always (next_field (read_pat f) f)
    (field_shorter f) ⊥ true (record_end rest last r) (length (record_end rest last r)) n (λ _ x e. let none = no_field f rest last r in absurd cc)
fields_read f (more_pat_field x fs) rest last r hits w zero len le = absurd (omega arith)
fields_read f (more_pat_field x fs) rest last r hits w (suc n) len le =
    let k : List Tok = pat_fields_then fs (record_end rest last r) in
    let longer = field_more x k in
    let part = ap (λ o. o >>= field_pat (read_pat f) f) (expect_same key.Semicolon (pat_field_then x k))
    ∙ field_read f x k hits.0 w.0 (fields_end fs rest last r) (omega arith) in
    more_turns no_pat_field more_pat_field always (next_field (read_pat f) f) (field_shorter f) ⊥ x fs (record_end rest last r)
    (fixed key.Semicolon ∷ pat_field_then x k) k (length (record_end rest last r)) n part refl
    (fields_read f fs rest last r hits.1 w.1 n (omega (arith, longer)) (omega arith))

record_close : (at : ℕ) (x : PatField) (fs : PatFields) (rest : Option ℕ) (last : Bool) (r : List Tok)
    → record_pat at x (fs, record_end rest last r) ≡ Some (RecordPat at x fs rest last, r)
record_close at x fs None true r = refl
record_close at x fs None false r = refl
record_close at x fs (Some at') true r = refl
record_close at x fs (Some at') false r = refl

pub record_read : (f at : ℕ) (x : PatField) (fs : PatFields) (rest : Option ℕ) (last : Bool) (r : List Tok) → FieldHits x → FieldsHit fs
    → WfPatField x → WfPatFields fs → length (pat_then (RecordPat at x fs rest last) r) ≤ suc f
    → simple_at f (pat_then (RecordPat at x fs rest last) r) ≡ Some (RecordPat at x fs rest last, r)
unfolding simple_pat brace_pat
record_read f at x fs rest last r hits all w ws len =
    let k : List Tok = pat_fields_then fs (record_end rest last r) in
    let longer = field_more x k in
    let first = field_read f x k hits w (fields_end fs rest last r) (omega arith) in
    let row = some_is (stop {C = ⊥} (λ c. c) (fields_read f fs rest last r all ws f (omega (arith, longer)) (omega arith))) in
    ap (λ o. o >>= λ y. record_pat at y.0 (many no_pat_field more_pat_field always (next_field (read_pat f) f) f y.1)) first
    ∙ ap (record_pat at x) row ∙ record_close at x fs rest last r
