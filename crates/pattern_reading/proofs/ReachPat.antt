-- No pattern is missed: what is read from a pattern's words and more is this pattern, or goes farther.
use Rattle.std.proofs.Common.{◌≡◌, ◌≢◌, ℕ, zero, suc, ◌<◌, ◌≤◌, List, [], ◌∷◌, length, Bool, true, false, cond, Option, Some, None, refl, sym, ap}
use Rattle.std.proofs.Common.{subst, ◌∙◌, arith}
use Rattle.rotor_base.specs.declared.token.Class.TheVariants as class
use Rattle.ml_trees.specs.declared.fixed.Fixed.{Fixed}
use Rattle.ml_trees.specs.declared.fixed.Fixed.TheVariants as key
use Rattle.ml_trees.specs.declared.word.Bracket.{Bracket}
use Rattle.ml_trees.specs.declared.word.Bracket.TheVariants as bracket
use Rattle.ml_trees.specs.Tok.{Name, Tok, fixed, placed, word}
use Rattle.ml_trees.proofs.Words.{pat_then, pats_then, path_then, dotted_then, name_then, names_then, opening}
use Rattle.ml_trees.specs.WellFormed.{WfNames, WfPat, WfPats, pat_level, is_exception}
use Rattle.ml_trees.specs.Tree.{ValueName, PlainName, OperatorName, Pat, AsPat, OrPat, TuplePat, ConsPat, ConstrApplyPat, TagApplyPat, LazyPat}
use Rattle.ml_trees.specs.Tree.{ExceptionPat, AnyPat, ValuePat, LiteralPat, NegativePat, RangePat, ConstrPat, TagPat, BoolPat, UnitPat, ParenPat}
use Rattle.ml_trees.specs.Tree.{TypedPat, EmptyPat, ListPat, RecordPat, OpenedPat, Pats, no_pat, more_pat, PatField, PunnedField, MatchedField}
use Rattle.ml_trees.specs.Tree.{PatFields, no_pat_field, more_pat_field}
use Rattle.token_reading.specs.Steps.{Read, ◌>>=◌, many, always}
use Rattle.token_reading.specs.Pieces.{value_name}
use Rattle.token_reading.specs.PatReading.{paren_pat, grown_as, grown_or, grown_tuple, grown_cons, applied_to, can_apply, next_pat, simple_pat}
use Rattle.token_reading.specs.PatReading.{plain_pat, applied_pat, pat_chain, cons_pat, tuple_pat, or_pat, as_name, as_pat, read_pat}
use Rattle.token_reading.proofs.Reach.{Reach, exact, farther, stop, weaken, and_then, as_read, many_shorter, no_turn, last_turn, more_turns, map_some}
use Rattle.token_reading.proofs.Reach.{map_read, expect_same}
use Rattle.pattern_reading.proofs.FoundPat.{IsPat, Finds, part_found, simple_found, applied_found, cons_found, tuple_found, as_name_found, pat_found}
use Rattle.pattern_reading.proofs.LongerPat.{pat_longer, name_longer, dotted_longer, begins_pat, Opens, pat_opens}
use Rattle.token_reading.proofs.ReachPieces.{name_read}
use Rattle.pattern_reading.proofs.ReachSimple.{grip, Goes, opens_goes, Hits, AllHit, FieldHits, FieldsHit, simple_at, bool_read, value_read}
use Rattle.pattern_reading.proofs.ReachSimple.{literal_reach}
use Rattle.pattern_reading.proofs.ReachSimple.{negative_read, constr_reach, opened_read, paren_read, typed_read, empty_read, list_read, record_read}

abbrev plain_at : ℕ → Read Pat
plain_at f = plain_pat (read_pat f) f

abbrev applied_at : ℕ → Read Pat
applied_at f = applied_pat (read_pat f) f

abbrev cons_at : ℕ → Read Pat
cons_at f = cons_pat (read_pat f) f

abbrev tuple_at : ℕ → Read Pat
tuple_at f = tuple_pat (read_pat f) f

abbrev or_at : ℕ → Read Pat
or_at f = or_pat (read_pat f) f

abbrev as_at : ℕ → Read Pat
as_at f = as_pat (read_pat f) f

-- at a level, what is read from a pattern's words and more
abbrev ReachAt : ℕ → (ℕ → Read Pat) → Pat → Type 0
ReachAt m one p = WfPat p → (f : ℕ) (r : List Tok) → length (pat_then p r) ≤ suc f → Reach (Goes m r) p r (one f (pat_then p r))

pub record Good (p : Pat) : Type 0 where
  pub simples : 5 ≤ pat_level p → ReachAt 5 simple_at p
  pub plains : 4 ≤ pat_level p → is_exception p ≡ false → ReachAt 4 plain_at p
  pub applieds : 4 ≤ pat_level p → ReachAt 4 applied_at p
  pub conses : 3 ≤ pat_level p → ReachAt 3 cons_at p
  pub tuples : 2 ≤ pat_level p → ReachAt 2 tuple_at p
  pub ors : 1 ≤ pat_level p → ReachAt 1 or_at p
  pub ass : ReachAt 0 as_at p

abbrev AllGood : Pats → Type 0
AllGood no_pat = Unit {0}
AllGood (more_pat p ps) = Good p × AllGood ps

goes_less : (m n : ℕ) → m ≤ n → (r : List Tok) → Goes n r → Goes m r
goes_less m n le [] h = h
goes_less m n le (k ∷ r) h = omega (arith, h)

-- ---- what is left gets shorter

is_shorter : (m : ℕ) (ts : List Tok) (x : Pat × List Tok) → IsPat m ts x → length x.1 < length ts
is_shorter m ts x h = omega (arith, ap length h.words, pat_longer x.0 x.1 h.wf)

module _ (f m : ℕ) (sep : Fixed) (one : Read Pat) (found : Finds m one) where
  next_shorter : (ts : List Tok) (x : Pat × List Tok) → next_pat (read_pat f) f sep one ts ≡ Some x → length x.1 < length ts
  next_shorter ts x e =
      let p = part_found (read_pat f) f (pat_found f) m sep one found ts x e in
      omega (arith, ap length p.1, is_shorter m p.0 x p.2)

  next_head : (ts : List Tok) (x : Pat × List Tok) → next_pat (read_pat f) f sep one ts ≡ Some x → (r : List Tok) × (ts ≡ fixed sep ∷ r)
  next_head ts x e = let p = part_found (read_pat f) f (pat_found f) m sep one found ts x e in (p.0, p.1)

  -- one level up, if none of this level follows
  module _ (g : ℕ) (grown : Pat → Pats → Pat) (lone : (p : Pat) → grown p no_pat ≡ p) (goes : g < grip (fixed sep)) where
    goes_by : (r : List Tok) (x : Pat × List Tok) → next_pat (read_pat f) f sep one r ≡ Some x → Goes g r
    goes_by r x e = let h = next_head r x e in subst (Goes g) (sym h.1) goes

    abbrev parts : ℕ → List Tok → Pats × List Tok
    parts n r = many no_pat more_pat always (next_pat (read_pat f) f sep one) n r

    climb : {C : Type 0} (p : Pat) (r ts : List Tok) → (C → Goes g r) → Reach C p r (one ts)
        → Reach (Goes g r) p r (pat_chain (read_pat f) f sep grown one ts)
    climb p r ts to h = and_then p r (λ x. Some (grown x.0 (parts f x.1).0, (parts f x.1).1))
        (subst (λ q. Reach (Goes g r) q r (Some (grown p (parts f r).0, (parts f r).1))) (lone p)
        (map_some (grown p) no_pat r (length r) (parts f r)
        (no_turn no_pat more_pat always (next_pat (read_pat f) f sep one) next_shorter (Goes g r) true r (length r) f
        (λ _ x e. (goes_by r x e, next_shorter r x e))))) to
        (λ x. (
          (grown x.0 (parts f x.1).0, (parts f x.1).1),
          refl,
          many_shorter no_pat more_pat always (next_pat (read_pat f) f sep one) next_shorter
              f x.1,
        )) h

    module _ (c : ℕ) (stops : c < grip (fixed sep) → ⊥)
        (hits : (p : Pat) → Good p → m ≤ pat_level p → WfPat p → (r : List Tok) → length (pat_then p r) ≤ suc f
        → Reach (Goes c r) p r (one (pat_then p r)))
        (to : (r : List Tok) → Goes c r → Goes g r) where
      list_reach : (p : Pat) (ps : Pats) → AllGood (more_pat p ps) → WfPats m (more_pat p ps) → (n : ℕ) (r : List Tok)
          → length (pats_then sep (more_pat p ps) r) ≤ n → n ≤ suc f
          → Reach (Goes g r) (more_pat p ps) r (Some (parts n (pats_then sep (more_pat p ps) r)))
      list_reach p ps good w zero r len le = absurd (omega arith)
      list_reach p no_pat good w (suc n) r len le =
          let part = as_read (ap (λ o. o >>= one) (expect_same sep (pat_then p r))) (weaken (to r) (hits p good.0 w.0 w.1 r (omega arith))) in
          last_turn no_pat more_pat always (next_pat (read_pat f) f sep one) next_shorter (Goes g r) p r (fixed sep ∷ pat_then p r) (length r) n part
          (λ k x e. (goes_by r x e, next_shorter r x e))
      list_reach p (more_pat q qs) good w (suc n) r len le =
          let rest : List Tok = pats_then sep (more_pat q qs) r in
          let longer : length rest < length (pat_then p rest) = pat_longer p rest w.1 in
          let first = ap (λ o. o >>= one) (expect_same sep (pat_then p rest)) ∙ stop stops (hits p good.0 w.0 w.1 rest (omega arith)) in
          more_turns no_pat more_pat always (next_pat (read_pat f) f sep one) next_shorter (Goes g r) p (more_pat q qs) r
          (fixed sep ∷ pat_then p rest) rest (length r) n first refl
          (list_reach q qs good.1 w.2 n r (omega arith) (omega arith))

      chain_reach : (p : Pat) (ps : Pats) → ps ≢ no_pat → Good p → AllGood ps → m ≤ pat_level p → WfPat p → WfPats m ps → (r : List Tok)
          → length (pat_then p (pats_then sep ps r)) ≤ suc f
          → Reach (Goes g r) (grown p ps) r (pat_chain (read_pat f) f sep grown one (pat_then p (pats_then sep ps r)))
      chain_reach p no_pat some good goods lv w ws r len = absurd (some refl)
      chain_reach p (more_pat q qs) some good goods lv w ws r len =
          let rest : List Tok = pats_then sep (more_pat q qs) r in
          let longer : length rest < length (pat_then p rest) = pat_longer p rest w in
          let first = stop stops (hits p good lv w rest len) in
          as_read (ap (λ o. o >>= λ p. Some (grown p.0 (parts f p.1).0, (parts f p.1).1)) first)
          (map_some (grown p) (more_pat q qs) r (length r) (parts f rest) (list_reach q qs goods ws f r (omega arith) (omega arith)))

-- ---- applied patterns

-- a `lazy` or an `exception`
abbrev is_lead : Tok → Bool
is_lead (placed key.Lazy at) = true
is_lead (placed key.Exception at) = true
is_lead _ = false

record Leads (ts : List Tok) : Type 0 where
  first : Tok
  rest : List Tok
  is : ts ≡ first ∷ rest
  plain : is_lead first ≡ false

led : (t : Tok) (rest : List Tok) → is_lead t ≡ false → Leads (t ∷ rest)
led t rest h = record { first = t; rest = rest; is = refl; plain = h }

path_leads : (path : List Name) (k : List Tok) → path ≢ [] → Leads (path_then path k)
path_leads [] k h = absurd (h refl)
path_leads (x ∷ xs) k h = led (word class.Upper x) (dotted_then xs k) refl

name_leads : (x : ValueName) (k : List Tok) → Leads (name_then x k)
name_leads (PlainName x) k = led (word class.Lower x) k refl
name_leads (OperatorName at t) k = led (placed key.LeftParen at) _ refl

bool_leads : (at : ℕ) (b : Bool) (k : List Tok) → Leads (pat_then (BoolPat at b) k)
bool_leads at true k = led (placed key.True at) k refl
bool_leads at false k = led (placed key.False at) k refl

bracket_leads : (at : ℕ) (b : Bracket) (k : List Tok) → Leads (placed (opening b) at ∷ k)
bracket_leads at bracket.List k = led (placed key.LeftBracket at) k refl
bracket_leads at bracket.Array k = led (placed key.LeftArray at) k refl

simple_leads : (p : Pat) (k : List Tok) → 5 ≤ pat_level p → WfPat p → Leads (pat_then p k)
simple_leads (AsPat p xs) k h w = absurd (omega (arith, h))
simple_leads (OrPat p ps) k h w = absurd (omega (arith, h))
simple_leads (TuplePat p ps) k h w = absurd (omega (arith, h))
simple_leads (ConsPat p ps) k h w = absurd (omega (arith, h))
simple_leads (ConstrApplyPat path p) k h w = absurd (omega (arith, h))
simple_leads (TagApplyPat x p) k h w = absurd (omega (arith, h))
simple_leads (LazyPat at p) k h w = absurd (omega (arith, h))
simple_leads (ExceptionPat at p) k h w = absurd (omega (arith, h))
simple_leads (AnyPat at) k h w = led (placed key.Underscore at) k refl
simple_leads (ValuePat x) k h w = name_leads x k
simple_leads (LiteralPat c x) k h w = led (word c x) k refl
simple_leads (NegativePat x c y) k h w = led (word class.Infix x) _ refl
simple_leads (RangePat x y) k h w = led (word class.Char x) _ refl
simple_leads (ConstrPat path) k h w = path_leads path k w
simple_leads (TagPat x) k h w = led (word class.Tag x) k refl
simple_leads (BoolPat at b) k h w = bool_leads at b k
simple_leads (UnitPat at) k h w = led (placed key.LeftParen at) _ refl
simple_leads (ParenPat at p) k h w = led (placed key.LeftParen at) _ refl
simple_leads (TypedPat at p run) k h w = led (placed key.LeftParen at) _ refl
simple_leads (EmptyPat at b) k h w = bracket_leads at b _
simple_leads (ListPat at b p ps last) k h w = bracket_leads at b _
simple_leads (RecordPat at f fs rest last) k h w = led (placed key.LeftBrace at) _ refl
simple_leads (OpenedPat path at p) k h w = path_leads path _ w.0

module _ (f : ℕ) where
  -- what a constructor or a tag is applied to
  abbrev rest_at : Pat × List Tok → Option (Pat × List Tok)
  rest_at x = Some (applied_to x.0 x.1 (cond (can_apply x.0) (simple_at f x.1) None))

  plain_by : (t : Tok) (rest : List Tok) → is_lead t ≡ false → plain_at f (t ∷ rest) ≡ (simple_at f (t ∷ rest) >>= rest_at)
  unfolding plain_pat
  plain_by (fixed x) rest h = refl
  plain_by (placed key.Lazy at) rest h = absurd cc
  plain_by (placed _ at) rest h = refl
  plain_by (word c x) rest h = refl

  plain_is : (ts : List Tok) → Leads ts → plain_at f ts ≡ (simple_at f ts >>= rest_at)
  plain_is ts l = subst (λ k. plain_at f k ≡ (simple_at f k >>= rest_at)) (sym l.is) (plain_by l.first l.rest l.plain)

  applied_by : (t : Tok) (rest : List Tok) → is_lead t ≡ false → applied_at f (t ∷ rest) ≡ plain_at f (t ∷ rest)
  unfolding applied_pat
  applied_by (fixed x) rest h = refl
  applied_by (placed key.Exception at) rest h = absurd cc
  applied_by (placed _ at) rest h = refl
  applied_by (word c x) rest h = refl

  applied_is : (ts : List Tok) → Leads ts → applied_at f ts ≡ plain_at f ts
  applied_is ts l = subst (λ k. applied_at f k ≡ plain_at f k) (sym l.is) (applied_by l.first l.rest l.plain)

  argument_goes : (b : Bool) (r : List Tok) (x : Pat × List Tok) → cond b (simple_at f r) None ≡ Some x → Goes 4 r × (length x.1 < length r)
  argument_goes false r x e = absurd cc
  argument_goes true r x e =
      let p = simple_found (read_pat f) f (pat_found f) r x e in
      (subst (Goes 4) (sym p.words) (opens_goes (pat_then x.0 x.1) (pat_opens x.0 x.1 p.wf)), is_shorter 5 r x p)

  applied_here : (p : Pat) (r : List Tok) (o : Option (Pat × List Tok)) → ((x : Pat × List Tok) → o ≡ Some x → Goes 4 r × (length x.1 < length r))
      → Reach (Goes 4 r) p r (Some (applied_to p r o))
  applied_here (ConstrPat path) r (Some x) g = farther (g x refl).0 (ConstrApplyPat path x.0, x.1) refl (g x refl).1
  applied_here (TagPat y) r (Some x) g = farther (g x refl).0 (TagApplyPat y x.0, x.1) refl (g x refl).1
  applied_here _ r o g = exact refl

  applied_shorter : (p : Pat) (r : List Tok) (o : Option (Pat × List Tok)) → ((x : Pat × List Tok) → o ≡ Some x → Goes 4 r × (length x.1 < length r))
      → length (applied_to p r o).1 ≤ length r
  applied_shorter (ConstrPat path) r (Some x) g = omega (arith, (g x refl).1)
  applied_shorter (TagPat y) r (Some x) g = omega (arith, (g x refl).1)
  applied_shorter _ r o g = omega arith

  -- a Simple with nothing behind it
  lone_reach : (p : Pat) (r ts : List Tok) → Reach (Goes 5 r) p r (simple_at f ts) → Reach (Goes 4 r) p r (simple_at f ts >>= rest_at)
  lone_reach p r ts h = and_then p r rest_at (applied_here p r (cond (can_apply p) (simple_at f r) None) (λ x e. argument_goes (can_apply p) r x e))
      (goes_less 4 5 (omega arith) r)
      (λ x. (
        applied_to x.0 x.1 (cond (can_apply x.0) (simple_at f x.1) None),
        refl,
        applied_shorter x.0 x.1
            (cond (can_apply x.0) (simple_at f x.1) None) (λ y e. argument_goes (can_apply x.0) x.1 y e),
      )) h

  first_stops : (t : Tok) → begins_pat t ≡ true → 5 < grip t → ⊥
  first_stops (fixed x) b h = absurd cc
  first_stops (placed x at) b h = absurd (omega (arith, subst (λ c. 5 < cond c 5 0) b h))
  first_stops (word c x) b h = absurd (omega (arith, h))

  opens_stops : (ts : List Tok) → Opens ts → Goes 5 ts → ⊥
  opens_stops ts o h = first_stops o.first o.begins (subst (Goes 5) o.is h)

  constr_applied : (path : List Name) (p : Pat) (r : List Tok) (o : Option (Pat × List Tok)) → Reach (Goes 5 r) p r o
      → Reach (Goes 4 r) (ConstrApplyPat path p) r (Some (applied_to (ConstrPat path) (pat_then p r) o))
  constr_applied path p r o (exact e) = rw e (exact refl)
  constr_applied path p r o (farther c x e lt) = rw e (farther (goes_less 4 5 (omega arith) r c) (ConstrApplyPat path x.0, x.1) refl lt)

  tag_applied : (y : Name) (p : Pat) (r : List Tok) (o : Option (Pat × List Tok)) → Reach (Goes 5 r) p r o
      → Reach (Goes 4 r) (TagApplyPat y p) r (Some (applied_to (TagPat y) (pat_then p r) o))
  tag_applied y p r o (exact e) = rw e (exact refl)
  tag_applied y p r o (farther c x e lt) = rw e (farther (goes_less 4 5 (omega arith) r c) (TagApplyPat y x.0, x.1) refl lt)

  tag_read : (y : Name) (r : List Tok) → simple_at f (word class.Tag y ∷ r) ≡ Some (TagPat y, r)
  unfolding simple_pat
  tag_read y r = refl

  lazy_is : (at : ℕ) (ts : List Tok) → plain_at f (placed key.Lazy at ∷ ts) ≡ (simple_at f ts >>= λ q. Some (LazyPat at q.0, q.1))
  unfolding plain_pat
  lazy_is at ts = refl

  exception_is : (at : ℕ) (ts : List Tok) → applied_at f (placed key.Exception at ∷ ts) ≡ (plain_at f ts >>= λ q. Some (ExceptionPat at q.0, q.1))
  unfolding applied_pat
  exception_is at ts = refl

-- ---- the levels

as_cons : {C : Type 0} (f : ℕ) (p : Pat) (r ts : List Tok) → (C → Goes 3 r) → Reach C p r (applied_at f ts) → Reach (Goes 3 r) p r (cons_at f ts)
unfolding cons_pat
as_cons f p r ts to h = climb f 4 key.ColonColon (applied_at f) (applied_found (read_pat f) f (pat_found f)) 3 grown_cons (λ p. refl)
    (omega arith) p r ts to h

as_tuple : {C : Type 0} (f : ℕ) (p : Pat) (r ts : List Tok) → (C → Goes 2 r) → Reach C p r (cons_at f ts) → Reach (Goes 2 r) p r (tuple_at f ts)
unfolding tuple_pat
as_tuple f p r ts to h = climb f 3 key.Comma (cons_at f) (cons_found (read_pat f) f (pat_found f)) 2 grown_tuple (λ p. refl) (omega arith) p r ts to h

as_or : {C : Type 0} (f : ℕ) (p : Pat) (r ts : List Tok) → (C → Goes 1 r) → Reach C p r (tuple_at f ts) → Reach (Goes 1 r) p r (or_at f ts)
unfolding or_pat
as_or f p r ts to h = climb f 2 key.Bar (tuple_at f) (tuple_found (read_pat f) f (pat_found f)) 1 grown_or (λ p. refl) (omega arith) p r ts to h

-- names behind an `as`
as_shorter : (f : ℕ) (ts : List Tok) (x : ValueName × List Tok) → as_name (read_pat f) f ts ≡ Some x → length x.1 < length ts
as_shorter f ts x e =
    let p = as_name_found (read_pat f) f (pat_found f) ts x e in
    omega (arith, ap length p.1, ap length p.2.words, name_longer x.0 x.1)

as_goes : (f : ℕ) (r : List Tok) (x : ValueName × List Tok) → as_name (read_pat f) f r ≡ Some x → Goes 0 r
as_goes f r x e = let p = as_name_found (read_pat f) f (pat_found f) r x e in subst (Goes 0) (sym p.1) (omega arith)

abbrev names_at : ℕ → ℕ → List Tok → List ValueName × List Tok
names_at f n ts = many [] ◌∷◌ always (as_name (read_pat f) f) n ts

names_reach : (f : ℕ) (xs : List ValueName) (r : List Tok) → WfNames xs → (n : ℕ) → length (names_then xs r) ≤ n
    → Reach (Goes 0 r) xs r (Some (names_at f n (names_then xs r)))
names_reach f [] r w n len = no_turn [] ◌∷◌ always (as_name (read_pat f) f) (as_shorter f) (Goes 0 r) true r (length r) n
    (λ _ x e. (as_goes f r x e, as_shorter f r x e))
names_reach f (x ∷ xs) r w zero len = absurd (omega arith)
names_reach f (x ∷ xs) r w (suc n) len =
    let rest : List Tok = names_then xs r in
    let longer = name_longer x rest in
    let part = ap (λ o. o >>= value_name) (expect_same key.As (name_then x rest)) ∙ name_read x rest w.0 in
    more_turns [] ◌∷◌ always (as_name (read_pat f) f) (as_shorter f) (Goes 0 r) x xs r (fixed key.As ∷ name_then x rest) rest (length r) n part refl
    (names_reach f xs r w.1 n (omega (arith, longer)))

as_as : {C : Type 0} (f : ℕ) (p : Pat) (r ts : List Tok) → (C → Goes 0 r) → Reach C p r (or_at f ts) → Reach (Goes 0 r) p r (as_at f ts)
unfolding as_pat
as_as f p r ts to h = and_then p r (λ x. Some (grown_as x.0 (names_at f f x.1).0, (names_at f f x.1).1))
    (map_some (grown_as p) [] r (length r) (names_at f f r)
    (no_turn [] ◌∷◌ always (as_name (read_pat f) f) (as_shorter f) (Goes 0 r) true r (length r) f
    (λ _ x e. (as_goes f r x e, as_shorter f r x e)))) to
    (λ x. ((grown_as x.0 (names_at f f x.1).0, (names_at f f x.1).1), refl, many_shorter [] ◌∷◌ always (as_name (read_pat f) f) (as_shorter f) f x.1))
    h

as_reach : (p : Pat) (xs : List ValueName) → Good p → WfPat (AsPat p xs) → (f : ℕ) (r : List Tok) → length (pat_then (AsPat p xs) r) ≤ suc f
    → Reach (Goes 0 r) (AsPat p xs) r (as_at f (pat_then (AsPat p xs) r))
unfolding as_pat
as_reach p [] good w f r len = absurd (w.1 refl)
as_reach p (x ∷ xs) good w f r len =
    let rest : List Tok = names_then (x ∷ xs) r in
    let longer = pat_longer p rest w.3 in
    let first = stop (λ h. absurd (omega arith)) (good.ors w.0 w.3 f rest len) in
    as_read (ap (λ o. o >>= λ p. Some (grown_as p.0 (names_at f f p.1).0, (names_at f f p.1).1)) first)
    (map_some (grown_as p) (x ∷ xs) r (length r) (names_at f f rest) (names_reach f (x ∷ xs) r w.2 f (omega (arith, longer))))

or_reach : (p : Pat) (ps : Pats) → Good p → AllGood ps → WfPat (OrPat p ps) → (f : ℕ) (r : List Tok) → length (pat_then (OrPat p ps) r) ≤ suc f
    → Reach (Goes 1 r) (OrPat p ps) r (or_at f (pat_then (OrPat p ps) r))
unfolding or_pat
or_reach p no_pat good goods w f r len = absurd (w.1 refl)
or_reach p (more_pat q qs) good goods w f r len =
    chain_reach f 2 key.Bar (tuple_at f) (tuple_found (read_pat f) f (pat_found f)) 1 grown_or (λ p. refl) (omega arith) 2 (λ h. absurd (omega arith))
    (λ p g lv w r len. g.tuples lv w f r len) (goes_less 1 2 (omega arith)) p (more_pat q qs) w.1 good goods w.0 w.2 w.3 r len

tuple_reach : (p : Pat) (ps : Pats) → Good p → AllGood ps → WfPat (TuplePat p ps) → (f : ℕ) (r : List Tok)
    → length (pat_then (TuplePat p ps) r) ≤ suc f → Reach (Goes 2 r) (TuplePat p ps) r (tuple_at f (pat_then (TuplePat p ps) r))
unfolding tuple_pat
tuple_reach p no_pat good goods w f r len = absurd (w.1 refl)
tuple_reach p (more_pat q qs) good goods w f r len =
    chain_reach f 3 key.Comma (cons_at f) (cons_found (read_pat f) f (pat_found f)) 2 grown_tuple (λ p. refl) (omega arith) 3
    (λ h. absurd (omega arith)) (λ p g lv w r len. g.conses lv w f r len) (goes_less 2 3 (omega arith)) p
    (more_pat q qs) w.1 good goods w.0 w.2 w.3 r len

cons_reach : (p : Pat) (ps : Pats) → Good p → AllGood ps → WfPat (ConsPat p ps) → (f : ℕ) (r : List Tok) → length (pat_then (ConsPat p ps) r) ≤ suc f
    → Reach (Goes 3 r) (ConsPat p ps) r (cons_at f (pat_then (ConsPat p ps) r))
unfolding cons_pat
cons_reach p no_pat good goods w f r len = absurd (w.1 refl)
cons_reach p (more_pat q qs) good goods w f r len =
    chain_reach f 4 key.ColonColon (applied_at f) (applied_found (read_pat f) f (pat_found f)) 3 grown_cons (λ p. refl) (omega arith) 4
    (λ h. absurd (omega arith)) (λ p g lv w r len. g.applieds lv w f r len) (goes_less 3 4 (omega arith)) p
    (more_pat q qs) w.1 good goods w.0 w.2 w.3 r len

-- from the level of a pattern to all below it
from_as : (p : Pat) → pat_level p ≡ 0 → ReachAt 0 as_at p → Good p
from_as p lv h = record {
  simples = λ le. absurd (omega (arith, lv, le));
  plains = λ le. absurd (omega (arith, lv, le));
  applieds = λ le. absurd (omega (arith, lv, le));
  conses = λ le. absurd (omega (arith, lv, le));
  tuples = λ le. absurd (omega (arith, lv, le));
  ors = λ le. absurd (omega (arith, lv, le));
  ass = h;
}

from_or : (p : Pat) → pat_level p ≡ 1 → ReachAt 1 or_at p → Good p
from_or p lv h = record {
  simples = λ le. absurd (omega (arith, lv, le));
  plains = λ le. absurd (omega (arith, lv, le));
  applieds = λ le. absurd (omega (arith, lv, le));
  conses = λ le. absurd (omega (arith, lv, le));
  tuples = λ le. absurd (omega (arith, lv, le));
  ors = λ _. h;
  ass = λ w f r len. as_as f p r (pat_then p r) (goes_less 0 1 (omega arith) r) (h w f r len);
}

from_tuple : (p : Pat) → pat_level p ≡ 2 → ReachAt 2 tuple_at p → Good p
from_tuple p lv h =
    let o : ReachAt 1 or_at p = λ w f r len. as_or f p r (pat_then p r) (goes_less 1 2 (omega arith) r) (h w f r len) in
    record {
      simples = λ le. absurd (omega (arith, lv, le));
      plains = λ le. absurd (omega (arith, lv, le));
      applieds = λ le. absurd (omega (arith, lv, le));
      conses = λ le. absurd (omega (arith, lv, le));
      tuples = λ _. h;
      ors = λ _. o;
      ass = λ w f r len. as_as f p r (pat_then p r) (goes_less 0 1 (omega arith) r) (o w f r len);
    }

from_cons : (p : Pat) → pat_level p ≡ 3 → ReachAt 3 cons_at p → Good p
from_cons p lv h =
    let t : ReachAt 2 tuple_at p = λ w f r len. as_tuple f p r (pat_then p r) (goes_less 2 3 (omega arith) r) (h w f r len) in
    let o : ReachAt 1 or_at p = λ w f r len. as_or f p r (pat_then p r) (goes_less 1 2 (omega arith) r) (t w f r len) in
    record {
      simples = λ le. absurd (omega (arith, lv, le));
      plains = λ le. absurd (omega (arith, lv, le));
      applieds = λ le. absurd (omega (arith, lv, le));
      conses = λ _. h;
      tuples = λ _. t;
      ors = λ _. o;
      ass = λ w f r len. as_as f p r (pat_then p r) (goes_less 0 1 (omega arith) r) (o w f r len);
    }

-- of level 4
from_applied : (p : Pat) → pat_level p ≡ 4 → (is_exception p ≡ false → ReachAt 4 plain_at p) → ReachAt 4 applied_at p → Good p
from_applied p lv q h =
    let c : ReachAt 3 cons_at p = λ w f r len. as_cons f p r (pat_then p r) (goes_less 3 4 (omega arith) r) (h w f r len) in
    let t : ReachAt 2 tuple_at p = λ w f r len. as_tuple f p r (pat_then p r) (goes_less 2 3 (omega arith) r) (c w f r len) in
    let o : ReachAt 1 or_at p = λ w f r len. as_or f p r (pat_then p r) (goes_less 1 2 (omega arith) r) (t w f r len) in
    record {
      simples = λ le. absurd (omega (arith, lv, le));
      plains = λ _. q;
      applieds = λ _. h;
      conses = λ _. c;
      tuples = λ _. t;
      ors = λ _. o;
      ass = λ w f r len. as_as f p r (pat_then p r) (goes_less 0 1 (omega arith) r) (o w f r len);
    }

from_simple : (p : Pat) → pat_level p ≡ 5 → ReachAt 5 simple_at p → Good p
from_simple p lv s =
    let q : ReachAt 4 plain_at p = λ w f r len. as_read (plain_is f (pat_then p r) (simple_leads p r (omega (arith, lv)) w))
    (lone_reach f p r (pat_then p r) (s w f r len)) in
    let h : ReachAt 4 applied_at p = λ w f r len. as_read (applied_is f (pat_then p r) (simple_leads p r (omega (arith, lv)) w)) (q w f r len) in
    let c : ReachAt 3 cons_at p = λ w f r len. as_cons f p r (pat_then p r) (goes_less 3 4 (omega arith) r) (h w f r len) in
    let t : ReachAt 2 tuple_at p = λ w f r len. as_tuple f p r (pat_then p r) (goes_less 2 3 (omega arith) r) (c w f r len) in
    let o : ReachAt 1 or_at p = λ w f r len. as_or f p r (pat_then p r) (goes_less 1 2 (omega arith) r) (t w f r len) in
    record {
      simples = λ _. s;
      plains = λ _ _. q;
      applieds = λ _. h;
      conses = λ _. c;
      tuples = λ _. t;
      ors = λ _. o;
      ass = λ w f r len. as_as f p r (pat_then p r) (goes_less 0 1 (omega arith) r) (o w f r len);
    }

-- ---- each variant

sub_hits : (p : Pat) → Good p → Hits p
unfolding read_pat
sub_hits p good w zero r len = absurd (omega (arith, pat_longer p r w))
sub_hits p good w (suc f) r len = good.ass w f r len

all_hits : (ps : Pats) → AllGood ps → AllHit ps
all_hits no_pat g = tt
all_hits (more_pat p ps) g = (sub_hits p g.0, all_hits ps g.1)

abbrev FieldGood : PatField → Type 0
FieldGood (PunnedField path x run) = Unit {0}
FieldGood (MatchedField path x run at p) = Good p

abbrev FieldsGood : PatFields → Type 0
FieldsGood no_pat_field = Unit {0}
FieldsGood (more_pat_field f fs) = FieldGood f × FieldsGood fs

field_hits : (f : PatField) → FieldGood f → FieldHits f
field_hits (PunnedField path x run) g = tt
field_hits (MatchedField path x run at p) g = sub_hits p g

fields_hit : (fs : PatFields) → FieldsGood fs → FieldsHit fs
fields_hit no_pat_field g = tt
fields_hit (more_pat_field f fs) g = (field_hits f g.0, fields_hit fs g.1)

simple_refl : (f : ℕ) (p : Pat) (r : List Tok) → simple_at f (pat_then p r) ≡ Some (p, r) → Reach (Goes 5 r) p r (simple_at f (pat_then p r))
simple_refl f p r e = exact e

any_read : (f at : ℕ) (r : List Tok) → simple_at f (pat_then (AnyPat at) r) ≡ Some (AnyPat at, r)
unfolding simple_pat
any_read f at r = refl

unit_read : (f at : ℕ) (r : List Tok) → simple_at f (pat_then (UnitPat at) r) ≡ Some (UnitPat at, r)
unfolding simple_pat paren_pat
unit_read f at r = refl

range_read : (f : ℕ) (x y : Name) (r : List Tok) → simple_at f (pat_then (RangePat x y) r) ≡ Some (RangePat x y, r)
unfolding simple_pat
range_read f x y r = refl

constr_apply : (path : List Name) (p : Pat) → Good p → ReachAt 4 plain_at (ConstrApplyPat path p)
constr_apply path p good w f r len =
    let longer = path_more path (pat_then p r) w.0 in
    let inner = good.simples w.1 w.2 f r (omega (arith, longer)) in
    let first = stop (opens_stops f (pat_then p r) (pat_opens p r w.2)) (constr_reach f path (pat_then p r) w.0 len) in
    as_read (plain_is f (path_then path (pat_then p r)) (path_leads path (pat_then p r) w.0) ∙ ap (λ o. o >>= rest_at f) first)
    (constr_applied f path p r (simple_at f (pat_then p r)) inner)
  where
    path_more : (path : List Name) (k : List Tok) → path ≢ [] → length k < length (path_then path k)
    path_more [] k h = absurd (h refl)
    path_more (x ∷ xs) k h = omega (arith, dotted_longer xs k)

tag_apply : (y : Name) (p : Pat) → Good p → ReachAt 4 plain_at (TagApplyPat y p)
tag_apply y p good w f r len =
    let inner = good.simples w.0 w.1 f r (omega arith) in
    as_read (plain_is f (word class.Tag y ∷ pat_then p r) (led (word class.Tag y) (pat_then p r) refl)
    ∙ ap (λ o. o >>= rest_at f) (tag_read f y (pat_then p r))) (tag_applied f y p r (simple_at f (pat_then p r)) inner)

lazy_plain : (at : ℕ) (p : Pat) → Good p → ReachAt 4 plain_at (LazyPat at p)
lazy_plain at p good w f r len =
    as_read (lazy_is f at (pat_then p r)) (map_read (LazyPat at) (goes_less 4 5 (omega arith) r) (good.simples w.0 w.1 f r (omega arith)))

lazy_applied_is : (f at : ℕ) (ts : List Tok) → applied_at f (placed key.Lazy at ∷ ts) ≡ plain_at f (placed key.Lazy at ∷ ts)
unfolding applied_pat
lazy_applied_is f at ts = refl

exception_applied : (at : ℕ) (p : Pat) → Good p → ReachAt 4 applied_at (ExceptionPat at p)
exception_applied at p good w f r len =
    as_read (exception_is f at (pat_then p r)) (map_read (ExceptionPat at) (λ c. c) (good.plains w.0 w.1 w.2 f r (omega arith)))

exception_plain : (at : ℕ) (p : Pat) → is_exception (ExceptionPat at p) ≡ false → ReachAt 4 plain_at (ExceptionPat at p)
exception_plain at p h = absurd cc

mutual
  pat_good : (p : Pat) → Good p
  pat_good (AsPat p xs) = from_as (AsPat p xs) refl (as_reach p xs (pat_good p))
  pat_good (OrPat p ps) = from_or (OrPat p ps) refl (or_reach p ps (pat_good p) (pats_good ps))
  pat_good (TuplePat p ps) = from_tuple (TuplePat p ps) refl (tuple_reach p ps (pat_good p) (pats_good ps))
  pat_good (ConsPat p ps) = from_cons (ConsPat p ps) refl (cons_reach p ps (pat_good p) (pats_good ps))
  pat_good (ConstrApplyPat path p) = from_applied (ConstrApplyPat path p) refl (λ _. constr_apply path p (pat_good p))
      (λ w f r len. as_read (applied_is f (path_then path (pat_then p r)) (path_leads path (pat_then p r) w.0))
      (constr_apply path p (pat_good p) w f r len))
  pat_good (TagApplyPat y p) = from_applied (TagApplyPat y p) refl (λ _. tag_apply y p (pat_good p))
      (λ w f r len. as_read (applied_is f (word class.Tag y ∷ pat_then p r) (led (word class.Tag y) (pat_then p r) refl))
      (tag_apply y p (pat_good p) w f r len))
  pat_good (LazyPat at p) = from_applied (LazyPat at p) refl (λ _. lazy_plain at p (pat_good p))
      (λ w f r len. as_read (lazy_applied_is f at (pat_then p r)) (lazy_plain at p (pat_good p) w f r len))
  pat_good (ExceptionPat at p) = from_applied (ExceptionPat at p) refl (exception_plain at p) (exception_applied at p (pat_good p))
  pat_good (AnyPat at) = from_simple (AnyPat at) refl (λ w f r len. exact (any_read f at r))
  pat_good (ValuePat x) = from_simple (ValuePat x) refl (λ w f r len. exact (value_read f x r w))
  pat_good (LiteralPat c x) = from_simple (LiteralPat c x) refl (λ w f r len. literal_reach f c x r w)
  pat_good (NegativePat x c y) = from_simple (NegativePat x c y) refl (λ w f r len. exact (negative_read f x c y r w.0 w.1))
  pat_good (RangePat x y) = from_simple (RangePat x y) refl (λ w f r len. exact (range_read f x y r))
  pat_good (ConstrPat path) = from_simple (ConstrPat path) refl (λ w f r len. constr_reach f path r w len)
  pat_good (TagPat y) = from_simple (TagPat y) refl (λ w f r len. exact (tag_read f y r))
  pat_good (BoolPat at b) = from_simple (BoolPat at b) refl (λ w f r len. exact (bool_read f at b r))
  pat_good (UnitPat at) = from_simple (UnitPat at) refl (λ w f r len. exact (unit_read f at r))
  pat_good (ParenPat at p) = from_simple (ParenPat at p) refl (λ w f r len. exact (paren_read f at p r (sub_hits p (pat_good p)) w len))
  pat_good (TypedPat at p run) =
      from_simple (TypedPat at p run) refl (λ w f r len. exact (typed_read f at p run r (sub_hits p (pat_good p)) w.0 w.1 len))
  pat_good (EmptyPat at b) = from_simple (EmptyPat at b) refl (λ w f r len. exact (empty_read f at b r))
  pat_good (ListPat at b p ps last) =
      from_simple (ListPat at b p ps last) refl
      (λ w f r len. exact (list_read f at b p ps last r (sub_hits p (pat_good p)) (all_hits ps (pats_good ps)) w.0 w.1 len))
  pat_good (RecordPat at x fs rest last) =
      from_simple (RecordPat at x fs rest last) refl
      (λ w f r len. exact (record_read f at x fs rest last r (field_hits x (field_good x)) (fields_hit fs (fields_good fs)) w.0 w.1 len))
  pat_good (OpenedPat path at p) =
      from_simple (OpenedPat path at p) refl (λ w f r len. exact (opened_read f path at p r w.0 (sub_hits p (pat_good p)) w.1 len))

  pats_good : (ps : Pats) → AllGood ps
  pats_good no_pat = tt
  pats_good (more_pat p ps) = (pat_good p, pats_good ps)

  field_good : (f : PatField) → FieldGood f
  field_good (PunnedField path x run) = tt
  field_good (MatchedField path x run at p) = pat_good p

  fields_good : (fs : PatFields) → FieldsGood fs
  fields_good no_pat_field = tt
  fields_good (more_pat_field f fs) = (field_good f, fields_good fs)

-- What is read from a pattern's words and more: this pattern, or one that goes farther. It goes farther only if what
-- follows can go on with a pattern.
pub pat_reach : (p : Pat) → WfPat p → (f : ℕ) (r : List Tok) → length (pat_then p r) ≤ f → Reach (Goes 0 r) p r (read_pat f (pat_then p r))
pat_reach p w f r len = sub_hits p (pat_good p) w f r len

-- the same of a Simple pattern
pub simple_reach : (p : Pat) → 5 ≤ pat_level p → WfPat p → (f : ℕ) (r : List Tok) → length (pat_then p r) ≤ suc f
    → Reach (Goes 5 r) p r (simple_at f (pat_then p r))
simple_reach p lv w f r len = (pat_good p).simples lv w f r len
