-- What the table of the tokens says of the token at a place.
use Rattle.std.proofs.Common.{◌≡◌, ℕ, zero, suc, ◌+◌, ◌<◌, ◌≤◌, List, [], ◌∷◌, length, drop, map, get_or, Bool, ◌++◌, reverse}
use Rattle.std.proofs.Common.{Option, Some, None, refl, sym, ap, ◌∙◌, arith}
use Rattle.std.proofs.lemmas.List.{drop_more, reverse-append}
use Rattle.rotor_base.specs.declared.token.Class.{Class}
use Rattle.rotor_base.specs.declared.token.Class.TheVariants as class
use Rattle.rotor_base.specs.declared.token.Token.{Token}
use Rattle.ml_trees.specs.declared.fixed.Fixed.{Fixed}
use Rattle.ml_trees.specs.declared.fixed.Fixed.TheVariants as key
use Rattle.ml_trees.specs.Tok.{Tok, word, fixed_at, fixed_of, tok, tok_or, toks_from}
use Rattle.token_reading.specs.declared.table.Entry.{Entry}
use Rattle.token_reading.specs.declared.tokens.Kind.{Kind}
use Rattle.token_reading.specs.declared.tokens.Kind.TheVariants as kind
use Rattle.token_reading.specs.Gives.{text_at, kind_or, kind_of, Sees, IsThere}
use Rattle.token_reading.specs.Matching.{lacks_by, ins_by, ins_before, open_ins, lacks_in}
use Rattle.token_reading.specs.Table.{entries_from}
use Rattle.token_reading.specs.Tokens.{lexeme, from}
use Rattle.token_reading.proofs.Places.{from_there, sees_when, there_when}

-- ---- an entry of the table

pub as_many : (n : ℕ) (ts : List Token) → length (entries_from n ts) ≡ length ts
as_many n [] = refl
as_many n (t ∷ ts) = ap suc (as_many (suc n) ts)

kind_there : (n at : ℕ) (ts : List Token) (e : Entry) (t : Token) → at < length ts
    → (get_or (entries_from n ts) at e).kind ≡ kind_of (get_or ts at t).class (get_or ts at t).bytes.now
kind_there n at [] e t lt = absurd (omega (arith, lt))
kind_there n zero (x ∷ ts) e t lt = refl
kind_there n (suc at) (x ∷ ts) e t lt = kind_there (suc n) at ts e t (omega (arith, lt))

lacks_there : (n at : ℕ) (ts : List Token) (e : Entry) → at < length ts
    → (get_or (entries_from n ts) at e).lacks_in ≡ lacks_in (toks_from (n + at) (map lexeme (drop at ts)))
lacks_there n at [] e lt = absurd (omega (arith, lt))
lacks_there n zero (x ∷ ts) e lt = let q : n ≡ n + 0 = omega arith in ap (λ (k : ℕ). lacks_in (toks_from k (map lexeme (x ∷ ts)))) q
lacks_there n (suc at) (x ∷ ts) e lt =
    let q : suc n + at ≡ n + suc at = omega arith in
    lacks_there (suc n) at ts e (omega (arith, lt)) ∙ ap (λ (k : ℕ). lacks_in (toks_from k (map lexeme (drop at ts)))) q

same_kind : (ts : List Token) (es : List Entry) (at : ℕ) (x : Entry) (t : Token) → at < length ts → es ≡ entries_from 1 ts → x ≡ get_or es at x
    → x.kind ≡ kind_of (get_or ts at t).class (get_or ts at t).bytes.now
same_kind ts es at x t lt e i =
    ap (λ (y : Entry). y.kind) i ∙ ap (λ (l : List Entry). (get_or l at x).kind) e ∙ kind_there 1 at ts x t lt

pub sees_entry : (ts : List Token) (es : List Entry) (at : ℕ) (x : Entry) → at < length ts → es ≡ entries_from 1 ts → x ≡ get_or es at x
    → Sees x.kind (at + 1) (text_at ts at) (from ts at) (from ts (at + 1))
sees_entry [] es at x lt e i = absurd (omega (arith, lt))
sees_entry (t ∷ ts) es at x lt e i = sees_when (t ∷ ts) at t x.kind lt (same_kind (t ∷ ts) es at x t lt e i)

pub there_entry : (ts : List Token) (es : List Entry) (at : ℕ) (x : Entry) → at < length ts → es ≡ entries_from 1 ts → x ≡ get_or es at x
    → IsThere x.kind at (length ts)
there_entry [] es at x lt e i = absurd (omega (arith, lt))
there_entry (t ∷ ts) es at x lt e i = there_when (t ∷ ts) at t x.kind lt (same_kind (t ∷ ts) es at x t lt e i)

pub lacks_entry : (ts : List Token) (es : List Entry) (at : ℕ) (x : Entry) → at < length ts → es ≡ entries_from 1 ts → x ≡ get_or es at x
    → x.lacks_in ≡ lacks_in (from ts at)
unfolding from
lacks_entry ts es at x lt e i =
    let q : 1 + at ≡ at + 1 = omega arith in
    ap (λ (y : Entry). y.lacks_in) i ∙ ap (λ (l : List Entry). (get_or l at x).lacks_in) e ∙ lacks_there 1 at ts x lt
    ∙ ap (λ (k : ℕ). lacks_in (toks_from k (map lexeme (drop at ts)))) q

-- ---- by kinds

by_fixed : (x : Fixed) (at n : ℕ) → ins_by (kind.Fixed x) n ≡ ins_before (fixed_at at x) n
by_fixed key.Let at n = refl
by_fixed key.In at n = refl
by_fixed key.DoubleSemicolon at n = refl
by_fixed key.External at n = refl
by_fixed key.Include at n = refl
by_fixed key.Sig at n = refl
by_fixed key.Struct at n = refl
by_fixed _ at n = refl

by_option : (c : Class) (o : Option Fixed) (at n : ℕ) (text : List ℕ)
    → ins_by (kind_or c o) n ≡ ins_before (tok_or (word c (record { at = at; text = text })) at o) n
by_option c None at n text = refl
by_option c (Some x) at n text = by_fixed x at n

by_kind : (c : Class) (at n : ℕ) (text : List ℕ) → ins_by (kind_of c text) n ≡ ins_before (tok c at text) n
by_kind class.Keyword at n text = by_option class.Keyword (fixed_of text) at n text
by_kind class.Mark at n text = by_option class.Mark (fixed_of text) at n text
by_kind _ at n text = refl

lacks_fixed : (x : Fixed) (at : ℕ) (ts : List Tok) → lacks_by (kind.Fixed x) (open_ins ts) ≡ lacks_in (fixed_at at x ∷ ts)
lacks_fixed key.Let at ts = refl
lacks_fixed _ at ts = refl

lacks_option : (c : Class) (o : Option Fixed) (at : ℕ) (text : List ℕ) (ts : List Tok)
    → lacks_by (kind_or c o) (open_ins ts) ≡ lacks_in (tok_or (word c (record { at = at; text = text })) at o ∷ ts)
lacks_option c None at text ts = refl
lacks_option c (Some x) at text ts = lacks_fixed x at ts

lacks_kind : (c : Class) (at : ℕ) (text : List ℕ) (ts : List Tok) → lacks_by (kind_of c text) (open_ins ts) ≡ lacks_in (tok c at text ∷ ts)
lacks_kind class.Keyword at text ts = lacks_option class.Keyword (fixed_of text) at text ts
lacks_kind class.Mark at text ts = lacks_option class.Mark (fixed_of text) at text ts
lacks_kind _ at text ts = refl

pub no_more : (k : Kind) (n : ℕ) → ins_by k n ≤ n + 1
no_more (kind.Fixed key.Let) n = omega arith
no_more (kind.Fixed key.In) n = omega arith
no_more (kind.Fixed key.DoubleSemicolon) n = omega arith
no_more (kind.Fixed key.External) n = omega arith
no_more (kind.Fixed key.Include) n = omega arith
no_more (kind.Fixed key.Sig) n = omega arith
no_more (kind.Fixed key.Struct) n = omega arith
no_more _ n = omega arith

-- ---- one token further to the front

pub free_more : (ts : List Token) (m at ins ins' : ℕ) (t : Token) (k : Kind) → m < length ts → at ≡ m + 1
    → k ≡ kind_of (get_or ts m t).class (get_or ts m t).bytes.now → ins ≡ open_ins (from ts at) → ins' ≡ ins_by k ins → ins' ≡ open_ins (from ts m)
free_more ts m at ins ins' t k lt next is free by =
    let x = get_or ts m t in
    by ∙ ap (λ (j : Kind). ins_by j ins) is ∙ ap (ins_by (kind_of x.class x.bytes.now)) (free ∙ ap (λ (n : ℕ). open_ins (from ts n)) next)
    ∙ by_kind x.class (m + 1) (open_ins (from ts (m + 1))) x.bytes.now ∙ sym (ap open_ins (from_there ts m t lt))

marked : (ts : List Token) (m at ins : ℕ) (t : Token) (k : Kind) (b : Bool) → m < length ts → at ≡ m + 1
    → k ≡ kind_of (get_or ts m t).class (get_or ts m t).bytes.now → ins ≡ open_ins (from ts at) → b ≡ lacks_by k ins → b ≡ lacks_in (from ts m)
marked ts m at ins t k b lt next is free by =
    let x = get_or ts m t in
    by ∙ ap (λ (j : Kind). lacks_by j ins) is ∙ ap (lacks_by (kind_of x.class x.bytes.now)) (free ∙ ap (λ (n : ℕ). open_ins (from ts n)) next)
    ∙ lacks_kind x.class (m + 1) x.bytes.now (from ts (m + 1)) ∙ sym (ap lacks_in (from_there ts m t lt))

-- the entries from a place on
said_there : (ts : List Token) (m : ℕ) (t : Token) → m < length ts
    → entries_from (m + 1) (drop m ts)
    ≡ record { kind = kind_of (get_or ts m t).class (get_or ts m t).bytes.now; lacks_in = lacks_in (from ts m) }
    ∷ entries_from (suc (m + 1)) (drop (m + 1) ts)
unfolding from
said_there ts m t lt =
    ap (entries_from (m + 1)) (drop_more ts m t lt)
    ∙ ap (λ (l : List Token).
    record { kind = kind_of (get_or ts m t).class (get_or ts m t).bytes.now; lacks_in = lacks_in (toks_from (m + 1) (map lexeme l)) }
    ∷ entries_from (suc (m + 1)) (drop (m + 1) ts)) (sym (drop_more ts m t lt))

pub said_more : (ts : List Token) (m at ins : ℕ) (t : Token) (k : Kind) (b : Bool) (es es' : List Entry) → m < length ts → at ≡ m + 1
    → k ≡ kind_of (get_or ts m t).class (get_or ts m t).bytes.now → ins ≡ open_ins (from ts at) → b ≡ lacks_by k ins
    → es' ≡ es ++ record { kind = k; lacks_in = b } ∷ [] → reverse es ≡ entries_from (at + 1) (drop at ts)
    → reverse es' ≡ entries_from (m + 1) (drop m ts)
said_more ts m at ins t k b es es' lt next is free by more said =
    let x = get_or ts m t in
    let q : at + 1 ≡ suc (m + 1) = omega (arith, next) in
    let rest : reverse es ≡ entries_from (suc (m + 1)) (drop (m + 1) ts) =
    said ∙ ap (λ (n : ℕ). entries_from n (drop at ts)) q ∙ ap (λ (n : ℕ). entries_from (suc (m + 1)) (drop n ts)) next in
    let e : Entry = record { kind = k; lacks_in = b } in
    ap reverse more ∙ reverse-append es (e ∷ [])
    ∙ ap (λ (l : List Entry). e ∷ l) rest
    ∙ ap (λ (j : Kind). record { kind = j; lacks_in = b } ∷ entries_from (suc (m + 1)) (drop (m + 1) ts)) is
    ∙ ap (λ (c : Bool). record { kind = kind_of x.class x.bytes.now; lacks_in = c } ∷ entries_from (suc (m + 1)) (drop (m + 1) ts))
    (marked ts m at ins t k b lt next is free by)
    ∙ sym (said_there ts m t lt)
