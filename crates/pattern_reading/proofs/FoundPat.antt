-- What is read as a pattern is one, and has the words read.
use Rattle.std.proofs.Common.{◌≡◌, ℕ, zero, suc, ◌≤◌, List, [], ◌∷◌, ◌++◌, Bool, true, false, cond, Option, Some, None, refl, sym, ap, subst, ◌∙◌}
use Rattle.std.proofs.Common.{arith}
use Rattle.rotor_base.specs.declared.token.Class.{Class}
use Rattle.rotor_base.specs.declared.token.Class.TheVariants as class
use Rattle.ml_trees.specs.declared.fixed.Fixed.{Fixed}
use Rattle.ml_trees.specs.declared.fixed.Fixed.TheVariants as key
use Rattle.ml_trees.specs.declared.word.Bracket.{Bracket}
use Rattle.ml_trees.specs.declared.word.Bracket.TheVariants as bracket
use Rattle.ml_trees.specs.Tok.{Name, Tok, fixed, placed, word}
use Rattle.ml_trees.proofs.Words.{pat_then, pats_then, pat_field_then, pat_fields_then, path_then, dotted_then, qualified_then, name_then, names_then}
use Rattle.ml_trees.proofs.Words.{type_then, optional_then, open_then, opening, closing}
use Rattle.ml_trees.specs.WellFormed.{WfType, WfPat, WfPats, WfPatField, WfPatFields, WfNames, pat_level, is_exception, is_literal, is_number}
use Rattle.ml_trees.specs.WellFormed.{is_minus, is_operator}
use Rattle.ml_trees.specs.Tree.{ValueName, OperatorName, Pat, LazyPat, ExceptionPat, ValuePat, LiteralPat, NegativePat, ConstrPat, TagPat, Pats}
use Rattle.ml_trees.specs.Tree.{no_pat, more_pat, PatField, PatFields, no_pat_field, more_pat_field}
use Rattle.token_reading.specs.Steps.{Read, ◌>>=◌, expect, expect_at, many, always}
use Rattle.token_reading.specs.Pieces.{more_uppers, qualifiers, lower_word, value_name, type_run, optional_type}
use Rattle.token_reading.specs.PatReading.{grown_as, grown_or, grown_tuple, grown_cons, applied_to, can_apply, last_semicolon, open_end, negative}
use Rattle.token_reading.specs.PatReading.{range_or, free_pat, closed_by, opened_or, list_pat, matched_or, next_pat, more_pats, paren_pat}
use Rattle.token_reading.specs.PatReading.{opened_part}
use Rattle.token_reading.specs.PatReading.{upper_pat, bracket_pat, equals_part, field_pat, next_field, brace_pat, simple_pat, plain_pat, applied_pat}
use Rattle.token_reading.specs.PatReading.{pat_chain, cons_pat, tuple_pat, or_pat, as_name, as_pat, read_pat}
use Rattle.token_reading.proofs.Stepping.{from_some, bind_ok, expect_ok, expect_at_ok, many_ind}
use Rattle.token_reading.proofs.FoundPieces.{uppers_found, qualifiers_found, lower_ok, IsName, name_found, type_run_found, optional_type_found}

-- a pattern of at least this level
pub record IsPat (m : ℕ) (ts : List Tok) (x : Pat × List Tok) : Type 0 where
  pub level : m ≤ pat_level x.0
  pub wf : WfPat x.0
  pub words : ts ≡ pat_then x.0 x.1

abbrev pub Finds : ℕ → Read Pat → Type 0
Finds m one = (ts : List Tok) (x : Pat × List Tok) → one ts ≡ Some x → IsPat m ts x

-- more patterns of at least this level
pub record ArePats (m : ℕ) (sep : Fixed) (ps : Pats) (ts r : List Tok) : Type 0 where
  pub wf : WfPats m ps
  pub words : ts ≡ pats_then sep ps r

abbrev one_key : Fixed → List Tok → List Tok
one_key k ts = fixed k ∷ ts

-- ---- small parts

semicolon_ok : (ts : List Tok) → ts ≡ optional_then key.Semicolon (last_semicolon ts).0 (last_semicolon ts).1
semicolon_ok (fixed key.Semicolon ∷ ts) = refl
semicolon_ok _ = refl

open_ok : (ts : List Tok) → ts ≡ open_then (open_end ts).0 (open_end ts).1
open_ok (fixed key.Semicolon ∷ placed key.Underscore at ∷ ts) = refl
open_ok _ = refl

negative_by : (x : Name) (c : Class) (y : Name) (ts : List Tok) (z : Pat × List Tok) (b : Bool) → is_number c ≡ b → is_minus x.text ≡ true
    → cond b (Some (NegativePat x c y, ts)) None ≡ Some z → IsPat 5 (word class.Infix x ∷ word c y ∷ ts) z
negative_by x c y ts z true h m e =
    from_some (IsPat 5 (word class.Infix x ∷ word c y ∷ ts)) e (record { level = omega arith; wf = (m, h); words = refl })
negative_by x c y ts z false h m e = absurd cc

negative_found : (x : Name) (ts : List Tok) (z : Pat × List Tok) → is_minus x.text ≡ true → negative x ts ≡ Some z
    → IsPat 5 (word class.Infix x ∷ ts) z
negative_found x (word c y ∷ ts) z m e = negative_by x c y ts z (is_number c) refl m e
negative_found x _ z m e = absurd cc

range_found : (x : Name) (ts : List Tok) → IsPat 5 (word class.Char x ∷ ts) (range_or x ts)
range_found x (fixed key.DotDot ∷ word class.Char y ∷ ts) = record { level = omega arith; wf = tt; words = refl }
range_found x _ = record { level = omega arith; wf = refl; words = refl }

literal_by : (c : Class) (x : Name) (ts : List Tok) (z : Pat × List Tok) (b : Bool) → is_literal c ≡ b
    → cond b (Some (LiteralPat c x, ts)) None ≡ Some z → IsPat 5 (word c x ∷ ts) z
literal_by c x ts z true h e = from_some (IsPat 5 (word c x ∷ ts)) e (record { level = omega arith; wf = h; words = refl })
literal_by c x ts z false h e = absurd cc

minus_by : (x : Name) (ts : List Tok) (z : Pat × List Tok) (b : Bool) → is_minus x.text ≡ b → cond b (negative x ts) None ≡ Some z
    → IsPat 5 (word class.Infix x ∷ ts) z
minus_by x ts z true h e = negative_found x ts z h e
minus_by x ts z false h e = absurd cc

free_found : (c : Class) (x : Name) (ts : List Tok) (z : Pat × List Tok) → free_pat c x ts ≡ Some z → IsPat 5 (word c x ∷ ts) z
free_found class.Lower x ts z e = from_some (IsPat 5 (word class.Lower x ∷ ts)) e (record { level = omega arith; wf = tt; words = refl })
free_found class.Tag x ts z e = from_some (IsPat 5 (word class.Tag x ∷ ts)) e (record { level = omega arith; wf = tt; words = refl })
free_found class.Char x ts z e = from_some (IsPat 5 (word class.Char x ∷ ts)) e (range_found x ts)
free_found class.Infix x ts z e = minus_by x ts z (is_minus x.text) refl e
free_found class.Upper x ts z e = literal_by class.Upper x ts z false refl e
free_found class.Keyword x ts z e = literal_by class.Keyword x ts z false refl e
free_found class.Int x ts z e = literal_by class.Int x ts z true refl e
free_found class.Float x ts z e = literal_by class.Float x ts z true refl e
free_found class.Text x ts z e = literal_by class.Text x ts z true refl e
free_found class.Quoted x ts z e = literal_by class.Quoted x ts z true refl e
free_found class.TypeVar x ts z e = literal_by class.TypeVar x ts z false refl e
free_found class.Label x ts z e = literal_by class.Label x ts z false refl e
free_found class.Prefix x ts z e = literal_by class.Prefix x ts z false refl e
free_found class.Mark x ts z e = literal_by class.Mark x ts z false refl e

-- after a `(` and a pattern
closed_found : (at : ℕ) (p : Pat) (ts : List Tok) (x : Pat × List Tok) → WfPat p → closed_by at p ts ≡ Some x
    → IsPat 5 (placed key.LeftParen at ∷ pat_then p ts) x
closed_found at p (fixed key.RightParen ∷ r) x w e = from_some (IsPat 5 (placed key.LeftParen at ∷ pat_then p (one_key key.RightParen r))) e
    (record { level = omega arith; wf = w; words = refl })
closed_found at p (fixed key.Colon ∷ r) x w e =
    let a = bind_ok (type_run r) _ x e in
    let b = bind_ok (expect key.RightParen a.0.1) _ x a.2 in
    let f = type_run_found r a.0 a.1 in
    from_some (IsPat 5 (placed key.LeftParen at ∷ pat_then p (one_key key.Colon r))) b.2
    (record {
      level = omega arith;
      wf = (w, f.wf);
      words = ap (λ (k : List Tok). placed key.LeftParen at ∷ pat_then p (fixed key.Colon ∷ k))
          (f.words ∙ ap (λ (k : List Tok). a.0.0 ++ k) (expect_ok key.RightParen a.0.1 b.0 b.1));
    })
closed_found at p _ x w e = absurd cc

module _ (sub : Read Pat) (n : ℕ) (finds : Finds 0 sub) where
  paren_found : (at : ℕ) (ts : List Tok) (x : Pat × List Tok) → (sub ts >>= λ p. closed_by at p.0 p.1) ≡ Some x
      → IsPat 5 (placed key.LeftParen at ∷ ts) x
  paren_found at ts x e =
      let a = bind_ok (sub ts) _ x e in
      let p = finds ts a.0 a.1 in
      subst (λ (k : List Tok). IsPat 5 (placed key.LeftParen at ∷ k) x) (sym p.words) (closed_found at a.0.0 a.0.1 x p.wf a.2)

  lone_operator : (at : ℕ) (t : Tok) (ts : List Tok) (x : Pat × List Tok) (b : Bool) → is_operator t ≡ b
      → cond b (Some (ValuePat (OperatorName at t), ts)) (sub (t ∷ fixed key.RightParen ∷ ts) >>= λ p. closed_by at p.0 p.1) ≡ Some x
      → IsPat 5 (placed key.LeftParen at ∷ t ∷ fixed key.RightParen ∷ ts) x
  lone_operator at t ts x true h e = from_some (IsPat 5 (placed key.LeftParen at ∷ t ∷ fixed key.RightParen ∷ ts)) e
      (record { level = omega arith; wf = h; words = refl })
  lone_operator at t ts x false h e = paren_found at (t ∷ fixed key.RightParen ∷ ts) x e

  pub paren_pat_found : (at : ℕ) (ts : List Tok) (x : Pat × List Tok) → paren_pat sub n at ts ≡ Some x → IsPat 5 (placed key.LeftParen at ∷ ts) x
  unfolding paren_pat
  paren_pat_found at (fixed key.RightParen ∷ ts) x e = from_some (IsPat 5 (placed key.LeftParen at ∷ fixed key.RightParen ∷ ts)) e
      (record { level = omega arith; wf = tt; words = refl })
  paren_pat_found at (t ∷ fixed key.RightParen ∷ ts) x e = lone_operator at t ts x (is_operator t) refl e
  paren_pat_found at ts x e = paren_found at ts x e

  pub opened_ok : (ts : List Tok) (x : ℕ × Pat × List Tok) → opened_part sub n ts ≡ Some x
      → WfPat x.1 × (ts ≡ fixed key.Dot ∷ placed key.LeftParen x.0 ∷ pat_then x.1 (fixed key.RightParen ∷ x.2))
  opened_ok (fixed key.Dot ∷ placed key.LeftParen at ∷ ts) x e =
      let a = bind_ok (sub ts) _ x e in
      let b = bind_ok (expect key.RightParen a.0.1) _ x a.2 in
      let p = finds ts a.0 a.1 in
      from_some (λ (y : ℕ × Pat × List Tok). WfPat y.1
      × (fixed key.Dot ∷ placed key.LeftParen at ∷ ts ≡ fixed key.Dot ∷ placed key.LeftParen y.0 ∷ pat_then y.1 (fixed key.RightParen ∷ y.2))) b.2 (
        p.wf,
        ap (λ (k : List Tok). fixed key.Dot ∷ placed key.LeftParen at ∷ k)
            (p.words ∙ ap (pat_then a.0.0) (expect_ok key.RightParen a.0.1 b.0 b.1)),
      )
  opened_ok _ x e = absurd cc

  opened_found : (y : Name) (ys : List Name) (ts r : List Tok) (o : Option (ℕ × Pat × List Tok)) → ts ≡ dotted_then ys r → opened_part sub n r ≡ o
      → IsPat 5 (word class.Upper y ∷ ts) (opened_or (y ∷ ys) r o)
  opened_found y ys ts r None q h = record { level = omega arith; wf = (λ e. cc); words = ap (λ (k : List Tok). word class.Upper y ∷ k) q }
  opened_found y ys ts r (Some x) q h = let f = opened_ok r x h in
      record { level = omega arith; wf = ((λ e. cc), f.0); words = ap (λ (k : List Tok). word class.Upper y ∷ k) (q ∙ ap (dotted_then ys) f.1) }

  pub upper_found : (y : Name) (ts : List Tok) (x : Pat × List Tok) → upper_pat sub n y ts ≡ Some x → IsPat 5 (word class.Upper y ∷ ts) x
  unfolding upper_pat
  upper_found y ts x e = from_some (IsPat 5 (word class.Upper y ∷ ts)) e
      (opened_found y (more_uppers n ts).0 ts (more_uppers n ts).1 (opened_part sub n (more_uppers n ts).1) (uppers_found n ts) refl)

  -- ---- rows

  module _ (m : ℕ) (sep : Fixed) (one : Read Pat) (one_found : Finds m one) where
    pub part_found : (ts : List Tok) (x : Pat × List Tok) → next_pat sub n sep one ts ≡ Some x → (r : List Tok) × (ts ≡ fixed sep ∷ r) × IsPat m r x
    part_found ts x e =
        let a = bind_ok (expect sep ts) one x e in
        (a.0, expect_ok sep ts a.0 a.1, one_found a.0 x a.2)

    pub parts_found : (ts : List Tok) → ArePats m sep (more_pats sub n sep one ts).0 ts (more_pats sub n sep one ts).1
    parts_found ts = many_ind no_pat more_pat always (next_pat sub n sep one) (ArePats m sep)
        (λ ts. record { wf = tt; words = refl })
        (λ ts x e. let p = part_found ts x e in record { wf = (p.2.level, p.2.wf, tt); words = p.1 ∙ ap (one_key sep) p.2.words })
        (λ ts x l r e h q. let p = part_found ts x e in
        record { wf = (p.2.level, p.2.wf, q.wf); words = p.1 ∙ ap (one_key sep) (p.2.words ∙ ap (pat_then x.0) q.words) })
        n ts

  list_found : (at : ℕ) (b : Bracket) (p : Pat) (ts : List Tok) (x : Pat × List Tok) → WfPat p
      → list_pat at b p (more_pats sub n key.Semicolon sub ts) ≡ Some x → IsPat 5 (placed (opening b) at ∷ pat_then p ts) x
  list_found at b p ts x w e =
      let more = more_pats sub n key.Semicolon sub ts in
      let last = last_semicolon more.1 in
      let a = bind_ok (expect (closing b) last.1) _ x e in
      let f = parts_found 0 key.Semicolon sub finds ts in
      from_some (IsPat 5 (placed (opening b) at ∷ pat_then p ts)) a.2
      (record {
        level = omega arith;
        wf = (w, f.wf);
        words = ap (λ (k : List Tok). placed (opening b) at ∷ pat_then p k)
            (f.words ∙ ap (pats_then key.Semicolon more.0)
            (semicolon_ok more.1 ∙ ap (optional_then key.Semicolon last.0) (expect_ok (closing b) last.1 a.0 a.1)));
      })

  row_found : (at : ℕ) (b : Bracket) (ts : List Tok) (x : Pat × List Tok)
      → (sub ts >>= λ p. list_pat at b p.0 (more_pats sub n key.Semicolon sub p.1)) ≡ Some x → IsPat 5 (placed (opening b) at ∷ ts) x
  row_found at b ts x e =
      let a = bind_ok (sub ts) _ x e in
      let p = finds ts a.0 a.1 in
      subst (λ (k : List Tok). IsPat 5 (placed (opening b) at ∷ k) x) (sym p.words) (list_found at b a.0.0 a.0.1 x p.wf a.2)

  pub bracket_found : (at : ℕ) (b : Bracket) (ts : List Tok) (x : Pat × List Tok) → bracket_pat sub n at b ts ≡ Some x
      → IsPat 5 (placed (opening b) at ∷ ts) x
  unfolding bracket_pat
  bracket_found at bracket.List (fixed key.RightBracket ∷ ts) x e = from_some (IsPat 5 (placed key.LeftBracket at ∷ fixed key.RightBracket ∷ ts)) e
      (record { level = omega arith; wf = tt; words = refl })
  bracket_found at bracket.Array (fixed key.RightArray ∷ ts) x e = from_some (IsPat 5 (placed key.LeftArray at ∷ fixed key.RightArray ∷ ts)) e
      (record { level = omega arith; wf = tt; words = refl })
  bracket_found at bracket.List ts x e = row_found at bracket.List ts x e
  bracket_found at bracket.Array ts x e = row_found at bracket.Array ts x e

  -- ---- fields of records

  equals_ok : (ts : List Tok) (x : ℕ × Pat × List Tok) → equals_part sub n ts ≡ Some x → WfPat x.1 × (ts ≡ placed key.Equals x.0 ∷ pat_then x.1 x.2)
  equals_ok ts x e =
      let a = bind_ok (expect_at key.Equals ts) _ x e in
      let b = bind_ok (sub a.0.1) _ x a.2 in
      let p = finds a.0.1 b.0 b.1 in
      from_some (λ (y : ℕ × Pat × List Tok). WfPat y.1 × (ts ≡ placed key.Equals y.0 ∷ pat_then y.1 y.2)) b.2
      (p.wf, expect_at_ok key.Equals ts a.0 a.1 ∙ ap (λ (k : List Tok). placed key.Equals a.0.0 ∷ k) p.words)

  pub record IsField (ts : List Tok) (x : PatField × List Tok) : Type 0 where
    pub wf : WfPatField x.0
    pub words : ts ≡ pat_field_then x.0 x.1

  pub record AreFields (fs : PatFields) (ts r : List Tok) : Type 0 where
    pub wf : WfPatFields fs
    pub words : ts ≡ pat_fields_then fs r

  matched_found : (path : List Name) (y : Name) (run : Option (List Tok)) (ts r : List Tok) (o : Option (ℕ × Pat × List Tok)) → WfType run
      → ts ≡ qualified_then path (word class.Lower y ∷ type_then run r) → equals_part sub n r ≡ o → IsField ts (matched_or path y run r o)
  matched_found path y run ts r None w q h = record { wf = w; words = q }
  matched_found path y run ts r (Some x) w q h = let f = equals_ok r x h in
      record { wf = (w, f.0); words = q ∙ ap (λ (k : List Tok). qualified_then path (word class.Lower y ∷ type_then run k)) f.1 }

  pub field_found : (ts : List Tok) (x : PatField × List Tok) → field_pat sub n ts ≡ Some x → IsField ts x
  unfolding field_pat
  field_found ts x e =
      let path = qualifiers n ts in
      let a = bind_ok (lower_word path.1) _ x e in
      let run = optional_type a.0.1 in
      let t = optional_type_found a.0.1 in
      from_some (IsField ts) a.2 (matched_found path.0 a.0.0 run.0 ts run.1 (equals_part sub n run.1) t.wf
      (qualifiers_found n ts ∙ ap (qualified_then path.0) (lower_ok path.1 a.0 a.1 ∙ ap (λ (k : List Tok). word class.Lower a.0.0 ∷ k) t.words)) refl)

  pub next_field_found : (ts : List Tok) (x : PatField × List Tok) → next_field sub n ts ≡ Some x → (r : List Tok) × (ts ≡ fixed key.Semicolon ∷ r)
      × IsField r x
  next_field_found ts x e =
      let a = bind_ok (expect key.Semicolon ts) (field_pat sub n) x e in
      (a.0, expect_ok key.Semicolon ts a.0 a.1, field_found a.0 x a.2)

  fields_found : (ts : List Tok) → AreFields (many no_pat_field more_pat_field always (next_field sub n) n ts).0 ts
      (many no_pat_field more_pat_field always (next_field sub n) n ts).1
  fields_found ts = many_ind no_pat_field more_pat_field always (next_field sub n) AreFields
      (λ ts. record { wf = tt; words = refl })
      (λ ts x e. let p = next_field_found ts x e in record { wf = (p.2.wf, tt); words = p.1 ∙ ap (one_key key.Semicolon) p.2.words })
      (λ ts x l r e h q. let p = next_field_found ts x e in
      record { wf = (p.2.wf, q.wf); words = p.1 ∙ ap (one_key key.Semicolon) (p.2.words ∙ ap (pat_field_then x.0) q.words) })
      n ts

  pub brace_found : (at : ℕ) (ts : List Tok) (x : Pat × List Tok) → brace_pat sub n at ts ≡ Some x → IsPat 5 (placed key.LeftBrace at ∷ ts) x
  unfolding brace_pat
  brace_found at ts x e =
      let a = bind_ok (field_pat sub n ts) _ x e in
      let f = field_found ts a.0 a.1 in
      let more = many no_pat_field more_pat_field always (next_field sub n) n a.0.1 in
      let rest = open_end more.1 in
      let last = last_semicolon rest.1 in
      let b = bind_ok (expect key.RightBrace last.1) _ x a.2 in
      let fs = fields_found a.0.1 in
      from_some (IsPat 5 (placed key.LeftBrace at ∷ ts)) b.2
      (record {
        level = omega arith;
        wf = (f.wf, fs.wf);
        words = ap (λ (k : List Tok). placed key.LeftBrace at ∷ k)
            (f.words ∙ ap (pat_field_then a.0.0)
            (fs.words ∙ ap (pat_fields_then more.0)
            (open_ok more.1 ∙ ap (open_then rest.0)
            (semicolon_ok rest.1 ∙ ap (optional_then key.Semicolon last.0) (expect_ok key.RightBrace last.1 b.0 b.1)))));
      })

  -- ---- the levels

  pub simple_found : Finds 5 (simple_pat sub n)
  unfolding simple_pat
  simple_found (placed key.Underscore at ∷ ts) x e =
      from_some (IsPat 5 (placed key.Underscore at ∷ ts)) e (record { level = omega arith; wf = tt; words = refl })
  simple_found (placed key.True at ∷ ts) x e = from_some (IsPat 5 (placed key.True at ∷ ts)) e (record { level = omega arith; wf = tt; words = refl })
  simple_found (placed key.False at ∷ ts) x e =
      from_some (IsPat 5 (placed key.False at ∷ ts)) e (record { level = omega arith; wf = tt; words = refl })
  simple_found (placed key.LeftParen at ∷ ts) x e = paren_pat_found at ts x e
  simple_found (placed key.LeftBracket at ∷ ts) x e = bracket_found at bracket.List ts x e
  simple_found (placed key.LeftArray at ∷ ts) x e = bracket_found at bracket.Array ts x e
  simple_found (placed key.LeftBrace at ∷ ts) x e = brace_found at ts x e
  simple_found (word class.Upper y ∷ ts) x e = upper_found y ts x e
  simple_found (word c y ∷ ts) x e = free_found c y ts x e
  simple_found [] x e = absurd cc
  simple_found (_ ∷ ts) x e = absurd cc

  lazy_found : (at : ℕ) (ts : List Tok) (x : Pat × List Tok) → (simple_pat sub n ts >>= λ p. Some (LazyPat at p.0, p.1)) ≡ Some x
      → IsPat 4 (placed key.Lazy at ∷ ts) x
  lazy_found at ts x e =
      let a = bind_ok (simple_pat sub n ts) _ x e in
      let p = simple_found ts a.0 a.1 in
      from_some (IsPat 4 (placed key.Lazy at ∷ ts)) a.2
      (record { level = omega arith; wf = (p.level, p.wf); words = ap (λ (k : List Tok). placed key.Lazy at ∷ k) p.words })

  applied_found_to : (p : Pat) (ts r : List Tok) (o : Option (Pat × List Tok)) → IsPat 5 ts (p, r) → ((x : Pat × List Tok) → o ≡ Some x → IsPat 5 r x)
      → IsPat 4 ts (applied_to p r o)
  applied_found_to (ConstrPat path) ts r (Some x) a b = let f = b x refl in
      record { level = omega arith; wf = (a.wf, f.level, f.wf); words = a.words ∙ ap (path_then path) f.words }
  applied_found_to (TagPat y) ts r (Some x) a b = let f = b x refl in
      record { level = omega arith; wf = (f.level, f.wf); words = a.words ∙ ap (λ (k : List Tok). word class.Tag y ∷ k) f.words }
  applied_found_to p ts r o a b = record { level = omega (arith, a.level); wf = a.wf; words = a.words }

  argument_found : (b : Bool) (r : List Tok) (x : Pat × List Tok) → cond b (simple_pat sub n r) None ≡ Some x → IsPat 5 r x
  argument_found true r x e = simple_found r x e
  argument_found false r x e = absurd cc

  pub record IsPlain (ts : List Tok) (x : Pat × List Tok) : Type 0 where
    pub pat : IsPat 4 ts x
    pub no_exception : is_exception x.0 ≡ false

  applied_plain : (p : Pat) (r : List Tok) (o : Option (Pat × List Tok)) → 5 ≤ pat_level p → is_exception (applied_to p r o).0 ≡ false
  applied_plain (ExceptionPat at p) r o h = absurd (omega (arith, h))
  applied_plain (ConstrPat path) r (Some x) h = refl
  applied_plain (TagPat y) r (Some x) h = refl
  applied_plain (ConstrPat path) r None h = refl
  applied_plain (TagPat y) r None h = refl
  applied_plain _ r o h = refl

  rest_found : (ts : List Tok) (x : Pat × List Tok)
      → (simple_pat sub n ts >>= λ p. Some (applied_to p.0 p.1 (cond (can_apply p.0) (simple_pat sub n p.1) None))) ≡ Some x → IsPlain ts x
  rest_found ts x e =
      let a = bind_ok (simple_pat sub n ts) _ x e in
      let p = simple_found ts a.0 a.1 in
      from_some (IsPlain ts) a.2 (record {
        pat = applied_found_to a.0.0 ts a.0.1 (cond (can_apply a.0.0) (simple_pat sub n a.0.1) None) p
            (λ y h. argument_found (can_apply a.0.0) a.0.1 y h);
        no_exception = applied_plain a.0.0 a.0.1 (cond (can_apply a.0.0) (simple_pat sub n a.0.1) None) p.level;
      })

  lazy_plain : (at : ℕ) (ts : List Tok) (x : Pat × List Tok) → (simple_pat sub n ts >>= λ p. Some (LazyPat at p.0, p.1)) ≡ Some x
      → is_exception x.0 ≡ false
  lazy_plain at ts x e = let a = bind_ok (simple_pat sub n ts) _ x e in from_some (λ (y : Pat × List Tok). is_exception y.0 ≡ false) a.2 refl

  pub plain_found : (ts : List Tok) (x : Pat × List Tok) → plain_pat sub n ts ≡ Some x → IsPlain ts x
  unfolding plain_pat
  plain_found (placed key.Lazy at ∷ ts) x e = record { pat = lazy_found at ts x e; no_exception = lazy_plain at ts x e }
  plain_found ts x e = rest_found ts x e

  pub applied_found : Finds 4 (applied_pat sub n)
  unfolding applied_pat
  applied_found (placed key.Exception at ∷ ts) x e =
      let a = bind_ok (plain_pat sub n ts) _ x e in
      let p = plain_found ts a.0 a.1 in
      from_some (IsPat 4 (placed key.Exception at ∷ ts)) a.2
      (record {
        level = omega arith;
        wf = (p.pat.level, p.no_exception, p.pat.wf);
        words = ap (λ (k : List Tok). placed key.Exception at ∷ k) p.pat.words;
      })
  applied_found ts x e = (plain_found ts x e).pat

  pub cons_grown : (p : Pat) (ps : Pats) (ts r r' : List Tok) → IsPat 4 ts (p, r) → ArePats 4 key.ColonColon ps r r'
      → IsPat 3 ts (grown_cons p ps, r')
  cons_grown p no_pat ts r r' a b = record { level = omega (arith, a.level); wf = a.wf; words = a.words ∙ ap (pat_then p) b.words }
  cons_grown p (more_pat q qs) ts r r' a b =
      record { level = omega arith; wf = (a.level, (λ e. cc), a.wf, b.wf); words = a.words ∙ ap (pat_then p) b.words }

  pub tuple_grown : (p : Pat) (ps : Pats) (ts r r' : List Tok) → IsPat 3 ts (p, r) → ArePats 3 key.Comma ps r r' → IsPat 2 ts (grown_tuple p ps, r')
  tuple_grown p no_pat ts r r' a b = record { level = omega (arith, a.level); wf = a.wf; words = a.words ∙ ap (pat_then p) b.words }
  tuple_grown p (more_pat q qs) ts r r' a b =
      record { level = omega arith; wf = (a.level, (λ e. cc), a.wf, b.wf); words = a.words ∙ ap (pat_then p) b.words }

  pub or_grown : (p : Pat) (ps : Pats) (ts r r' : List Tok) → IsPat 2 ts (p, r) → ArePats 2 key.Bar ps r r' → IsPat 1 ts (grown_or p ps, r')
  or_grown p no_pat ts r r' a b = record { level = omega (arith, a.level); wf = a.wf; words = a.words ∙ ap (pat_then p) b.words }
  or_grown p (more_pat q qs) ts r r' a b =
      record { level = omega arith; wf = (a.level, (λ e. cc), a.wf, b.wf); words = a.words ∙ ap (pat_then p) b.words }

  chain_found : (m k : ℕ) (sep : Fixed) (grown : Pat → Pats → Pat) (one : Read Pat) → Finds m one
      → ((p : Pat) (ps : Pats) (ts r r' : List Tok) → IsPat m ts (p, r) → ArePats m sep ps r r' → IsPat k ts (grown p ps, r'))
      → Finds k (pat_chain sub n sep grown one)
  chain_found m k sep grown one found grow ts x e =
      let a = bind_ok (one ts) (λ p. Some (grown p.0 (more_pats sub n sep one p.1).0, (more_pats sub n sep one p.1).1)) x e in
      from_some (IsPat k ts) a.2 (grow _ _ ts a.0.1 _ (found ts a.0 a.1) (parts_found m sep one found a.0.1))

  pub cons_found : Finds 3 (cons_pat sub n)
  unfolding cons_pat
  cons_found ts x e = chain_found 4 3 key.ColonColon grown_cons (applied_pat sub n) applied_found cons_grown ts x e

  pub tuple_found : Finds 2 (tuple_pat sub n)
  unfolding tuple_pat
  tuple_found ts x e = chain_found 3 2 key.Comma grown_tuple (cons_pat sub n) cons_found tuple_grown ts x e

  pub or_found : Finds 1 (or_pat sub n)
  unfolding or_pat
  or_found ts x e = chain_found 2 1 key.Bar grown_or (tuple_pat sub n) tuple_found or_grown ts x e

  pub record AreNames (xs : List ValueName) (ts r : List Tok) : Type 0 where
    pub wf : WfNames xs
    pub words : ts ≡ names_then xs r

  pub as_name_found : (ts : List Tok) (x : ValueName × List Tok) → as_name sub n ts ≡ Some x → (r : List Tok) × (ts ≡ fixed key.As ∷ r) × IsName r x
  as_name_found ts x e = let a = bind_ok (expect key.As ts) value_name x e in (a.0, expect_ok key.As ts a.0 a.1, name_found a.0 x a.2)

  pub names_found : (ts : List Tok) → AreNames (many [] ◌∷◌ always (as_name sub n) n ts).0 ts (many [] ◌∷◌ always (as_name sub n) n ts).1
  names_found ts = many_ind [] ◌∷◌ always (as_name sub n) AreNames
      (λ ts. record { wf = tt; words = refl })
      (λ ts x e. let p = as_name_found ts x e in record { wf = (p.2.wf, tt); words = p.1 ∙ ap (one_key key.As) p.2.words })
      (λ ts x l r e h q. let p = as_name_found ts x e in
      record { wf = (p.2.wf, q.wf); words = p.1 ∙ ap (one_key key.As) (p.2.words ∙ ap (name_then x.0) q.words) })
      n ts

  as_grown : (p : Pat) (xs : List ValueName) (ts r r' : List Tok) → IsPat 1 ts (p, r) → AreNames xs r r' → IsPat 0 ts (grown_as p xs, r')
  as_grown p [] ts r r' a b = record { level = omega (arith, a.level); wf = a.wf; words = a.words ∙ ap (pat_then p) b.words }
  as_grown p (x ∷ xs) ts r r' a b = record { level = omega arith; wf = (a.level, (λ e. cc), b.wf, a.wf); words = a.words ∙ ap (pat_then p) b.words }

  pub as_found : Finds 0 (as_pat sub n)
  unfolding as_pat
  as_found ts x e =
      let a = bind_ok (or_pat sub n ts)
      (λ p. Some (grown_as p.0 (many [] ◌∷◌ always (as_name sub n) n p.1).0, (many [] ◌∷◌ always (as_name sub n) n p.1).1)) x e in
      from_some (IsPat 0 ts) a.2 (as_grown _ _ ts a.0.1 _ (or_found ts a.0 a.1) (names_found a.0.1))

pub pat_found : (n : ℕ) → Finds 0 (read_pat n)
unfolding read_pat
pat_found zero ts x e = absurd cc
pat_found (suc n) ts x e = as_found (read_pat n) n (pat_found n) ts x e
