-- The edits of a source, token by token.
use Rattle.std.proofs.Common.{◌≡◌, ℕ, suc, ◌+◌, ◌<◌, ◌≤◌, ◌&&◌, List, [], ◌∷◌, ◌++◌, All, Bool, true, false, cond, drop, length, get_or, refl, ap}
use Rattle.std.proofs.Common.{sym, subst, ◌∙◌, append_assoc, arith}
use Rattle.std.proofs.lemmas.List.{drop_more, drop_all, append-nil, get_or_default}
use Rattle.std.proofs.lemmas.List.Elements.{All-push}
use Rattle.std.specs.BTreeSet.{BTreeSet, contains}
use Rattle.rotor_base.specs.declared.place.Place.{Place}
use Rattle.rotor_base.specs.declared.token.Token.{Token}
use Rattle.rotor_base.specs.Place.{place_cmp}
use Rattle.ml_lexer.specs.Lexed.{Lexeme, view_tokens}
use Rattle.edits.specs.declared.Edit.{Edit}
use Rattle.edits.specs.Replaced.{HasShortText}
use Rattle.edits.specs.Lexemes.{GiveWords, nothing, kept, changed}
use Rattle.binding_model.specs.Scopes.{here}
use Rattle.rename_parts.specs.Hits.{is_lower, hit_words}

module _ (set : BTreeSet Place) (file : ℕ) (new : List ℕ) where
  abbrev Hits : Token → ℕ → Bool
  Hits t n = is_lower t.class && contains place_cmp set (here file n)

  -- edits that give the tokens from a position on their words make, behind these, edits that give all tokens theirs
  abbrev pub Continues : List Token → ℕ → List Edit → Type 0
  Continues ts i done = (more : List Edit) → GiveWords (view_tokens (drop i ts)) (hit_words set file new (i + 1) (view_tokens (drop i ts))) more
      → GiveWords (view_tokens ts) (hit_words set file new 1 (view_tokens ts)) (done ++ more)

  pub give_begin : (ts : List Token) → Continues ts 0 []
  give_begin ts = λ more g. g

  next_words : (t : Token) (rest : List Token) (n : ℕ) (b : Bool) → Hits t n ≡ b
      → hit_words set file new n (view_tokens (t ∷ rest)) ≡ cond b new t.bytes.now ∷ hit_words set file new (suc n) (view_tokens rest)
  next_words t rest n b e = ap (λ z. cond z new t.bytes.now ∷ hit_words set file new (suc n) (view_tokens rest)) e

  numbered : (i : ℕ) (xs : List Lexeme) → hit_words set file new (i + 1 + 1) xs ≡ hit_words set file new (suc (i + 1)) xs
  numbered i xs = let e : i + 1 + 1 ≡ suc (i + 1) = omega arith in ap (λ n. hit_words set file new n xs) e

  pub give_kept : (ts : List Token) (i : ℕ) (t : Token) (done : List Edit) → i < length ts → t ≡ get_or ts i t → Hits t (i + 1) ≡ false
      → Continues ts i done → Continues ts (i + 1) done
  give_kept ts i t done w is miss h = λ more g.
      let rest = drop (i + 1) ts in
      let d : drop i ts ≡ t ∷ rest = drop_more ts i t w ∙ ap (λ x. x ∷ rest) (sym is) in
      let G : List (List ℕ) → Type 0 = λ ws. GiveWords (view_tokens (t ∷ rest)) ws more in
      let R : List (List ℕ) → Type 0 = λ ws. GiveWords (view_tokens rest) ws more in
      let step : GiveWords (view_tokens (t ∷ rest)) (hit_words set file new (i + 1) (view_tokens (t ∷ rest))) more =
      subst G (sym (next_words t rest (i + 1) false miss)) (kept refl (subst R (numbered i (view_tokens rest)) g)) in
      h more (subst (λ l. GiveWords (view_tokens l) (hit_words set file new (i + 1) (view_tokens l)) more) (sym d) step)

  pub give_changed : (ts : List Token) (i : ℕ) (t : Token) (done all : List Edit) (edit : Edit) → i < length ts → t ≡ get_or ts i t
      → Hits t (i + 1) ≡ true
      → edit ≡ record { start = t.start; end = t.end; text = new } → all ≡ done ++ edit ∷ [] → Continues ts i done → Continues ts (i + 1) all
  give_changed ts i t done all edit w is hit e a h = λ more g.
      let rest = drop (i + 1) ts in
      let d : drop i ts ≡ t ∷ rest = drop_more ts i t w ∙ ap (λ x. x ∷ rest) (sym is) in
      let one : Edit = record { start = t.start; end = t.end; text = new } in
      let G : List (List ℕ) → Type 0 = λ ws. GiveWords (view_tokens (t ∷ rest)) ws (one ∷ more) in
      let R : List (List ℕ) → Type 0 = λ ws. GiveWords (view_tokens rest) ws more in
      let step : GiveWords (view_tokens (t ∷ rest)) (hit_words set file new (i + 1) (view_tokens (t ∷ rest))) (one ∷ more) =
      subst G (sym (next_words t rest (i + 1) true hit)) (changed (subst R (numbered i (view_tokens rest)) g)) in
      let whole : done ++ one ∷ more ≡ all ++ more = sym (ap (λ l. l ++ more) (a ∙ ap (λ x. done ++ x ∷ []) e) ∙ append_assoc done (one ∷ []) more) in
      subst (GiveWords (view_tokens ts) (hit_words set file new 1 (view_tokens ts))) whole
      (h (one ∷ more) (subst (λ l. GiveWords (view_tokens l) (hit_words set file new (i + 1) (view_tokens l)) (one ∷ more)) (sym d) step))

  pub give_end : (ts : List Token) (i : ℕ) (done : List Edit) → length ts ≤ i → Continues ts i done
      → GiveWords (view_tokens ts) (hit_words set file new 1 (view_tokens ts)) done
  give_end ts i done ge h =
      let d : drop i ts ≡ [] = drop_all i ts ge in
      subst (GiveWords (view_tokens ts) (hit_words set file new 1 (view_tokens ts))) (append-nil done)
      (h [] (subst (λ l. GiveWords (view_tokens l) (hit_words set file new (i + 1) (view_tokens l)) []) (sym d) nothing))

  -- one more token
  pub give_more : (ts : List Token) (i : ℕ) (t : Token) (done all : List Edit) → i < length ts → t ≡ get_or ts i t
      → all ≡ cond (Hits t (i + 1)) (done ++ record { start = t.start; end = t.end; text = new } ∷ []) done → Continues ts i done
      → Continues ts (i + 1) all
  give_more ts i t done all w is a h = by (Hits t (i + 1)) refl where
    by : (b : Bool) → Hits t (i + 1) ≡ b → Continues ts (i + 1) all
    by true e = give_changed ts i t done all (record { start = t.start; end = t.end; text = new }) w is e refl
        (a ∙ ap (λ z. cond z (done ++ record { start = t.start; end = t.end; text = new } ∷ []) done) e) h
    by false e =
        let same : all ≡ done = a ∙ ap (λ z. cond z (done ++ record { start = t.start; end = t.end; text = new } ∷ []) done) e in
        subst (Continues ts (i + 1)) (sym same) (give_kept ts i t done w is e h)

  -- the same of the token at a position, with its number, counted from 1
  pub give_at : (ts : List Token) (i n : ℕ) (d : Token) (done all : List Edit) → i < length ts → n ≡ i + 1
      → all ≡ cond (Hits (get_or ts i d) n) (done ++ record { start = (get_or ts i d).start; end = (get_or ts i d).end; text = new } ∷ []) done
      → Continues ts i done → Continues ts (i + 1) all
  give_at ts i n d done all w e a h =
      let t = get_or ts i d in
      give_more ts i t done all w (get_or_default ts i d t w)
      (a ∙ ap (λ m. cond (Hits t m) (done ++ record { start = t.start; end = t.end; text = new } ∷ []) done) e) h

  pub short_at : (ts : List Token) (i n : ℕ) (d : Token) (done all : List Edit) → length new ≤ 255 → All HasShortText done
      → all ≡ cond (Hits (get_or ts i d) n) (done ++ record { start = (get_or ts i d).start; end = (get_or ts i d).end; text = new } ∷ []) done
      → All HasShortText all
  short_at ts i n d done all short h a =
      let one : Edit = record { start = (get_or ts i d).start; end = (get_or ts i d).end; text = new } in
      subst (All HasShortText) (sym a) (by one (Hits (get_or ts i d) n) short)
    where
      by : (one : Edit) (b : Bool) → HasShortText one → All HasShortText (cond b (done ++ one ∷ []) done)
      by one true s = All-push HasShortText done one h s
      by one false s = h
