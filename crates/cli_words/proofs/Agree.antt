-- Words that have a form are that form written out, and `clap` reads them as that form.
use Rattle.std.proofs.Common.{◌≡◌, ◌∙◌, ℕ, Bool, true, false, List, [], ◌∷◌, ◌==◌, ◌&&◌, ◌||◌, Some, refl, sym, ap, subst, codes}
use Rattle.std.specs.Str.{bytes_eq}
use Rattle.cli_words.specs.Words.{Word, is_value, rename_flags, asked}
use Rattle.cli_words.specs.Written.{same_words, are_flags, is_renaming, is_written}
use Rattle.cli_words.specs.declared.asked.Flags.{Flags}
use Rattle.cli_words.specs.declared.asked.Asked.{Asked}
use Rattle.cli_words.specs.declared.asked.Asked.TheVariants.{Check, Footprint, Rename, Sample, Verify, Batch, Recover}
use Rattle.cli_words.proofs.Shapes.{both, each_flags, each_form, named, same_word, value_begins}
use Rattle.cli_words.proofs.Forms as heard

-- ---- words that have a form are that form written out

flags_written : (ws : List Word) (f : Flags) → rename_flags ws ≡ Some f → are_flags f.write f.safe f.json ws ≡ true
flags_written = each_flags (λ ws f. are_flags f.write f.safe f.json ws ≡ true) (record {
  none = refl;
  write = refl;
  safe = refl;
  json = refl;
  write_json = refl;
  json_write = refl;
  safe_json = refl;
  json_safe = refl;
})

pub asked_is_written : (form : Asked Word) (ws : List Word) → asked ws ≡ Some form → is_written form ws ≡ true
asked_is_written = each_form (λ ws form. is_written form ws ≡ true) (record {
  check = refl;
  footprint = λ t v. rw (v, same_word t) refl;
  rename = λ t n v w ws f e. rw (v, w, same_word t, same_word n) (flags_written ws f e);
  sample = λ n v. rw (v, same_word n) refl;
  verify = λ old new v w. rw (v, w, same_word old, same_word new) refl;
  batch = λ file v. rw (v, same_word file) refl;
  batch_write = λ file v. rw (v, same_word file) refl;
  recover = refl;
})

-- ---- `clap` reads them as that form

flags_heard : (b : ℕ) (bs : List ℕ) (d : ℕ) (ds : List ℕ) → (b == 45) ≡ false → (d == 45) ≡ false → (ws : List Word) (f : Flags)
    → rename_flags ws ≡ Some f
    → heard.IsHeard (codes "rename" ∷ (b ∷ bs) ∷ (d ∷ ds) ∷ ws) (Rename (b ∷ bs) (d ∷ ds) f)
flags_heard b bs d ds h g = each_flags (λ ws f. heard.IsHeard (codes "rename" ∷ (b ∷ bs) ∷ (d ∷ ds) ∷ ws) (Rename (b ∷ bs) (d ∷ ds) f)) (record {
  none = heard.rename_is_heard b bs d ds h g;
  write = heard.rename_write_is_heard b bs d ds h g;
  safe = heard.rename_safe_is_heard b bs d ds h g;
  json = heard.rename_json_is_heard b bs d ds h g;
  write_json = heard.rename_write_json_is_heard b bs d ds h g;
  json_write = heard.rename_json_write_is_heard b bs d ds h g;
  safe_json = heard.rename_safe_json_is_heard b bs d ds h g;
  json_safe = heard.rename_json_safe_is_heard b bs d ds h g;
})

pub asked_is_heard : (form : Asked Word) (ws : List Word) → asked ws ≡ Some form → heard.IsHeard ws form
asked_is_heard = each_form heard.IsHeard (record {
  check = heard.check_is_heard;
  footprint = value_begins (λ t. heard.IsHeard (codes "footprint" ∷ t ∷ []) (Footprint t)) heard.footprint_is_heard;
  rename = λ t n v w ws f e.
      value_begins (λ t. heard.IsHeard (codes "rename" ∷ t ∷ n ∷ ws) (Rename t n f))
      (λ b bs h. value_begins (λ n. heard.IsHeard (codes "rename" ∷ (b ∷ bs) ∷ n ∷ ws) (Rename (b ∷ bs) n f))
      (λ d ds g. flags_heard b bs d ds h g ws f e) n w) t v;
  sample = value_begins (λ n. heard.IsHeard (codes "sample" ∷ n ∷ []) (Sample n)) heard.sample_is_heard;
  verify = λ old new v w.
      value_begins (λ old. heard.IsHeard (codes "verify" ∷ old ∷ new ∷ []) (Verify old new))
      (λ b bs h. value_begins (λ new. heard.IsHeard (codes "verify" ∷ (b ∷ bs) ∷ new ∷ []) (Verify (b ∷ bs) new))
      (λ d ds g. heard.verify_is_heard b bs d ds h g) new w) old v;
  batch = value_begins (λ file. heard.IsHeard (codes "batch" ∷ file ∷ []) (Batch file false)) heard.batch_is_heard;
  batch_write = value_begins (λ file. heard.IsHeard (codes "batch" ∷ file ∷ codes "--write" ∷ []) (Batch file true)) heard.batch_write_is_heard;
  recover = heard.recover_is_heard;
})

-- ---- a form written out has that form

are_same : (xs ys : List Word) → same_words xs ys ≡ true → xs ≡ ys
are_same [] [] e = refl
are_same [] (y ∷ ys) e = cc
are_same (x ∷ xs) [] e = cc
are_same (x ∷ xs) (y ∷ ys) e =
    let p = both (bytes_eq x y) (same_words xs ys) e in
    (λ i. named x y p.0 i ∷ are_same xs ys p.1 i)

either_same : (P : List Word → Type 0) (ws xs ys : List Word) → (same_words ws xs || same_words ws ys) ≡ true → P xs → P ys → P ws
either_same P ws xs ys e p q = by_first (same_words ws xs) refl where
  by_first : (t : Bool) → same_words ws xs ≡ t → P ws
  by_first true g = subst P (sym (are_same ws xs g)) p
  by_first false g = subst P (sym (are_same ws ys (rw g at e))) q

flags_asked : (write safe json : Bool) (ws : List Word) → are_flags write safe json ws ≡ true
    → rename_flags ws ≡ Some (record { write = write; safe = safe; json = json })
flags_asked true true json ws e = let bad : false ≡ true = e in cc
flags_asked false false false ws e = ap rename_flags (are_same ws [] e)
flags_asked false false true ws e = ap rename_flags (are_same ws (codes "--json" ∷ []) e)
flags_asked true false false ws e = ap rename_flags (are_same ws (codes "--write" ∷ []) e)
flags_asked false true false ws e = ap rename_flags (are_same ws (codes "--safe" ∷ []) e)
flags_asked true false true ws e =
    either_same (λ ws. rename_flags ws ≡ Some (record { write = true; safe = false; json = true })) ws (codes "--write" ∷ codes "--json" ∷ [])
    (codes "--json" ∷ codes "--write" ∷ []) e refl refl
flags_asked false true true ws e =
    either_same (λ ws. rename_flags ws ≡ Some (record { write = false; safe = true; json = true })) ws (codes "--safe" ∷ codes "--json" ∷ [])
    (codes "--json" ∷ codes "--safe" ∷ []) e refl refl

renaming_asked : (t n : Word) (f : Flags) (ws : List Word) → is_renaming t n f ws ≡ true → asked ws ≡ Some (Rename t n f)
renaming_asked t n f [] e = let bad : false ≡ true = e in absurd (cc)
renaming_asked t n f (w ∷ []) e = let bad : false ≡ true = e in absurd (cc)
renaming_asked t n f (w ∷ x ∷ []) e = let bad : false ≡ true = e in absurd (cc)
renaming_asked t n f (w ∷ x ∷ y ∷ ws) e =
    let p = both _ (are_flags f.write f.safe f.json ws) e in
    let q = both _ _ p.0 in
    let v = both (is_value t) (is_value n) q.0 in
    let r = both _ _ q.1 in
    let s = both _ _ r.0 in
    let first : w ≡ codes "rename" = named w (codes "rename") s.0 in
    let second : x ≡ t = named x t s.1 in
    let third : y ≡ n = named y n r.1 in
    rw (first, second, third, v.0, v.1, flags_asked f.write f.safe f.json ws p.1) refl

pub written_is_asked : (form : Asked Word) (ws : List Word) → is_written form ws ≡ true → asked ws ≡ Some form
written_is_asked Check ws e = ap asked (are_same ws (codes "check" ∷ []) e)
written_is_asked (Footprint t) ws e =
    let p = both (is_value t) _ e in
    ap asked (are_same ws (codes "footprint" ∷ t ∷ []) p.1) ∙ rw p.0 refl
written_is_asked (Rename t n f) ws e = renaming_asked t n f ws e
written_is_asked (Sample n) ws e =
    let p = both (is_value n) _ e in
    ap asked (are_same ws (codes "sample" ∷ n ∷ []) p.1) ∙ rw p.0 refl
written_is_asked (Verify old new) ws e =
    let p = both (is_value old && is_value new) _ e in
    ap asked (are_same ws (codes "verify" ∷ old ∷ new ∷ []) p.1) ∙ rw p.0 refl
written_is_asked (Batch file false) ws e =
    let p = both (is_value file) _ e in
    ap asked (are_same ws (codes "batch" ∷ file ∷ []) p.1) ∙ rw p.0 refl
written_is_asked (Batch file true) ws e =
    let p = both (is_value file) _ e in
    ap asked (are_same ws (codes "batch" ∷ file ∷ codes "--write" ∷ []) p.1) ∙ rw p.0 refl
written_is_asked Recover ws e = ap asked (are_same ws (codes "recover" ∷ []) e)
