-- What words look like that have one of the forms.
use Rattle.std.proofs.Common.{◌≡◌, ℕ, Bool, true, false, List, [], ◌∷◌, ◌==◌, ◌&&◌, Option, Some, None, option_map, refl, sym, subst, arith, codes}
use Rattle.std.specs.Bool.{if◌then◌else◌}
use Rattle.std.specs.Str.{bytes_eq}
use Rattle.std.proofs.lemmas.Bool.Decides.{nat_tests}
use Rattle.std.proofs.lemmas.Slice.Eq.{bytes_eq-Decides}
use Rattle.cli_words.specs.Words.{Word, is_value, is_json_flag, no_flags, with_json, mode_flag, rename_flags, write_flag, nothing_behind}
use Rattle.cli_words.specs.Words.{footprint_form, rename_form, sample_form, verify_form, batch_form, asked}
use Rattle.cli_words.specs.declared.asked.Flags.{Flags}
use Rattle.cli_words.specs.declared.asked.Asked.{Asked}
use Rattle.cli_words.specs.declared.asked.Asked.TheVariants.{Check, Footprint, Rename, Sample, Verify, Batch, Recover}

pub named : (w n : Word) → bytes_eq w n ≡ true → w ≡ n
named w n e = (bytes_eq-Decides w n).0 e

pub itself : (n : ℕ) → (n == n) ≡ true
itself n = grind (arith, nat_tests)

pub same_word : (w : Word) → bytes_eq w w ≡ true
same_word [] = refl
same_word (b ∷ bs) = rw (itself b) (same_word bs)

pub both : (a b : Bool) → (a && b) ≡ true → (a ≡ true) × (b ≡ true)
both true b e = (refl, e)
both false b e = cc

pub none_is_some : {A : Type 0} (x : A) → ◌≡◌ {A = Option A} None (Some x) → ⊥
none_is_some x e = cc

-- a value begins with another byte than `-`
pub value_begins : (P : Word → Type 0) → ((b : ℕ) (bs : List ℕ) → (b == 45) ≡ false → P (b ∷ bs)) → (w : Word) → is_value w ≡ true → P w
value_begins P h [] e = let bad : false ≡ true = e in cc
value_begins P h (b ∷ bs) e = by_test (b == 45) refl where
  by_test : (t : Bool) → (b == 45) ≡ t → P (b ∷ bs)
  by_test false g = h b bs g
  by_test true g = let bad : false ≡ true = rw g at e in cc

-- ---- flags

pub record HoldsOfFlags (P : List Word → Flags → Type 0) : Type 0 where
  pub none : P [] no_flags
  pub write : P (codes "--write" ∷ []) (record { write = true; safe = false; json = false })
  pub safe : P (codes "--safe" ∷ []) (record { write = false; safe = true; json = false })
  pub json : P (codes "--json" ∷ []) (record { write = false; safe = false; json = true })
  pub write_json : P (codes "--write" ∷ codes "--json" ∷ []) (record { write = true; safe = false; json = true })
  pub json_write : P (codes "--json" ∷ codes "--write" ∷ []) (record { write = true; safe = false; json = true })
  pub safe_json : P (codes "--safe" ∷ codes "--json" ∷ []) (record { write = false; safe = true; json = true })
  pub json_safe : P (codes "--json" ∷ codes "--safe" ∷ []) (record { write = false; safe = true; json = true })

-- a word that is `--write` or `--safe`
each_mode : (P : Word → Flags → Type 0) → P (codes "--write") (record no_flags { write = true })
    → P (codes "--safe") (record no_flags { safe = true })
    → (w : Word) (f : Flags) → mode_flag w ≡ Some f → P w f
each_mode P p q w f e = by_write (bytes_eq w (codes "--write")) refl where
  by_safe : (t : Bool) → bytes_eq w (codes "--safe") ≡ t → bytes_eq w (codes "--write") ≡ false → P w f
  by_safe true g n =
      let is : Some (record no_flags { safe = true }) ≡ Some f = rw (n, g) at e in
      let same : record no_flags { safe = true } ≡ f = cc in
      subst (λ v. P v f) (sym (named w (codes "--safe") g)) (subst (P (codes "--safe")) same q)
  by_safe false g n = absurd (none_is_some f (rw (n, g) at e))

  by_write : (t : Bool) → bytes_eq w (codes "--write") ≡ t → P w f
  by_write true g =
      let is : Some (record no_flags { write = true }) ≡ Some f = rw g at e in
      let same : record no_flags { write = true } ≡ f = cc in
      subst (λ v. P v f) (sym (named w (codes "--write") g)) (subst (P (codes "--write")) same p)
  by_write false g = by_safe (bytes_eq w (codes "--safe")) refl g

each_mode_json : (P : Word → Flags → Type 0) → P (codes "--write") (record { write = true; safe = false; json = true })
    → P (codes "--safe") (record { write = false; safe = true; json = true })
    → (w : Word) (f : Flags) → option_map with_json (mode_flag w) ≡ Some f → P w f
each_mode_json P p q w f e = by_mode (mode_flag w) refl where
  by_mode : (m : Option Flags) → mode_flag w ≡ m → P w f
  by_mode None g = absurd (none_is_some f (rw g at e))
  by_mode (Some m) g =
      let is : Some (with_json m) ≡ Some f = rw g at e in
      let same : with_json m ≡ f = cc in
      subst (P w) same (each_mode (λ v k. P v (with_json k)) p q w m g)

pub each_flags : (P : List Word → Flags → Type 0) → HoldsOfFlags P → (ws : List Word) (f : Flags) → rename_flags ws ≡ Some f → P ws f
each_flags P h [] f e = let same : no_flags ≡ f = cc in subst (P []) same h.none
each_flags P h (w ∷ []) f e = by_json (is_json_flag w) refl where
  by_json : (t : Bool) → is_json_flag w ≡ t → P (w ∷ []) f
  by_json true g =
      let is : Some (with_json no_flags) ≡ Some f = rw g at e in
      let same : with_json no_flags ≡ f = cc in
      subst (λ v. P (v ∷ []) f) (sym (named w (codes "--json") g)) (subst (P (codes "--json" ∷ [])) same h.json)
  by_json false g = each_mode (λ v k. P (v ∷ []) k) h.write h.safe w f (rw g at e)
each_flags P h (w ∷ v ∷ []) f e = by_second (is_json_flag v) refl where
  by_first : (t : Bool) → is_json_flag w ≡ t → is_json_flag v ≡ false → P (w ∷ v ∷ []) f
  by_first true g n =
      subst (λ x. P (x ∷ v ∷ []) f) (sym (named w (codes "--json") g))
      (each_mode_json (λ x k. P (codes "--json" ∷ x ∷ []) k) h.json_write h.json_safe v f (rw (n, g) at e))
  by_first false g n = absurd (none_is_some f (rw (n, g) at e))

  by_second : (t : Bool) → is_json_flag v ≡ t → P (w ∷ v ∷ []) f
  by_second true g =
      subst (λ x. P (w ∷ x ∷ []) f) (sym (named v (codes "--json") g))
      (each_mode_json (λ x k. P (x ∷ codes "--json" ∷ []) k) h.write_json h.safe_json w f (rw g at e))
  by_second false g = by_first (is_json_flag w) refl g
each_flags P h (w ∷ v ∷ x ∷ xs) f e = absurd (none_is_some f e)

-- ---- forms

pub record HoldsOfForms (P : List Word → Asked Word → Type 0) : Type 0 where
  pub check : P (codes "check" ∷ []) Check
  pub footprint : (t : Word) → is_value t ≡ true → P (codes "footprint" ∷ t ∷ []) (Footprint t)
  pub rename : (t n : Word) → is_value t ≡ true → is_value n ≡ true → (ws : List Word) (f : Flags) → rename_flags ws ≡ Some f
      → P (codes "rename" ∷ t ∷ n ∷ ws) (Rename t n f)
  pub sample : (n : Word) → is_value n ≡ true → P (codes "sample" ∷ n ∷ []) (Sample n)
  pub verify : (old new : Word) → is_value old ≡ true → is_value new ≡ true → P (codes "verify" ∷ old ∷ new ∷ []) (Verify old new)
  pub batch : (file : Word) → is_value file ≡ true → P (codes "batch" ∷ file ∷ []) (Batch file false)
  pub batch_write : (file : Word) → is_value file ≡ true → P (codes "batch" ∷ file ∷ codes "--write" ∷ []) (Batch file true)
  pub recover : P (codes "recover" ∷ []) Recover

if_some : {A : Type 0} (t : Bool) (x y : A) → (if t then Some x else None) ≡ Some y → (t ≡ true) × (x ≡ y)
if_some true x y e = (refl, cc)
if_some false x y e = absurd (none_is_some y e)

map_some : {A B : Type 0} (f : A → B) (o : Option A) (y : B) → option_map f o ≡ Some y → (x : A) × (o ≡ Some x) × (f x ≡ y)
map_some f None y e = absurd (none_is_some y e)
map_some f (Some x) y e = (x, refl, cc)

module _ (P : List Word → Asked Word → Type 0) (h : HoldsOfForms P) (form : Asked Word) where
  check_shape : (ws : List Word) → nothing_behind Check ws ≡ Some form → P (codes "check" ∷ ws) form
  check_shape [] e = let same : Check ≡ form = cc in subst (P (codes "check" ∷ [])) same h.check
  check_shape (w ∷ ws) e = absurd (none_is_some form e)

  recover_shape : (ws : List Word) → nothing_behind Recover ws ≡ Some form → P (codes "recover" ∷ ws) form
  recover_shape [] e = let same : Recover ≡ form = cc in subst (P (codes "recover" ∷ [])) same h.recover
  recover_shape (w ∷ ws) e = absurd (none_is_some form e)

  footprint_shape : (ws : List Word) → footprint_form ws ≡ Some form → P (codes "footprint" ∷ ws) form
  footprint_shape [] e = absurd (none_is_some form e)
  footprint_shape (t ∷ []) e = let p = if_some (is_value t) (Footprint t) form e in subst (P (codes "footprint" ∷ t ∷ [])) p.1 (h.footprint t p.0)
  footprint_shape (t ∷ w ∷ ws) e = absurd (none_is_some form e)

  sample_shape : (ws : List Word) → sample_form ws ≡ Some form → P (codes "sample" ∷ ws) form
  sample_shape [] e = absurd (none_is_some form e)
  sample_shape (t ∷ []) e = let p = if_some (is_value t) (Sample t) form e in subst (P (codes "sample" ∷ t ∷ [])) p.1 (h.sample t p.0)
  sample_shape (t ∷ w ∷ ws) e = absurd (none_is_some form e)

  verify_shape : (ws : List Word) → verify_form ws ≡ Some form → P (codes "verify" ∷ ws) form
  verify_shape [] e = absurd (none_is_some form e)
  verify_shape (old ∷ []) e = absurd (none_is_some form e)
  verify_shape (old ∷ new ∷ []) e =
      let p = if_some (is_value old && is_value new) (Verify old new) form e in
      let q = both (is_value old) (is_value new) p.0 in
      subst (P (codes "verify" ∷ old ∷ new ∷ [])) p.1 (h.verify old new q.0 q.1)
  verify_shape (old ∷ new ∷ w ∷ ws) e = absurd (none_is_some form e)

  write_shape : (file : Word) (ws : List Word) (w : Bool) → is_value file ≡ true → write_flag ws ≡ Some w
      → P (codes "batch" ∷ file ∷ ws) (Batch file w)
  write_shape file [] w v e = let same : false ≡ w = cc in subst (λ b. P (codes "batch" ∷ file ∷ []) (Batch file b)) same (h.batch file v)
  write_shape file (x ∷ []) w v e =
      let p = if_some (bytes_eq x (codes "--write")) true w e in
      subst (λ y. P (codes "batch" ∷ file ∷ y ∷ []) (Batch file w)) (sym (named x (codes "--write") p.0))
      (subst (λ b. P (codes "batch" ∷ file ∷ codes "--write" ∷ []) (Batch file b)) p.1 (h.batch_write file v))
  write_shape file (x ∷ y ∷ ws) w v e = absurd (none_is_some w e)

  batch_shape : (ws : List Word) → batch_form ws ≡ Some form → P (codes "batch" ∷ ws) form
  batch_shape [] e = absurd (none_is_some form e)
  batch_shape (file ∷ flags) e = by_value (is_value file) refl where
    by_value : (t : Bool) → is_value file ≡ t → P (codes "batch" ∷ file ∷ flags) form
    by_value true g =
        let p = map_some (Batch file) (write_flag flags) form (rw g at e) in
        subst (P (codes "batch" ∷ file ∷ flags)) p.2 (write_shape file flags p.0 g p.1)
    by_value false g = absurd (none_is_some form (rw g at e))

  rename_shape : (ws : List Word) → rename_form ws ≡ Some form → P (codes "rename" ∷ ws) form
  rename_shape [] e = absurd (none_is_some form e)
  rename_shape (t ∷ []) e = absurd (none_is_some form e)
  rename_shape (t ∷ n ∷ flags) e = by_value (is_value t && is_value n) refl where
    by_value : (b : Bool) → (is_value t && is_value n) ≡ b → P (codes "rename" ∷ t ∷ n ∷ flags) form
    by_value true g =
        let q = both (is_value t) (is_value n) g in
        let p = map_some (Rename t n) (rename_flags flags) form (rw g at e) in
        subst (P (codes "rename" ∷ t ∷ n ∷ flags)) p.2 (h.rename t n q.0 q.1 flags p.0 p.1)
    by_value false g = absurd (none_is_some form (rw g at e))

  -- a first word that may be the name
  chosen : (name w : Word) (ws : List Word) (one other : Option (Asked Word)) → (if bytes_eq w name then one else other) ≡ Some form
      → (one ≡ Some form → P (name ∷ ws) form) → (other ≡ Some form → P (w ∷ ws) form) → P (w ∷ ws) form
  chosen name w ws one other e p q = by_name (bytes_eq w name) refl where
    by_name : (t : Bool) → bytes_eq w name ≡ t → P (w ∷ ws) form
    by_name true g = subst (λ v. P (v ∷ ws) form) (sym (named w name g)) (p (rw g at e))
    by_name false g = q (rw g at e)

  pub each_form : (words : List Word) → asked words ≡ Some form → P words form
  each_form [] e = absurd (none_is_some form e)
  each_form (w ∷ ws) e =
      chosen (codes "check") w ws _ _ e (check_shape ws)
      (λ e1. chosen (codes "footprint") w ws _ _ e1 (footprint_shape ws)
      (λ e2. chosen (codes "rename") w ws _ _ e2 (rename_shape ws)
      (λ e3. chosen (codes "sample") w ws _ _ e3 (sample_shape ws)
      (λ e4. chosen (codes "verify") w ws _ _ e4 (verify_shape ws)
      (λ e5. chosen (codes "batch") w ws _ _ e5 (batch_shape ws)
      (λ e6. chosen (codes "recover") w ws _ _ e6 (recover_shape ws)
      (λ e7. absurd (none_is_some form e7))))))))
