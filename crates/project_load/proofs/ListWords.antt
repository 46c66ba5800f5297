-- The words of a line of a list.
use Rattle.std.proofs.Common.{◌≡◌, ◌∙◌, ℕ, ◌-◌, ◌<◌, ◌==◌, ◌&&◌, ◌||◌, Bool, true, false, List, [], ◌∷◌, ◌++◌, String, length, take, drop}
use Rattle.std.proofs.Common.{codes, string_bytes, inl, inr, refl, sym, ap, subst, take-append-drop, arith}
use Rattle.std.specs.List.{list_any, list_all}
use Rattle.std.specs.BTreeMap.{is_at}
use Rattle.std.specs.BTreeSet.{BTreeSet, contains_text}
use Rattle.std.specs.Ordering.{nat_cmp}
use Rattle.std.specs.Cmp.Lexicographic.{slice_cmp, bytes_decides}
use Rattle.std.specs.Str.{bytes_eq, IsAscii, IsUtf8}
use Rattle.std.proofs.lemmas.Bool.{or_cases}
use Rattle.std.proofs.lemmas.Bool.Decides.{nat_tests}
use Rattle.std.proofs.lemmas.Map.Text.{is_eq-slice_cmp}
use Rattle.std.proofs.lemmas.Str.{IsUtf8-from_ascii, IsAscii-append, IsUtf8-string_bytes}
use Rattle.std.proofs.lemmas.Str.Ascii.{IsAscii-nil, IsAscii-cons}
use Rattle.rotor_base.specs.Spaces.{IsCut, IsWhole}
use Rattle.rotor_base.proofs.SpaceCuts.{both_free, free, is_space, one_cut}
use Rattle.rotor_base.specs.Stem.{is_source_name, is_body_name, is_face_name, is_stem_word, is_stem_byte, ends_stem}
use Rattle.project_load.specs.Entries.{IsLine, IsNoLine}
use Rattle.project_load.specs.Listed.{is_listed_name}

-- ---- the names of sources: ASCII without a space

both_true : (a b : Bool) → (a && b) ≡ true → (a ≡ true) × (b ≡ true)
both_true true b e = (refl, e)
both_true false b e = cc

-- the byte is of ASCII, and no space
record IsPlain (bs : List ℕ) : Type 0 where
  ascii : IsAscii bs
  whole : IsWhole bs

plain_nil : IsPlain []
plain_nil = record { ascii = IsAscii-nil; whole = refl }

plain_cons : (b : ℕ) (bs : List ℕ) → b < 128 → (b == 32) ≡ false → IsPlain bs → IsPlain (b ∷ bs)
plain_cons b bs l e h = record { ascii = IsAscii-cons b bs l h.ascii; whole = free (b == 32) (list_any (λ b. b == 32) bs) e h.whole }

whole_append : (xs ys : List ℕ) → IsWhole xs → IsWhole ys → IsWhole (xs ++ ys)
whole_append [] ys f g = g
whole_append (x ∷ xs) ys f g =
    let parts = both_free (x == 32) (list_any (λ b. b == 32) xs) f in
    free (x == 32) (list_any (λ b. b == 32) (xs ++ ys)) parts.0 (whole_append xs ys parts.1 g)

plain_append : (xs ys : List ℕ) → IsPlain xs → IsPlain ys → IsPlain (xs ++ ys)
plain_append xs ys f g = record { ascii = IsAscii-append xs ys f.ascii g.ascii; whole = whole_append xs ys f.whole g.whole }

stem_small : (b : ℕ) → is_stem_byte b ≡ true → b < 128
stem_small b e = grind (arith, nat_tests)

stem_space : (b : ℕ) → (t : Bool) → (b == 32) ≡ t → is_stem_byte b ≡ true → t ≡ false
stem_space b true e h = let same : b ≡ 32 = is_space b e in let bad : is_stem_byte 32 ≡ true = sym (ap is_stem_byte same) ∙ h in cc
stem_space b false e h = refl

stem_plain : (xs : List ℕ) → list_all is_stem_byte xs ≡ true → IsPlain xs
stem_plain [] h = plain_nil
stem_plain (x ∷ xs) h =
    let parts = both_true (is_stem_byte x) (list_all is_stem_byte xs) h in
    plain_cons x xs (stem_small x parts.0) (stem_space x (x == 32) refl parts.0) (stem_plain xs parts.1)

word_plain : (xs : List ℕ) → is_stem_word xs ≡ true → IsPlain xs
word_plain [] h = cc
word_plain (x ∷ xs) h = stem_plain (x ∷ xs) (both_true _ _ h).1

ended_plain : (ending name : List ℕ) → IsPlain ending → ends_stem ending name ≡ true → IsPlain name
unfolding ends_stem
ended_plain ending name f h =
    let n = length name - length ending in
    let t = both_true _ _ h in
    let end : drop n name ≡ ending = (bytes_decides (drop n name) ending).0 t.0 in
    let whole : IsPlain (take n name ++ drop n name) = plain_append (take n name) (drop n name) (word_plain (take n name) t.1)
    (subst IsPlain (sym end) f) in
    subst IsPlain (take-append-drop n name) whole

body_plain : IsPlain (codes ".ml")
body_plain =
    plain_cons 46 (109 ∷ 108 ∷ []) (omega arith) refl (plain_cons 109 (108 ∷ []) (omega arith) refl (plain_cons 108 [] (omega arith) refl plain_nil))

face_plain : IsPlain (codes ".mli")
face_plain =
    plain_cons 46 (109 ∷ 108 ∷ 105 ∷ []) (omega arith) refl (plain_cons 109 (108 ∷ 105 ∷ []) (omega arith) refl
    (plain_cons 108 (105 ∷ []) (omega arith) refl (plain_cons 105 [] (omega arith) refl plain_nil)))

source_plain : (name : List ℕ) → is_source_name name ≡ true → IsPlain name
source_plain name h = by (is_body_name name) refl h where
  by : (b : Bool) → is_body_name name ≡ b → (b || is_face_name name) ≡ true → IsPlain name
  by true e t = ended_plain (codes ".ml") name body_plain e
  by false e t = ended_plain (codes ".mli") name face_plain t

-- rotor.units
manifest_plain : IsPlain (codes "rotor.units")
manifest_plain =
    plain_append (codes "rotor") (codes ".units") (stem_plain (codes "rotor") refl)
    (plain_cons 46 (codes "units") (omega arith) refl (stem_plain (codes "units") refl))

listed_plain : (name : List ℕ) → is_listed_name name ≡ true → IsPlain name
listed_plain name h = by (is_source_name name) refl h where
  by : (b : Bool) → is_source_name name ≡ b → (b || bytes_eq name (codes "rotor.units")) ≡ true → IsPlain name
  by true e t = source_plain name e
  by false e t = subst IsPlain (sym ((bytes_decides name (codes "rotor.units")).0 t)) manifest_plain

-- bytes that are no text name no source
pub no_text : (name : List ℕ) → (IsUtf8 name → ⊥) → is_listed_name name ≡ false
no_text name none = by (is_listed_name name) refl where
  by : (b : Bool) → is_listed_name name ≡ b → b ≡ false
  by true e = absurd (none (IsUtf8-from_ascii name (listed_plain name e).ascii))
  by false e = refl

-- ---- lines

-- a line is split in one way
pub one_split : (line s f t g : List ℕ) → line ≡ s ++ 32 ∷ f → is_listed_name s ≡ true → line ≡ t ++ 32 ∷ g → is_listed_name t ≡ true
    → (s ≡ t) × (f ≡ g)
one_split line s f t g h n k m = one_cut line s f t g (record { split = h; whole = (listed_plain s n).whole }) k (listed_plain t m).whole

module _ {Y : Type 0} (folder : BTreeSet (String Y)) where
  key_utf8 : (ks : List (String Y)) (name : List ℕ) → list_any (is_at (λ k. slice_cmp nat_cmp name (string_bytes k))) ks ≡ true → IsUtf8 name
  key_utf8 [] name e = cc
  key_utf8 (k ∷ ks) name e =
      elim (or_cases (is_at (λ k. slice_cmp nat_cmp name (string_bytes k)) k)
      (list_any (is_at (λ k. slice_cmp nat_cmp name (string_bytes k))) ks) e) [
        | inl t ↦ subst IsUtf8 (sym ((bytes_decides name (string_bytes k)).0 (sym (is_eq-slice_cmp name (string_bytes k)) ∙ t)))
            (IsUtf8-string_bytes k)
        | inr t ↦ key_utf8 ks name t
      ]

  -- bytes that are no text name no file
  pub no_name : (name : List ℕ) → (IsUtf8 name → ⊥) → contains_text folder name ≡ true → ⊥
  no_name name none e = none (key_utf8 folder.keys name e)

  -- two entries of one line are one
  pub one_line : (line s f source file : List ℕ) → IsLine folder line s f → IsLine folder line source file → (s ≡ source) × (f ≡ file)
  one_line line s f source file h k = one_split line s f source file h.split h.named k.split k.named

  -- the bytes before the first space name no source
  pub no_source : (line front behind : List ℕ) → IsCut line front behind → is_listed_name front ≡ false → IsNoLine folder line
  no_source line front behind h none source file k =
      let same = one_cut line front behind source file h k.split (listed_plain source k.named).whole in
      let bad : true ≡ false = sym k.named ∙ ap is_listed_name (sym same.0) ∙ none in
      cc

  -- those behind it name no file
  pub no_file : (line front behind : List ℕ) → IsCut line front behind → (IsWhole behind → contains_text folder behind ≡ true → ⊥)
      → IsNoLine folder line
  no_file line front behind h none source file k =
      let same = one_cut line front behind source file h k.split (listed_plain source k.named).whole in
      none (subst IsWhole (sym same.1) k.whole) (ap (contains_text folder) same.1 ∙ k.listed)
