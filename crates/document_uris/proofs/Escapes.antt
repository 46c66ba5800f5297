-- A path that is escaped is read back.
use Rattle.std.proofs.Common.{◌≡◌, ℕ, ◌≤◌, Bool, true, false, not, cond, ◌||◌, List, [], ◌∷◌, ◌++◌, refl, sym, ap, ◌∙◌, arith}
use Rattle.std.specs.Prelude.{All}
use Rattle.std.specs.Char.{is_ascii}
use Rattle.std.specs.List.{list_any}
use Rattle.std.proofs.lemmas.Bool.{agree_below, agree_below_at}
use Rattle.std.proofs.lemmas.Bool.Decides.{nat_tests}
use Rattle.std.proofs.lemmas.List.Folds.{list_any_none}
use Rattle.percent_encoding.specs.AsciiSet.{contains, should_percent_encode}
use Rattle.percent_encoding.specs.Percent.{encode_byte, percent_decode, percent_encode, percent_encode_byte}
use Rattle.percent_encoding.proofs.PercentLemmas.{IsByte, IsEscapeByte, All-percent_encode, round_trip}
use Rattle.document_uris.specs.Uris.{ends_path}
use Rattle.document_uris.specs.Written.{escaped, is_plain}
use Rattle.document_uris.specs.declared.writing.TheConstants.{ESCAPED}

table : agree_below (contains ESCAPED) (λ b. not (is_plain b)) 128 ≡ true
table = refl

large_plain : (b : ℕ) → 128 ≤ b → is_plain b ≡ false
large_plain b large = grind (arith, nat_tests)

-- the bytes that are escaped are those that are not plain
escapes : (b : ℕ) → should_percent_encode ESCAPED b ≡ not (is_plain b)
unfolding should_percent_encode
escapes b = by (is_ascii b) refl where
  by : (t : Bool) → is_ascii b ≡ t → (not t || contains ESCAPED b) ≡ not (is_plain b)
  by true e = agree_below_at (contains ESCAPED) (λ b. not (is_plain b)) 128 b table (grind (arith, nat_tests))
  by false e = ap not (sym (large_plain b (grind (arith, nat_tests))))

one_byte : (b : ℕ) → encode_byte ESCAPED b ≡ cond (is_plain b) (b ∷ []) (percent_encode_byte b)
one_byte b = ap (λ (t : Bool). cond t (percent_encode_byte b) (b ∷ [])) (escapes b) ∙ by (is_plain b) where
  by : (t : Bool) → cond (not t) (percent_encode_byte b) (b ∷ []) ≡ cond t (b ∷ []) (percent_encode_byte b)
  by true = refl
  by false = refl

pub escaped_is : (path : List ℕ) → percent_encode ESCAPED path ≡ escaped path
unfolding percent_encode
escaped_is [] = refl
escaped_is (b ∷ path) = (λ i. one_byte b i ++ escaped_is path i)

-- the escapes of a path are read back
pub escaped_back : (path : List ℕ) → All IsByte path → percent_decode (escaped path) ≡ path
escaped_back path bytes = ap percent_decode (sym (escaped_is path)) ∙ round_trip ESCAPED path refl bytes

-- no query and no fragment begins in an escaped path
pub escaped_whole : (path : List ℕ) → list_any ends_path (escaped path) ≡ false
escaped_whole path =
    ap (list_any ends_path) (sym (escaped_is path))
    ∙ list_any_none ends_path (percent_encode ESCAPED path)
    (All-percent_encode (λ b. ends_path b ≡ false) ESCAPED path kept escape)
  where
    kept : (b : ℕ) → should_percent_encode ESCAPED b ≡ false → ends_path b ≡ false
    kept b e = plain b (by (is_plain b) (sym (escapes b) ∙ e)) where
      by : (t : Bool) → not t ≡ false → t ≡ true
      by true e = refl
      by false e = cc

      plain : (b : ℕ) → is_plain b ≡ true → ends_path b ≡ false
      plain b e = grind (arith, nat_tests)

    escape : (b : ℕ) → IsEscapeByte b → ends_path b ≡ false
    escape b e = grind (arith, nat_tests)
