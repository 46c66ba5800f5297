-- The sources that are texts in UTF-8.
use Rattle.std.proofs.Common.{◌≡◌, ℕ, ◌+◌, ◌<◌, List, All, true, false, true≢false, length, take, get_or, refl, ap, sym, ◌∙◌, subst}
use Rattle.std.specs.Str.{is_utf8}
use Rattle.std.proofs.lemmas.List.{get_or_default, take_more}
use Rattle.std.proofs.lemmas.List.Elements.{All-push}
use Rattle.std.proofs.lemmas.Option.{get_or_from_slice_get, slice_get_read}
use Rattle.std.proofs.lemmas.Str.{is_utf8-from_IsUtf8, IsUtf8-from_is_utf8}
use Rattle.rotor_base.specs.declared.source.SourceFile.{SourceFile}
use Rattle.renaming_edits.specs.Edits.{IsText, IsNoText}

pub no_text : (sources : List SourceFile) (numbers : List ℕ) (i d : ℕ) (at : SourceFile) (bytes : List ℕ) → i < length numbers
    → get_or numbers i d < length sources → at ≡ get_or sources (get_or numbers i d) at → bytes ≡ at.bytes → is_utf8 bytes ≡ false
    → IsNoText sources numbers (get_or numbers i d)
no_text sources numbers i d at bytes lt within is same none = (
  (i, lt, get_or_default numbers i (get_or numbers i d) d lt),
  (
    at,
    slice_get_read sources (length sources) (get_or numbers i d) at refl within is,
    λ text. true≢false (sym (is_utf8-from_IsUtf8 at.bytes text) ∙ sym (ap is_utf8 same) ∙ none),
  ),
)

pub text_here : (sources : List SourceFile) (f : ℕ) (at : SourceFile) (bytes : List ℕ) → at ≡ get_or sources f at → bytes ≡ at.bytes
    → is_utf8 bytes ≡ true → IsText sources f
text_here sources f at bytes is same text = λ source there.
    let one : at ≡ source = is ∙ get_or_from_slice_get sources f source at there in
    IsUtf8-from_is_utf8 source.bytes (ap is_utf8 (sym (ap (λ (s : SourceFile). s.bytes) one) ∙ sym same) ∙ text)

pub all_more : (P : ℕ → Type 0) (xs : List ℕ) (i d : ℕ) → i < length xs → All P (take i xs) → P (get_or xs i d) → All P (take (i + 1) xs)
all_more P xs i d lt all here = subst (All P) (sym (take_more xs i d lt)) (All-push P (take i xs) (get_or xs i d) all here)
