-- Bytes that are a text in UTF-8.
use Rattle.std.proofs.Common.{◌≡◌, ℕ, List, Bool, true, false, refl, sym, Result, Ok, Err, is_ok}
use Rattle.std.specs.Prelude.{MatchResult}
use Rattle.std.specs.Str.{IsUtf8, is_utf8}
use Rattle.std.proofs.lemmas.Str.{is_utf8-from_IsUtf8, IsUtf8-from_is_utf8}

not_text : (bs : List ℕ) (b : Bool) → is_utf8 bs ≡ b → (IsUtf8 bs → ⊥) → b ≡ false
not_text bs b e none = elim b as (λ b. is_utf8 bs ≡ b → b ≡ false) [ true ↦ λ e. absurd (none (IsUtf8-from_is_utf8 bs e)) | false ↦ λ e. refl ] e

pub is_ok_utf8 : {T E : Type 0} (bs : List ℕ) (r : Result T E) (P : T → Type 0) (Q : E → Type 0) → ((x : T) → P x → IsUtf8 bs)
    → ((e : E) → Q e → IsUtf8 bs → ⊥) → MatchResult r P Q → is_ok r ≡ is_utf8 bs
is_ok_utf8 bs (Ok x) P Q text none h = sym (is_utf8-from_IsUtf8 bs (text x h))
is_ok_utf8 bs (Err e) P Q text none h = sym (not_text bs (is_utf8 bs) refl (none e h))
