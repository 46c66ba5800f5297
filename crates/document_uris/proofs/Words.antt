-- Words that are one, whatever the case of their letters.
use Rattle.std.proofs.Common.{◌≡◌, ◌↔◌, ◌<◌, ℕ, Bool, true, false, List, [], ◌∷◌, ◌==◌, IsTrue, length, map, refl, sym, ap, ◌∙◌, arith}
use Rattle.std.specs.Bool.{Decides}
use Rattle.std.specs.Char.{to_ascii_lowercase}
use Rattle.std.proofs.lemmas.Slice.Eq.{bytes_eq-Decides}
use Rattle.std.proofs.lemmas.List.{length-map}
use Rattle.std.proofs.lemmas.Bool.{false_from_ne_true}
use Rattle.document_uris.specs.Uris.{is_same_word}

agree : (r t : Bool) (P : Type 0) → (IsTrue r ↔ P) → Decides t P → r ≡ t
agree true true P h d = refl
agree true false P h d = let e : false ≡ true = d.1 (h.0 refl) in cc
agree false true P h d = let e : false ≡ true = h.1 (d.0 refl) in cc
agree false false P h d = refl

pub same_word : (a b : List ℕ) (r : Bool) → (IsTrue r ↔ (map to_ascii_lowercase a ≡ map to_ascii_lowercase b)) → r ≡ is_same_word a b
same_word a b r h =
    agree r (is_same_word a b) (map to_ascii_lowercase a ≡ map to_ascii_lowercase b) h
    (bytes_eq-Decides (map to_ascii_lowercase a) (map to_ascii_lowercase b))

-- a word of another length is another word
pub other_word : (a b : List ℕ) → length a < length b → is_same_word a b ≡ false
other_word a b short = false_from_ne_true (is_same_word a b) (λ same.
    let one : map to_ascii_lowercase a ≡ map to_ascii_lowercase b = (bytes_eq-Decides (map to_ascii_lowercase a) (map to_ascii_lowercase b)).0 same in
    let long : length a ≡ length b =
    sym (length-map a to_ascii_lowercase) ∙ ap length one ∙ length-map b to_ascii_lowercase in
    omega (arith, short, long))

-- a word with a byte is not the empty one
pub longer_word : (a : List ℕ) → (length a == 0) ≡ false → is_same_word a [] ≡ false
longer_word [] some = cc
longer_word (b ∷ a) some = refl
