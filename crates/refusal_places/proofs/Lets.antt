-- The last `let` of some lexemes that has no `in` among them.
use Rattle.std.proofs.Common.{◌≡◌, ◌≢◌, ◌==◌, ◌&&◌, ◌<◌, ◌≤◌, ℕ, zero, suc, ◌+◌, ◌-◌, Bool, true, false, List, [], ◌∷◌, bytes_eq, codes, cond, drop}
use Rattle.std.proofs.Common.{get_or, length, take}
use Rattle.std.proofs.Common.{length-drop, refl, sym, ap, ◌∙◌, arith}
use Rattle.std.proofs.lemmas.Bool.Decides.{nat_tests}
use Rattle.std.proofs.lemmas.List.{length-map, length-take-le, take-map}
use Rattle.rotor_base.specs.declared.token.Token.{Token}
use Rattle.ml_lexer.specs.Lexed.{Lexeme, view_token, view_tokens}
use Rattle.refusal_places.specs.Front.{ins_before, last_let, open_ins}

later : (n m : ℕ) (b c : Bool) → n ≢ 0 → cond (n == 0 && b && c) m n ≡ n
later n m b c h = let not : (n == 0) ≡ false = grind (arith, nat_tests, h) in ap (λ t. cond (t && b && c) m n) not

-- one from a later place on is the last of all
from_before : (i : ℕ) (xs : List Lexeme) → last_let (drop i xs) ≢ 0 → last_let xs ≡ last_let (drop i xs)
from_before zero xs h = refl
from_before (suc i) [] h = refl
from_before (suc i) (x ∷ xs) h =
    let e = from_before i xs h in
    later (last_let xs) (length xs + 1) (bytes_eq x.bytes (codes "let")) (open_ins xs == 0) (λ z. h (sym e ∙ z)) ∙ e

first : (x : Lexeme) (xs : List Lexeme) → bytes_eq x.bytes (codes "let") ≡ true → last_let xs ≡ 0 → open_ins xs ≡ 0
    → last_let (x ∷ xs) ≡ length xs + 1
first x xs is none closed = go (last_let xs) (bytes_eq x.bytes (codes "let")) (open_ins xs) none is closed
  where
    go : (l : ℕ) (b : Bool) (o : ℕ) → l ≡ 0 → b ≡ true → o ≡ 0 → cond (l == 0 && b && o == 0) (length xs + 1) l ≡ length xs + 1
    go zero true zero l b o = refl
    go zero true (suc o) l b c = absurd cc
    go zero false o l b c = absurd cc
    go (suc l) b o n c d = absurd cc

-- a `let` behind which no `in` is open and no such `let` is
pub found : (xs : List Lexeme) (i : ℕ) (x : Lexeme) → i < length xs → drop i xs ≡ x ∷ drop (i + 1) xs → bytes_eq x.bytes (codes "let") ≡ true
    → last_let (drop (i + 1) xs) ≡ 0 → open_ins (drop (i + 1) xs) ≡ 0 → i ≡ length xs - last_let xs
found xs i x lt split is none closed =
    let one = ap last_let split ∙ first x (drop (i + 1) xs) is none closed in
    let all = from_before i xs (λ z. absurd (omega (arith, one, z))) in
    let size = length-drop (i + 1) xs in
    omega (arith, lt, one, all, size)

-- another lexeme before some without such a `let`
pub none_more : (x : Lexeme) (xs : List Lexeme) → (bytes_eq x.bytes (codes "let") && open_ins xs == 0) ≡ false → last_let xs ≡ 0
    → last_let (x ∷ xs) ≡ 0
none_more x xs other none = go (last_let xs) (bytes_eq x.bytes (codes "let")) (open_ins xs == 0) none other
  where
    go : (l : ℕ) (b c : Bool) → l ≡ 0 → (b && c) ≡ false → cond (l == 0 && b && c) (length xs + 1) l ≡ 0
    go zero true true l h = absurd cc
    go zero true false l h = refl
    go zero false c l h = refl
    go (suc l) b c n h = absurd cc

-- ---- over tokens

split : (ts : List Token) (i : ℕ) (d : Token) → i < length ts
    → drop i (view_tokens ts) ≡ view_token (get_or ts i d) ∷ drop (i + 1) (view_tokens ts)
split [] i d lt = absurd (omega arith)
split (t ∷ ts) zero d lt = refl
split (t ∷ ts) (suc i) d lt =
    let next : suc i + 1 ≡ suc (i + 1) = omega arith in
    split ts i d (omega arith) ∙ ap (λ n. view_token (get_or ts i d) ∷ drop n (view_tokens (t ∷ ts))) (sym next)

viewed : (ts : List Token) → length (view_tokens ts) ≡ length ts
viewed ts = length-map ts view_token

both : (a b : Bool) → (a && b) ≡ true → (a ≡ true) × (b ≡ true)
both true b e = (refl, e)
both false b e = absurd cc

-- a `let` before a place, behind which its `in` is not
pub found_at : (ts : List Token) (at ins : ℕ) (d : Token) → 0 < at → at ≤ length ts → last_let (drop at (view_tokens ts)) ≡ 0
    → ins ≡ open_ins (drop at (view_tokens ts)) → (bytes_eq (get_or ts (at - 1) d).bytes.now (codes "let") && ins == 0) ≡ true
    → at - 1 ≡ length ts - last_let (view_tokens ts)
found_at ts at ins d some within none left is =
    let i : ℕ = at - 1 in
    let next : i + 1 ≡ at = omega arith in
    let lt : i < length ts = omega arith in
    let size = viewed ts in
    let b = both (bytes_eq (get_or ts i d).bytes.now (codes "let")) (ins == 0) is in
    let closed : ins ≡ 0 = grind (arith, nat_tests, b.1) in
    let e = found (view_tokens ts) i (view_token (get_or ts i d)) (omega (arith, lt, size)) (split ts i d lt) b.0
    (ap (λ n. last_let (drop n (view_tokens ts))) next ∙ none) (ap (λ n. open_ins (drop n (view_tokens ts))) next ∙ sym left ∙ closed) in
    e ∙ ap (λ n. n - last_let (view_tokens ts)) size

-- another token before a place
pub none_at : (ts : List Token) (at ins : ℕ) (d : Token) → 0 < at → at ≤ length ts → last_let (drop at (view_tokens ts)) ≡ 0
    → ins ≡ open_ins (drop at (view_tokens ts)) → (bytes_eq (get_or ts (at - 1) d).bytes.now (codes "let") && ins == 0) ≡ false
    → last_let (drop (at - 1) (view_tokens ts)) ≡ 0
none_at ts at ins d some within none left not =
    let i : ℕ = at - 1 in
    let next : i + 1 ≡ at = omega arith in
    let behind : ins ≡ open_ins (drop (i + 1) (view_tokens ts)) = left ∙ ap (λ n. open_ins (drop n (view_tokens ts))) (sym next) in
    ap last_let (split ts i d (omega arith))
    ∙ none_more (view_token (get_or ts i d)) (drop (i + 1) (view_tokens ts))
    (ap (λ n. bytes_eq (get_or ts i d).bytes.now (codes "let") && n == 0) (sym behind) ∙ not)
    (ap (λ n. last_let (drop n (view_tokens ts))) next ∙ none)

pub ins_at : (ts : List Token) (at ins : ℕ) (d : Token) → 0 < at → at ≤ length ts → ins ≡ open_ins (drop at (view_tokens ts))
    → ins_before (get_or ts (at - 1) d).bytes.now ins ≡ open_ins (drop (at - 1) (view_tokens ts))
ins_at ts at ins d some within left =
    let i : ℕ = at - 1 in
    let next : i + 1 ≡ at = omega arith in
    ap (ins_before (get_or ts i d).bytes.now) (left ∙ ap (λ n. open_ins (drop n (view_tokens ts))) (sym next))
    ∙ sym (ap open_ins (split ts i d (omega arith)))

-- the last `let` before a place
pub let_of_front : (ts : List Token) (end n : ℕ) → end ≤ length ts → n ≡ length (take end ts) - last_let (view_tokens (take end ts))
    → n ≡ end - last_let (take end (view_tokens ts))
let_of_front ts end n le h =
    h ∙ ap (λ m. m - last_let (view_tokens (take end ts))) (length-take-le end ts le)
    ∙ ap (λ (xs : List Lexeme). end - last_let xs) (sym (take-map view_token end ts))
