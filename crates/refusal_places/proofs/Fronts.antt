-- The place behind the items.
use Rattle.std.proofs.Common.{◌≡◌, ℕ, suc, ◌+◌, ◌-◌, ◌≤◌, ◌<◌, List, [], ◌∷◌, Some, drop, length, length-drop, map, refl, ap, ◌∙◌, arith}
use Rattle.std.proofs.lemmas.List.{length-map}
use Rattle.rotor_base.specs.declared.token.Class.{Class}
use Rattle.rotor_base.specs.declared.token.Token.{Token}
use Rattle.ml_lexer.specs.Lexed.{Lexeme, view_tokens}
use Rattle.ml_syntax.specs.RespelledFile.{lexeme_toks}
use Rattle.ml_trees.specs.Tok.{Tok, toks_from}
use Rattle.token_reading.specs.Tokens.{from, lexeme}
use Rattle.token_reading.proofs.Stepping.{some_is}
use Rattle.parse_module.specs.declared.files.FileKind.{FileKind}
use Rattle.parse_module.specs.declared.files.FileKind.TheVariants as kind
use Rattle.module_reading.specs.ModReading.{body_start, face_start}
use Rattle.ml_trees.specs.Tree.{Items, SigItems}
use Rattle.refusal_places.specs.Front.{behind_items, items_end}

pairs : (ts : List Token) → map (λ (x : Lexeme). (x.class, x.bytes)) (view_tokens ts) ≡ map lexeme ts
pairs [] = refl
pairs (t ∷ ts) = ap (λ (rest : List (Class × List ℕ)). (t.class, t.bytes.now) ∷ rest) (pairs ts)

-- the lexemes of the tokens are those of the grammar
pub toks_same : (ts : List Token) → lexeme_toks 1 (view_tokens ts) ≡ from ts 0
unfolding from
toks_same ts = ap (toks_from 1) (pairs ts)

pub viewed : (ts : List Token) → length (view_tokens ts) ≡ length ts
viewed [] = refl
viewed (t ∷ ts) = ap suc (viewed ts)

pub toks_length : (n : ℕ) (xs : List (Class × List ℕ)) → length (toks_from n xs) ≡ length xs
toks_length n [] = refl
toks_length n (x ∷ xs) = ap suc (toks_length (suc n) xs)

-- from a place on there are as many tokens as are left
rest_length : (ts : List Token) (at : ℕ) → length (from ts at) ≡ length ts - at
unfolding from
rest_length ts at = toks_length (at + 1) (map lexeme (drop at ts)) ∙ length-map (drop at ts) lexeme ∙ length-drop at ts

pub body_rest : (ts : List Token) (is : Items) (end : ℕ) → Some (body_start (length ts + 1) (from ts 0)) ≡ Some (is, from ts end)
    → behind_items kind.Body (view_tokens ts) ≡ from ts end
body_rest ts is end h =
    ap (λ (n : ℕ). (body_start (n + 1) (lexeme_toks 1 (view_tokens ts))).1) (viewed ts)
    ∙ ap (λ (l : List Tok). (body_start (length ts + 1) l).1) (toks_same ts) ∙ ap (λ (x : Items × List Tok). x.1) (some_is h)

pub face_rest : (ts : List Token) (is : SigItems) (end : ℕ) → Some (face_start (length ts + 1) (from ts 0)) ≡ Some (is, from ts end)
    → behind_items kind.Face (view_tokens ts) ≡ from ts end
face_rest ts is end h =
    ap (λ (n : ℕ). (face_start (n + 1) (lexeme_toks 1 (view_tokens ts))).1) (viewed ts)
    ∙ ap (λ (l : List Tok). (face_start (length ts + 1) l).1) (toks_same ts) ∙ ap (λ (x : SigItems × List Tok). x.1) (some_is h)

pub front_inside : (k : FileKind) (ts : List Token) (end : ℕ) → behind_items k (view_tokens ts) ≡ from ts end → end < length ts
    → end ≡ items_end k (view_tokens ts)
front_inside k ts end h lt =
    let all = viewed ts in
    let left : length (behind_items k (view_tokens ts)) ≡ length ts - end = ap (λ (l : List Tok). length l) h ∙ rest_length ts end in
    omega (arith, all, left, lt)

pub front_at_end : (k : FileKind) (ts : List Token) (end : ℕ) → behind_items k (view_tokens ts) ≡ from ts end → length ts ≤ end
    → length ts ≡ items_end k (view_tokens ts)
front_at_end k ts end h le =
    let all = viewed ts in
    let left : length (behind_items k (view_tokens ts)) ≡ length ts - end = ap (λ (l : List Tok). length l) h ∙ rest_length ts end in
    omega (arith, all, left, le)
