-- Tokens without a name.
use Rattle.std.proofs.Common.{◌≡◌, ℕ, zero, suc, List, [], ◌∷◌, ◌++◌, drop, map, take, refl, ap, ◌∙◌}
use Rattle.std.proofs.lemmas.List.{map-append}
use Rattle.rotor_base.specs.declared.token.Token.{Token}
use Rattle.ml_lexer.specs.Lexed.{Lexeme, view_token, view_tokens}
use Rattle.refusal_places.specs.Blanks.{blank, blanked}

view_take : (n : ℕ) (ts : List Token) → view_tokens (take n ts) ≡ take n (view_tokens ts)
view_take zero ts = refl
view_take (suc n) [] = refl
view_take (suc n) (t ∷ ts) = ap (λ (l : List Lexeme). view_token t ∷ l) (view_take n ts)

view_drop : (n : ℕ) (ts : List Token) → view_tokens (drop n ts) ≡ drop n (view_tokens ts)
view_drop zero ts = refl
view_drop (suc n) [] = refl
view_drop (suc n) (t ∷ ts) = view_drop n ts

-- blank tokens before the others
pub blanked_tokens : (name : List ℕ) (n : ℕ) (ts blanks : List Token) → view_tokens blanks ≡ map (blank name) (view_tokens (take n ts))
    → view_tokens (blanks ++ drop n ts) ≡ blanked name n (view_tokens ts)
blanked_tokens name n ts blanks h =
    map-append view_token blanks (drop n ts)
    ∙ ap (λ (l : List Lexeme). l ++ view_tokens (drop n ts)) (h ∙ ap (map (blank name)) (view_take n ts))
    ∙ ap (λ (l : List Lexeme). map (blank name) (take n (view_tokens ts)) ++ l) (view_drop n ts)
