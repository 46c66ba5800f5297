-- Paths that end.
use Rattle.std.proofs.Common.{◌≡◌, ◌<◌, List, [], ◌∷◌, false, length, refl, arith}
use Rattle.rotor_base.specs.declared.token.Token.{Token}
use Rattle.ml_lexer.specs.Lexed.{view_tokens}
use Rattle.module_openings.specs.Opened.{opens_bracket}

-- no bracket is behind a path of which fewer than two tokens are left
pub no_bracket : (ts : List Token) → length ts < 2 → opens_bracket (view_tokens ts) ≡ false
no_bracket [] h = refl
no_bracket (t ∷ []) h = refl
no_bracket (t ∷ (u ∷ ts)) h = absurd (omega arith)
