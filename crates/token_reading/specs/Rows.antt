-- Small tests and readings of tokens, as the code makes them (own).
use Rattle.std.specs.Prelude.{ℕ, List, [], ◌∷◌, Bool, false, ◌||◌, if◌then◌else◌, None, codes}
use Rattle.std.specs.Str.{bytes_eq}
use Rattle.ml_trees.specs.Tok.{Name, Tok}
use Rattle.ml_trees.specs.Tree.{Pat}
use Rattle.token_reading.specs.Steps.{Read, ◌>>=◌}
use Rattle.token_reading.specs.PatReading.{applied_to, can_apply, closed_by, read_pat, simple_pat}
use Rattle.token_reading.specs.Pieces.{more_uppers}

-- a path whose first name is read
abbrev pub path_from : Name → ℕ → List Tok → List Name × List Tok
path_from x n ts = (x ∷ (more_uppers n ts).0, (more_uppers n ts).1)

-- a pattern, and what closes the parenthesis before it
abbrev pub inner_pat : Read Pat → ℕ → Read Pat
inner_pat sub at ts = sub ts >>= λ p. closed_by at p.0 p.1

-- a constructor or a tag with the pattern behind it, if there is one; another pattern alone
abbrev pub with_argument : ℕ → Pat → List Tok → Pat × List Tok
with_argument n p ts = applied_to p ts (if can_apply p then simple_pat (read_pat n) n ts else None)

-- the first token passes a test
abbrev pub first_is : (Tok → Bool) → List Tok → Bool
first_is q [] = false
first_is q (t ∷ ts) = q t

abbrev pub keyword_operator : List ℕ → Bool
keyword_operator text = bytes_eq text (codes "mod") || bytes_eq text (codes "land") || bytes_eq text (codes "lor") || bytes_eq text
    (codes "lxor") || bytes_eq text (codes "lsl") || bytes_eq text (codes "lsr") || bytes_eq text (codes "asr")
