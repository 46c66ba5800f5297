-- The steps of reading a run, as the code takes them (own).
use Rattle.std.specs.Prelude.{◌≡◌, ℕ, ◌==◌, Bool, true, false, length, List, [], ◌∷◌, Option, Some, None, if◌then◌else◌}
use Rattle.ml_trees.specs.declared.fixed.Fixed.{Fixed}
use Rattle.ml_trees.specs.Tok.{Tok}
use Rattle.ml_trees.specs.Runs.{Bracketing, opens, closes, neither, bracketing, after_bracket, beside_type, begins_type, in_type, in_declaration}
use Rattle.token_reading.specs.Pieces.{one_more, longest}
use Rattle.token_reading.specs.declared.runs.RunKind.{RunKind}
use Rattle.token_reading.specs.declared.runs.RunKind.TheVariants as run
use Rattle.token_reading.specs.declared.runs.BracketKind.{BracketKind}
use Rattle.token_reading.specs.declared.runs.BracketKind.TheVariants as bracket

abbrev pub is_inside : RunKind → Tok → Bool
is_inside run.Type = in_type
is_inside run.Declaration = in_declaration

abbrev pub is_beside : RunKind → Tok → Bool
is_beside run.Type = beside_type
is_beside run.Declaration = in_declaration

-- a token that is no bracket may be the first
abbrev pub is_first : RunKind → Tok → Bool
is_first run.Type = begins_type
is_first run.Declaration = in_declaration

abbrev pub shape_outside : RunKind → Bool → Tok → Bool
shape_outside k true = is_first k
shape_outside k false = is_beside k

abbrev pub bracket_of : BracketKind → Bracketing
bracket_of (bracket.Opens close) = opens close
bracket_of (bracket.Closes close) = closes close
bracket_of bracket.Neither = neither

abbrev pub first_bracketing : List Tok → Bracketing
first_bracketing [] = neither
first_bracketing (t ∷ ts) = bracketing t

-- the words that are still to close the brackets, after the first token
abbrev pub first_after : (Tok → Bool) → (Tok → Bool) → List Tok → List Fixed → Option (List Fixed)
first_after outside inside [] xs = None
first_after outside inside (t ∷ ts) xs = after_bracket outside inside t (bracketing t) xs

-- a token may follow and leaves these words to close, or may not follow
abbrev pub StepsTo : Bool → Option (List Fixed) → List Fixed → Type 0
StepsTo true o xs = o ≡ Some xs
StepsTo false o xs = o ≡ None

-- the number of tokens of the longest run
abbrev pub run_length : RunKind → List Tok → Option ℕ
run_length k [] = None
run_length k (t ∷ ts) = one_more (longest (is_beside k) (is_inside k) (after_bracket (is_first k) (is_inside k) t (bracketing t) []) ts) None

-- a number of tokens; if it is 0, none
abbrev pub counted : ℕ → Option ℕ
counted n = if n == 0 then None else Some n

-- how many tokens are read if all brackets are closed, or else those that were found before
abbrev pub count_after : List Fixed → ℕ → ℕ → ℕ
count_after ys done count = if length ys == 0 then done else count
