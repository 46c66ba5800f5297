-- Numbers in a sentence (own).
use Rattle.std.specs.Prelude.{ℕ, suc, ◌%◌, ◌==◌, List, [], ◌∷◌, length, codes, cond}
use Rattle.std.specs.Fmt.{decimal}
use Rattle.report.specs.Pieces.{Word, join}

-- a comma, if a group of three digits begins here
abbrev pub comma_before : Word → Word → Word
comma_before [] text = text
comma_before (d ∷ ds) text = cond (length (d ∷ ds) % 3 == 0) (44 ∷ text) text

-- digits with a comma before each three that end them
abbrev pub with_commas : Word → Word
with_commas [] = []
with_commas (d ∷ ds) = d ∷ comma_before ds (with_commas ds)

-- a number in decimal, with commas
abbrev pub grouped : ℕ → Word
grouped number = with_commas (decimal number)

-- a number of things
abbrev pub counted : ℕ → Word → Word
counted number word = join (grouped number ∷ codes " " ∷ word ∷ cond (number == 1) [] (codes "s") ∷ [])
