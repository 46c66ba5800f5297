-- What a target word names (own).
use Rattle.std.specs.Prelude.{ℕ, List, [], ◌∷◌, ◌==◌, ◌&&◌, ◌+◌, ◌-◌, ◌*◌, Option, Some, None, option_map, option_and_then, if◌then◌else◌, nat_le}
use Rattle.std.specs.Prelude.{nat_lt, take, drop}
use Rattle.std.specs.Char.{is_ascii_digit}
use Rattle.std.specs.List.{slice_split, position}
use Rattle.rotor_base.specs.Stem.{is_source_name}
use Rattle.rotor_base.specs.declared.target.Target.{Target}
use Rattle.rotor_base.specs.declared.target.Target.TheVariants.{At, Spot, Dotted}

-- more digits of a number below 2 ^ 32
abbrev pub digits_more : ℕ → List ℕ → Option ℕ
digits_more n [] = Some n
digits_more n (d ∷ ds) = if is_ascii_digit d && nat_lt (n * 10 + (d - 48)) 4294967296 then digits_more (n * 10 + (d - 48)) ds else None

-- decimal digits with no leading zero, from 1 to 4,294,967,295
abbrev pub number_at : List ℕ → Option ℕ
number_at [] = None
number_at (d ∷ ds) = if nat_le 49 d && nat_le d 57 then digits_more (d - 48) ds else None

-- the bytes before and behind the first byte c, if there is one
abbrev pub cut_at : ℕ → List ℕ → Option (List ℕ × List ℕ)
cut_at c word = option_map (λ i. (take i word, drop (i + 1) word)) (position (λ b. b == c) word)

-- a source and the number of a token of it
abbrev pub token_of : List ℕ × List ℕ → Option (List ℕ × ℕ)
token_of parts = if is_source_name parts.0 then option_map (λ n. (parts.0, n)) (number_at parts.1) else None

-- a word `FILE#N`
abbrev pub token_word : List ℕ → Option (List ℕ × ℕ)
token_word word = option_and_then token_of (cut_at 35 word)

-- a line and a column
abbrev pub spot_of : List ℕ × List ℕ → Option (ℕ × ℕ)
spot_of parts = option_and_then (λ line. option_map (λ column. (line, column)) (number_at parts.1)) (number_at parts.0)

-- a source, with a line and a column of it
abbrev pub spot_in : List ℕ × List ℕ → Option (List ℕ × (ℕ × ℕ))
spot_in parts = if is_source_name parts.0 then option_map (λ spot. (parts.0, spot)) (option_and_then spot_of (cut_at 58 parts.1)) else None

-- a word `FILE:L:C`
abbrev pub spot_word : List ℕ → Option (List ℕ × (ℕ × ℕ))
spot_word word = option_and_then spot_in (cut_at 58 word)

abbrev pub target_by : Option (List ℕ × ℕ) → Option (List ℕ × (ℕ × ℕ)) → List ℕ → Target
target_by (Some token) spot word = At token.0 token.1
target_by None (Some spot) word = Spot spot.0 spot.1.0 spot.1.1
target_by None None word = Dotted (slice_split (λ b. b == 46) word)

-- a word `FILE#N` or `FILE:L:C`; every other word is a dotted path, cut at each `.`
abbrev pub target_of : List ℕ → Target
target_of word = target_by (token_word word) (spot_word word) word
