-- The line of a source under a message, and the carets (own).
use Rattle.std.specs.Prelude.{ℕ, ◌+◌, ◌-◌, ◌==◌, List, [], ◌∷◌, ◌++◌, Bool, map, min, max, length, take, drop, nat_lt, codes, cond, replicate}
use Rattle.std.specs.Fmt.{decimal}
use Rattle.std.specs.Str.{trim_end}
use Rattle.report.specs.Pieces.{Word, join}
use Rattle.messages.specs.declared.parts.Spot.{Spot}
use Rattle.messages.specs.Shown.{characters_of, safe_bytes}

-- the last so many of a list
abbrev pub last_of : List ℕ → ℕ → List ℕ
last_of list len = drop (length list - len) list

-- the number of a line, in five columns at least
abbrev pub numbered : ℕ → Word
numbered line = replicate (5 - length (decimal line)) 32 ++ decimal line

-- what is shown of a line, with dots where it is cut
abbrev pub line_of : Bool → List ℕ → List ℕ → Bool → Word
line_of is_cut head tail has_more =
    join (cond is_cut (codes "..") [] ∷ safe_bytes head ∷ safe_bytes tail ∷ cond has_more (codes "..") [] ∷ [])

-- before the carets a tab is a tab, and every other character a blank
abbrev pub padding : ℕ → ℕ
padding c = cond (c == 9) 9 32

-- the carets, at least one
abbrev pub carets_of : Bool → List ℕ → ℕ → Word
carets_of is_cut head width = join (cond is_cut (codes "  ") [] ∷ map padding head ∷ replicate (max width 1) 94 ∷ [])

-- of a line with these characters before a place and from it on, of which so many are marked
abbrev pub lines_of : ℕ → List ℕ → List ℕ → ℕ → Word
lines_of line before behind marked =
    let head = last_of before 50 in
    let room = 120 - length head in
    let tail = take room behind in
    let is_cut = nat_lt (length head) (length before) in
    join (numbered line ∷ codes " | " ∷ trim_end (line_of is_cut head tail (nat_lt (length tail) (length behind))) ∷ (10 ∷ codes "      | ")
    ∷ carets_of is_cut head (min marked (length tail)) ∷ (10 ∷ []) ∷ [])

-- the two lines under a message: at most 50 characters before the place, and 120 in all
abbrev pub excerpt_of : Spot → Word
excerpt_of spot = lines_of spot.line (characters_of spot.before) (characters_of spot.behind) (length (characters_of (take spot.width spot.behind)))
