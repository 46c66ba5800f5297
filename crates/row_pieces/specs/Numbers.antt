-- The numbers in a row, as `parse` of the Rust standard library reads a u32 (own).
use Rattle.std.specs.Prelude.{ℕ, ◌^◌, ◌<◌, List}
use Rattle.std.specs.Str.Parse.{IsNumeral, digits_value, without_leading_plus}

-- the number that the digits of a word write
abbrev pub value_of : List ℕ → ℕ
value_of word = digits_value 10 (without_leading_plus word)

-- a word is a number below 2^32 in decimal, perhaps after a plus
abbrev pub IsNumber : List ℕ → Type 0
IsNumber word = IsNumeral 10 (without_leading_plus word) × (value_of word < 2 ^ 32)
