-- The pieces of a plan, and the rest behind each (own).
use Rattle.std.specs.Prelude.{◌≡◌, ℕ, ◌≤◌, ◌==◌, ◌&&◌, Bool, List, [], ◌∷◌, ◌++◌, true, false, length, codes, nat_le}
use Rattle.std.specs.Fmt.{decimal}
use Rattle.std.specs.List.{list_any}
use Rattle.rotor_base.specs.Limits.{max_file_bytes, max_sources}
use Rattle.rotor_base.specs.Stem.{is_source_name}
use Rattle.rotor_base.specs.declared.source.SourceFile.{SourceFile}
use Rattle.apply_journal.specs.Plan.{line, plan_entry}

-- no byte of the word is `end`
abbrev pub IsWithout : ℕ → List ℕ → Type 0
IsWithout end word = list_any (λ b. b == end) word ≡ false

-- the bytes are a word, the first `end`, and the rest
pub record IsCut (end : ℕ) (bytes word rest : List ℕ) : Type 0 where
  pub split : bytes ≡ (word ++ end ∷ []) ++ rest
  pub without : IsWithout end word

-- the word is one digit, or begins with a digit other than 0
abbrev pub begins_number : List ℕ → Bool
begins_number [] = false
begins_number (b ∷ []) = nat_le 48 b && nat_le b 57
begins_number (b ∷ c ∷ bs) = nat_le 49 b && nat_le b 57

-- the bytes are a line with a number of at most `limit` in decimal, and the rest
pub record IsNumber (limit : ℕ) (bytes : List ℕ) (number : ℕ) (rest : List ℕ) : Type 0 where
  pub split : bytes ≡ line (decimal number) ++ rest
  pub within : number ≤ limit

-- the bytes are the lines above the files of a plan, with the number of the files, and the rest
pub record IsHead (bytes : List ℕ) (count : ℕ) (rest : List ℕ) : Type 0 where
  pub split : bytes ≡ line (codes "rotor-plan 1") ++ ((codes "files " ++ line (decimal count)) ++ rest)
  pub few : count ≤ max_sources

-- the bytes are a source in a plan, within the limit on its bytes, and the rest
pub record IsEntry (bytes : List ℕ) (file : SourceFile) (rest : List ℕ) : Type 0 where
  pub split : bytes ≡ plan_entry file ++ rest
  pub named : is_source_name file.name ≡ true
  pub small : length file.bytes ≤ max_file_bytes

-- the bytes are these sources in a plan, one after another, and the rest
abbrev pub AreEntries : List ℕ → List SourceFile → List ℕ → Type 0
AreEntries bytes [] rest = bytes ≡ rest
AreEntries bytes (file ∷ files) rest = (behind : List ℕ) × IsEntry bytes file behind × AreEntries behind files rest
