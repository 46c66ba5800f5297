-- What the calls of a disk find and do (own; POSIX).
use Rattle.std.specs.Prelude.{◌≡◌, ◌≤◌, ℕ, ◌+◌, List, ◌++◌, take, drop, length, Option, Some, ⊤}
use Rattle.tree_io.specs.declared.disk.Found.{Found}
use Rattle.tree_io.specs.declared.disk.Found.TheVariants.{Missing, File, Link, Other}

-- a regular file
abbrev pub IsRegular : Found → Type 0
IsRegular Missing = ⊥
IsRegular (File node) = ⊤
IsRegular Link = ⊥
IsRegular Other = ⊥

-- a regular file with at most one name
abbrev pub IsAlone : Found → Type 0
IsAlone Missing = ⊥
IsAlone (File node) = node.names ≤ 1
IsAlone Link = ⊥
IsAlone Other = ⊥

-- these bytes with a piece over them from an offset on
abbrev pub put_at : ℕ → List ℕ → List ℕ → List ℕ
put_at at piece bytes = take at bytes ++ (piece ++ drop (at + length piece) bytes)

-- if the bytes are known, and reach to the offset, then the piece is now there
abbrev pub PutsAt : ℕ → List ℕ → Option (List ℕ) → Option (List ℕ) → Type 0
PutsAt at piece before now = (bytes : List ℕ) → before ≡ Some bytes → at ≤ length bytes → now ≡ Some (put_at at piece bytes)

-- if the bytes are known, and are no fewer, then just the first so many are left
abbrev pub Cuts : ℕ → Option (List ℕ) → Option (List ℕ) → Type 0
Cuts len before now = (bytes : List ℕ) → before ≡ Some bytes → len ≤ length bytes → now ≡ Some (take len bytes)

-- if the bytes are known, and are so many, then these replace them
abbrev pub Replaces : ℕ → List ℕ → Option (List ℕ) → Option (List ℕ) → Type 0
Replaces len bytes before now = (old : List ℕ) → before ≡ Some old → length old ≡ len → now ≡ Some bytes

-- the bytes from one index to another overwrite the old ones
abbrev pub over : ℕ → ℕ → List ℕ → List ℕ → List ℕ
over from upto bytes old = take from old ++ (drop from (take upto bytes) ++ drop upto old)

-- if the bytes are known, and reach to the first index, then those from one index to another overwrite them
abbrev pub PutsPart : ℕ → ℕ → List ℕ → Option (List ℕ) → Option (List ℕ) → Type 0
PutsPart from upto bytes before now = (old : List ℕ) → before ≡ Some old → from ≤ length old → now ≡ Some (over from upto bytes old)

-- if the bytes are known, and are no fewer, then the first so many are as they were
abbrev pub KeepsFront : ℕ → Option (List ℕ) → Option (List ℕ) → Type 0
KeepsFront len before now = (old : List ℕ) → before ≡ Some old → len ≤ length old
    → (new : List ℕ) × (now ≡ Some new) × (len ≤ length new) × (take len new ≡ take len old)
